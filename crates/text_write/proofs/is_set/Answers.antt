-- By the length and the type.
use Rattle.text_write.proofs.Forming.{forming}
use borrow.Author.Rules.{rules}
use Rattle.text_write.proofs.is_set.Goals as goal

pub returns-then-arg-eq-EXECSET : goal.returns-then-arg-eq-EXECSET
returns-then-arg-eq-EXECSET c = search (forming, rules)

pub returns-else-arg-eq-EXECSET : goal.returns-else-arg-eq-EXECSET
returns-else-arg-eq-EXECSET c = search (forming, rules)

pub returns-else-length-eq-TYPED : goal.returns-else-length-eq-TYPED
returns-else-length-eq-TYPED c = search (forming, rules)
