use Rattle.text_write.proofs.Forming.{forming}
use borrow.Author.Rules.{rules}
use Rattle.text_write.proofs.outermost.Goals as goal

pub returns-in_default : goal.returns-in_default
returns-in_default c = search (forming, rules)

pub returns-then-kind-eq-ARRAY : goal.returns-then-kind-eq-ARRAY
returns-then-kind-eq-ARRAY c = search (forming, rules)

pub returns : goal.returns
returns c = search (forming, rules)
