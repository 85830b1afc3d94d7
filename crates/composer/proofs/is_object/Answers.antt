-- The head's kind and argument.
use Rattle.composer.proofs.Ways.{objects}
use borrow.Author.Rules.{rules}
use Rattle.composer.proofs.is_object.Goals as goal

pub returns-in_default : goal.returns-in_default
returns-in_default c = search (objects, rules)

pub returns-then-arg-ge3 : goal.returns-then-arg-ge3
returns-then-arg-ge3 c = search (objects, rules)

pub returns-else-arg-ge3 : goal.returns-else-arg-ge3
returns-else-arg-ge3 c = search (objects, rules)
