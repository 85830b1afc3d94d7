-- What is gathered from where it began is what is gathered from here on behind others.
use Rattle.composer.proofs.Going.{onward}
use borrow.Author.Rules.{rules}
use Rattle.composer.proofs.rest_of.Goals as goal

pub loop-p-init : goal.loop-p-init
loop-p-init c = search (onward, rules)

pub returns-then-e-texts : goal.returns-then-e-texts
returns-then-e-texts c = search (onward, rules)

pub returns-in_default : goal.returns-in_default
returns-in_default c = search (onward, rules)

pub loop-p-preserved : goal.loop-p-preserved
loop-p-preserved c = search (onward, rules)
