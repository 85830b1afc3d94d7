-- By what reading the text answers.
use Rattle.composer.proofs.Taking.{taking}
use borrow.Author.Rules.{rules}
use Rattle.composer.proofs.take_text.Goals as goal

pub returns-then-is_object : goal.returns-then-is_object
returns-then-is_object c = search (taking, rules)

pub returns-else-is_object : goal.returns-else-is_object
returns-else-is_object c = search (taking, rules)

pub returns-in-NoRoom : goal.returns-in-NoRoom
returns-in-NoRoom c = search (taking, rules)

pub returns-in_default : goal.returns-in_default
returns-in_default c = search (taking, rules)
