-- Arrays and maps.
use Rattle.text_write_item.proofs.Spelled.{containers}
use borrow.Author.Rules.{rules}
use Rattle.text_write_item.proofs.is_container.Goals as goal

pub returns-in-4 : goal.returns-in-4
returns-in-4 c = search (containers, rules)

pub returns-in_default : goal.returns-in_default
returns-in_default c = search (containers, rules)

pub returns-in_default-2 : goal.returns-in_default-2
returns-in_default-2 c = search (containers, rules)
