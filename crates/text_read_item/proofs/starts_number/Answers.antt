use Rattle.text_read_item.proofs.Leaves.{leading}
use borrow.Author.Rules.{rules}
use Rattle.text_read_item.proofs.starts_number.Goals as goal

pub returns-in_default : goal.returns-in_default
returns-in_default c = search (leading, rules)

pub returns-in_default-2 : goal.returns-in_default-2
returns-in_default-2 c = search (leading, rules)

pub returns-in-45 : goal.returns-in-45
returns-in-45 c = search (leading, rules)

pub returns-in-45-2 : goal.returns-in-45-2
returns-in-45-2 c = search (leading, rules)
