use Rattle.text_read_item.proofs.Leaves.{leaves}
use borrow.Author.Rules.{rules}
use Rattle.text_read_item.proofs.unhex.Goals as goal

pub returns-in-48-to-57 : goal.returns-in-48-to-57
returns-in-48-to-57 c = (search (leaves, rules), search rules)

pub returns-in-65-to-70 : goal.returns-in-65-to-70
returns-in-65-to-70 c = (search (leaves, rules), search rules)

pub returns-in-97-to-102 : goal.returns-in-97-to-102
returns-in-97-to-102 c = (search (leaves, rules), search rules)

pub returns-in_default : goal.returns-in_default
returns-in_default c = (search (leaves, rules), search rules)

pub returns-in_default-2 : goal.returns-in_default-2
returns-in_default-2 c = (search (leaves, rules), search rules)

pub returns-in_default-3 : goal.returns-in_default-3
returns-in_default-3 c = (search (leaves, rules), search rules)

pub returns-in_default-4 : goal.returns-in_default-4
returns-in_default-4 c = (search (leaves, rules), search rules)
