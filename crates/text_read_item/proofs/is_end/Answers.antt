-- The bytes that end a word.
use Rattle.text_read_item.proofs.Leaves.{leaves}
use borrow.Author.Rules.{rules}
use Rattle.text_read_item.proofs.is_end.Goals as goal

pub returns-in_default : goal.returns-in_default
returns-in_default c = search (leaves, rules)

pub returns-in_default-2 : goal.returns-in_default-2
returns-in_default-2 c = search (leaves, rules)

pub returns-in-40 : goal.returns-in-40
returns-in-40 c = search (leaves, rules)

pub returns-in-40-2 : goal.returns-in-40-2
returns-in-40-2 c = search (leaves, rules)
