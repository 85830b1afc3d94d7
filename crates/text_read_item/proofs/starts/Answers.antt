-- The byte at a place.
use Rattle.text_read_item.proofs.Leaves.{leaves}
use borrow.Author.Rules.{rules}
use Rattle.text_read_item.proofs.starts.Goals as goal

pub returns-then-at-t : goal.returns-then-at-t
returns-then-at-t c = search (leaves, rules)

pub returns-else-at-t : goal.returns-else-at-t
returns-else-at-t c = search (leaves, rules)
