use Rattle.text_read_item.proofs.Leaves.{leaves}
use borrow.Author.Rules.{rules}
use Rattle.text_read_item.proofs.escape_at.Goals as goal

pub returns-then-u-i-ne37 : goal.returns-then-u-i-ne37
returns-then-u-i-ne37 c = search (leaves, rules)

pub returns-then-u-i-lt3 : goal.returns-then-u-i-lt3
returns-then-u-i-lt3 c = search (leaves, rules)

pub returns : goal.returns
returns c = search (leaves, rules)
