use Rattle.text_read_item.proofs.Leaves.{strings}
use borrow.Author.Rules.{rules}
use Rattle.text_read_item.proofs.unescaped_length.Goals as goal

pub returns : goal.returns
returns c = search (strings, rules)
