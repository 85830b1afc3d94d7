use Rattle.text_read_item.proofs.Leaves.{strings}
use borrow.Author.Rules.{rules}
use Rattle.text_read_item.proofs.put_unescaped.Goals as goal

pub loop-i-preserved : goal.loop-i-preserved
loop-i-preserved c = search (strings, rules)

pub returns : goal.returns
returns c = search (strings, rules)
