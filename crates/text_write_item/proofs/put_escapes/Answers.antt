use Rattle.text_write_item.proofs.Puts.{puts}
use borrow.Author.Rules.{rules}
use Rattle.text_write_item.proofs.put_escapes.Goals as goal

pub loop-x-init : goal.loop-x-init
loop-x-init c = search (puts, rules)

pub loop-x-preserved : goal.loop-x-preserved
loop-x-preserved c = search (puts, rules)

pub returns : goal.returns
returns c = search (puts, rules)
