use Rattle.text_read_item.proofs.Leaves.{counting}
use borrow.Author.Rules.{rules}
use Rattle.text_read_item.proofs.commas.Goals as goal

pub loop-i-preserved-then-is_other : goal.loop-i-preserved-then-is_other
loop-i-preserved-then-is_other c = search (counting, rules)

pub returns-then-e-eq0 : goal.returns-then-e-eq0
returns-then-e-eq0 c = search (counting, rules)

pub loop-i-preserved : goal.loop-i-preserved
loop-i-preserved c = search (counting, rules)

pub returns : goal.returns
returns c = search (counting, rules)
