use Rattle.text_read_item.proofs.Leaves.{counting}
use borrow.Author.Rules.{rules}
use Rattle.text_read_item.proofs.key_of.Goals as goal

pub returns-then-u-gt7 : goal.returns-then-u-gt7
returns-then-u-gt7 c = search (counting, rules)

pub loop-x-preserved : goal.loop-x-preserved
loop-x-preserved c = search (counting, rules)

pub overflow_add-result : goal.overflow_add-result
overflow_add-result c = search (counting, rules)

pub returns : goal.returns
returns c = search (counting, rules)
