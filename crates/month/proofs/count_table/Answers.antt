use borrow.Author.Rules.{rules}
use Rattle.month.proofs.Walking.{spacings}
use Rattle.month.proofs.count_table.Goals as goal

pub loop-k-init : goal.loop-k-init
loop-k-init c = search (spacings, rules)

pub loop-k-preserved-in_default : goal.loop-k-preserved-in_default
loop-k-preserved-in_default c = search (spacings, rules)

pub loop-k-preserved : goal.loop-k-preserved
loop-k-preserved c = search (spacings, rules)

pub returns : goal.returns
returns c = search (spacings, rules)
