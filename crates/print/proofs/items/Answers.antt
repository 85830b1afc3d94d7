use Rattle.std.proofs.Common.{rules}
use Rattle.print.proofs.Lines.{lines}
use Rattle.print.proofs.items.Goals as goal

pub loop-k-init : goal.loop-k-init
loop-k-init c = search (lines, rules)

pub loop-k-preserved : goal.loop-k-preserved
loop-k-preserved c = search (lines, rules)
