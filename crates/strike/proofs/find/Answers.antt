-- What is left of the table finds it.
use Rattle.std.proofs.Common.{rules}
use Rattle.strike.proofs.Ways.{seekings}
use Rattle.strike.proofs.find.Goals as goal

pub loop-k-init : goal.loop-k-init
loop-k-init c = search (seekings, rules)

pub loop-k-preserved-then-not-is_target : goal.loop-k-preserved-then-not-is_target
loop-k-preserved-then-not-is_target c = search (seekings, rules)

pub returns-then-passed-number : goal.returns-then-passed-number
returns-then-passed-number c = search (seekings, rules)

pub loop-k-preserved : goal.loop-k-preserved
loop-k-preserved c = search (seekings, rules)

pub returns : goal.returns
returns c = search (seekings, rules)
