-- What the lines so far gave, and what is left of the text.
use Rattle.std.proofs.Common.{◌-◌, length}
use Rattle.grant_text.proofs.Whole.{Gathers}
use Rattle.grant_text.proofs.count.Given as goal

abbrev pub invariant-loop-from : goal.invariant-loop-from
invariant-loop-from l = Gathers l.text l.room l.from l.lines l.n

abbrev pub decreases-loop-from : goal.decreases-loop-from
decreases-loop-from l = length l.text - l.from
