-- The rows so far, and what is left of the text.
use Rattle.std.proofs.Common.{◌-◌, length}
use Rattle.grant_text.proofs.Whole.{Writing}
use Rattle.grant_text.proofs.write.Given as goal

abbrev pub invariant-loop-from : goal.invariant-loop-from
invariant-loop-from l = Writing l.text l.initial.out l.from l.n l.out

abbrev pub decreases-loop-from : goal.decreases-loop-from
decreases-loop-from l = length l.text - l.from
