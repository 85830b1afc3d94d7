-- `gate_vectors::digits_of`: the output's buffer keeps its length.
use Rattle.std.proofs.Common.{length, ◌-◌, ◌≡◌}
use Rattle.gate_vectors.proofs.digits_of.Given as goal

abbrev pub invariant-loop-i : goal.invariant-loop-i
invariant-loop-i l = length l.out ≡ length l.initial.out

abbrev pub decreases-loop-i : goal.decreases-loop-i
decreases-loop-i l = l.initial.length - l.i
