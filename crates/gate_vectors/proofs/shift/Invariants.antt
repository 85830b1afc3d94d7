-- `gate_vectors::shift`: the buffer keeps its length, and the second place is not past the first.
use Rattle.std.proofs.Common.{length, ◌-◌, ◌≤◌, ◌≡◌}
use Rattle.gate_vectors.proofs.shift.Given as goal

abbrev pub invariant-loop-i : goal.invariant-loop-i
invariant-loop-i l = (l.j ≤ l.i) × (l.i ≤ l.initial.to) × (length l.input ≡ length l.initial.input)

abbrev pub decreases-loop-i : goal.decreases-loop-i
decreases-loop-i l = l.initial.to - l.i
