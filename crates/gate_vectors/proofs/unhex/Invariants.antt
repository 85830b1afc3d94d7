-- `gate_vectors::unhex`: the buffer keeps its length, and has room for the count.
use Rattle.std.proofs.Common.{length, ◌-◌, ◌*◌, ◌≤◌, ◌≡◌}
use Rattle.gate_vectors.proofs.unhex.Given as goal

abbrev pub invariant-loop-i : goal.invariant-loop-i
invariant-loop-i l =
    (l.i ≤ l.initial.count) × (l.initial.count ≤ length l.buffer) × (2 * l.initial.count ≤ length l.initial.digits)
    × (length l.buffer ≡ length l.initial.buffer)

abbrev pub decreases-loop-i : goal.decreases-loop-i
decreases-loop-i l = l.initial.count - l.i
