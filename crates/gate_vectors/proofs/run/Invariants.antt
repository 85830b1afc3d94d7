-- `gate_vectors::run`: the bytes that are kept lie in the input's buffer, and the buffers keep their lengths. The measure is the turns that are left: more
-- than any input takes.
use Rattle.std.proofs.Common.{length, ◌≤◌, ◌≡◌}
use Rattle.gate_vectors.proofs.run.Given as goal

abbrev pub invariant-loop-turns : goal.invariant-loop-turns
invariant-loop-turns l =
    (l.s.kept ≤ length l.input) × (length l.input ≡ length l.initial.input) × (length l.buffer ≡ length l.initial.buffer)
    × (length l.out ≡ length l.initial.out)

abbrev pub decreases-loop-turns : goal.decreases-loop-turns
decreases-loop-turns l = l.turns
