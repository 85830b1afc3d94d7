-- `gate_vectors::take_lines`: the place lies in the text, and the buffers keep their lengths.
use Rattle.std.proofs.Common.{length, ◌-◌, ◌≤◌, ◌≡◌}
use Rattle.gate_vectors.proofs.take_lines.Given as goal

abbrev pub invariant-loop-from : goal.invariant-loop-from
invariant-loop-from l = (l.from ≤ length l.initial.text) × (length l.buffer ≡ length l.initial.buffer) × (length l.out ≡ length l.initial.out)

abbrev pub decreases-loop-from : goal.decreases-loop-from
decreases-loop-from l = length l.initial.text - l.from
