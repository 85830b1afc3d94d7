-- `gate_stream::is_received`: what is lent keeps its length; each piece has a byte at least.
use Rattle.std.proofs.Common.{length, ◌-◌, ◌≡◌}
use Rattle.gate_stream.proofs.is_received.Given as goal

abbrev pub invariant-loop-total : goal.invariant-loop-total
invariant-loop-total g l =
    (length l.state ≡ length l.initial.state) × (length l.message ≡ length l.initial.message) × (length l.piece ≡ length l.initial.piece)
    × (length l.out ≡ length l.initial.out)

abbrev pub decreases-loop-total : goal.decreases-loop-total
decreases-loop-total g l = 16385 - l.total
