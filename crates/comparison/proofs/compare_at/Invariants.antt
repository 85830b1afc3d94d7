-- The items before those at p and q are alike.
use Prim.Native.Nat.{◌-◌, ◌≤◌}
use lib.ListN.{length}
use Rattle.comparison.proofs.Walking.{Walked}
use Rattle.comparison.proofs.compare_at.Given as goal

abbrev pub invariant-loop-p : goal.invariant-loop-p
invariant-loop-p l = (l.p ≤ length l.xs) × Walked l.a l.xs l.b l.ys l.i l.j l.end l.p l.q

abbrev pub decreases-loop-p : goal.decreases-loop-p
decreases-loop-p l = length l.initial.xs - l.p
