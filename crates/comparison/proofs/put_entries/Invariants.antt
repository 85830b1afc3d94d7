-- What is put, and what is left to compare from i and j on, are all entries.
use Prim.Native.Nat.{◌+◌, ◌-◌}
use lib.ListN.{length}
use Rattle.comparison.proofs.Going.{Gone}
use Rattle.comparison.proofs.put_entries.Given as goal

abbrev pub invariant-loop-i : goal.invariant-loop-i
invariant-loop-i l = Gone l.a l.xs l.b l.ys l.initial.out l.out l.i l.j l.p l.different

abbrev pub decreases-loop-i : goal.decreases-loop-i
decreases-loop-i l = (length l.xs - l.i) + (length l.ys - l.j)
