use Prim.Native.Nat.{◌-◌}
use lib.ListN.{length}
use Rattle.text_read_item.proofs.Leaves.{Unescaped}
use Rattle.text_read_item.proofs.unescaped_length.Given as goal

abbrev pub invariant-loop-i : goal.invariant-loop-i
invariant-loop-i l = Unescaped l.u l.n l.i

abbrev pub decreases-loop-i : goal.decreases-loop-i
decreases-loop-i l = length l.u - l.i
