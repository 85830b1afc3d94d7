-- Whatever float is found from here on is the first of the whole input.
use Prim.Native.Nat.{◌-◌, ◌≤◌}
use lib.ListN.{length}
use Rattle.text_write.proofs.Forming.{Onto}
use Rattle.text_write.proofs.first_float.Given as goal

abbrev pub invariant-loop-p : goal.invariant-loop-p
invariant-loop-p l = Onto l.s l.p × (l.p ≤ length l.s)

abbrev pub decreases-loop-p : goal.decreases-loop-p
decreases-loop-p l = length l.s - l.p
