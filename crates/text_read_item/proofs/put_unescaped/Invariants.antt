use Prim.Native.Nat.{◌-◌, ◌≤◌}
use mathlib.Core.Path.{◌≡◌}
use lib.ListN.{length, drop}
use Rattle.text.specs.Parse.{any, unescape}
use Rattle.text_read_item.proofs.Leaves.{Leads}
use Rattle.text_read_item.proofs.put_unescaped.Given as goal

abbrev pub invariant-loop-i : goal.invariant-loop-i
invariant-loop-i l = Leads l.initial.out l.at (unescape any l.u) l.out l.r (unescape any (drop l.i l.u)) × (l.i ≤ length l.u) × (length l.out ≡ length l.initial.out)

abbrev pub decreases-loop-i : goal.decreases-loop-i
decreases-loop-i l = length l.u - l.i
