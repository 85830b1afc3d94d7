use Prim.Native.Nat.{◌*◌}
use mathlib.Core.Path.{◌≡◌}
use lib.ListN.{length, drop}
use Rattle.text.specs.Parse.{unhexes}
use Rattle.text_read_item.proofs.Leaves.{Leads}
use Rattle.text_read_item.proofs.put_unhexed.Given as goal

abbrev pub invariant-loop-i : goal.invariant-loop-i
invariant-loop-i l = Leads l.initial.out l.at (unhexes l.u) l.out l.r (unhexes (drop (2 * l.i) l.u)) × (length l.out ≡ length l.initial.out)
