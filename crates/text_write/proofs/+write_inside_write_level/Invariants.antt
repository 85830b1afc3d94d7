-- By the depth; and in the loop whatever is written from here on ends what was begun.
use Prim.Native.Nat.{◌+◌, ◌-◌, ◌*◌, ◌≤◌}
use mathlib.Core.Path.{◌≡◌}
use lib.ListN.{length}
use Rattle.ari.specs.Table.{due}
use Rattle.grammar.specs.Code.{slot_of, IsSlot}
use Rattle.text_write.proofs.Writing.{Leads}
use Rattle.text_write.proofs.+write_inside_write_level.Given as goal

abbrev pub decreases-write_inside : goal.decreases-write_inside
decreases-write_inside l = l.depth * 2

abbrev pub decreases-write_level : goal.decreases-write_level
decreases-write_level l = l.depth * 2 + 1

abbrev pub invariant-write_level-loop-kind : goal.invariant-write_level-loop-kind
invariant-write_level-loop-kind l =
    Leads l.s (due (slot_of l.slot) l.more) l.depth l.at l.end l.initial.out (due (slot_of l.place) l.left) l.p l.r l.out × IsSlot l.place × (l.p ≤ length l.s) × (length l.out ≡ length l.initial.out)

abbrev pub decreases-write_level-loop-kind : goal.decreases-write_level-loop-kind
decreases-write_level-loop-kind l = length l.s - l.p
