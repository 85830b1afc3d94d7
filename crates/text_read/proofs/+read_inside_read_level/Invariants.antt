-- By the depth; and in the loop whatever is read from here on finishes what was begun.
use Prim.Native.Nat.{◌+◌, ◌-◌, ◌*◌, ◌≤◌}
use mathlib.Core.Path.{◌≡◌}
use lib.ListN.{length, drop}
use Rattle.ari.specs.Table.{due}
use Rattle.grammar.specs.Code.{slot_of, IsSlot}
use Rattle.text.specs.Parse.{level, parse}
use Rattle.text_read.proofs.Walking.{Toward}
use Rattle.text_read.proofs.+read_inside_read_level.Given as goal

abbrev pub decreases-read_inside : goal.decreases-read_inside
decreases-read_inside l = l.depth * 2

abbrev pub decreases-read_level : goal.decreases-read_level
decreases-read_level l = l.depth * 2 + 1

abbrev pub invariant-read_level-loop-turn : goal.invariant-read_level-loop-turn
invariant-read_level-loop-turn l =
    Toward l.t (level (parse l.items l.depth) l.items (due (slot_of l.slot) l.more) (drop l.at l.t)) l.end l.initial.out (level (parse l.items l.depth) (l.items - l._turn) (due (slot_of l.place) l.left) (drop l.p l.t)) l.r l.out
    × IsSlot l.place × (l.p ≤ length l.t) × (length l.out ≡ length l.initial.out)
