-- Both measures are the containers that may still be opened.
use Prim.Native.Nat.{◌+◌, ◌-◌, ◌*◌, ◌^◌, ◌<◌, ◌≤◌}
use mathlib.Core.Path.{◌≡◌}
use mathlib.Core.Bool.{true}
use mathlib.Core.List.{[]}
use lib.ListN.{length}
use Rattle.buffer.specs.Bytes.{all, is_byte, part}
use Rattle.cbor.specs.Head.{key_of}
use Rattle.grammar.specs.Code.{slot_of, IsSlot}
use Rattle.reader.specs.Walks.{both}
use Rattle.reader.proofs.Loop.{Leads}
use Rattle.item_table.proofs.References.{Pending}
use Rattle.reader.proofs.+walk_inside_walk_level.Given as goal

abbrev pub decreases-walk_inside : goal.decreases-walk_inside
decreases-walk_inside l = l.depth * 2

abbrev pub decreases-walk_level : goal.decreases-walk_level
decreases-walk_level l = l.depth * 2 + 1

abbrev pub invariant-walk_level-loop-entries : goal.invariant-walk_level-loop-entries
invariant-walk_level-loop-entries l =
    Leads l.s l.items (slot_of l.slot) l.more [] l.depth l.around l.at l.count (both l.initial.entries l.initial.references) (slot_of l.place) l.left (key_of (part l.s l.prev.from l.prev.to)) l.allowed l.opened l.p l.c (both l.entries l.references) l.pending
    × IsSlot l.place × (l.prev.from ≤ l.prev.to) × (l.prev.to ≤ length l.s) × (l.p ≤ length l.s) × (l.c ≤ l.items) × (length l.entries ≡ length l.initial.entries)
    × (all is_byte l.s ≡ true) × (l.allowed + l.opened < 2 ^ 64) × (l.allowed ≤ l.depth)
    × (length l.references ≡ length l.initial.references) × Pending l.pending l.references

abbrev pub decreases-walk_level-loop-entries : goal.decreases-walk_level-loop-entries
decreases-walk_level-loop-entries l = length l.initial.s - l.p
