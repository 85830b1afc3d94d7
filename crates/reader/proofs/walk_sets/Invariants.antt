-- Whatever ends the sets from here ends the whole.
use Rattle.std.proofs.Common.{◌≡◌, ◌≤◌, ◌-◌, length}
use Rattle.reader.specs.Walks.{both}
use Rattle.reader.proofs.Whole.{SetsLead}
use Rattle.reader.proofs.walk_sets.Given as goal

abbrev pub invariant-loop-p : goal.invariant-loop-p
invariant-loop-p l =
    SetsLead l.s l.items l.containers l.fn.at l.fn.count (both l.initial.entries l.initial.references) l.p l.c (both l.entries l.references) × (l.p ≤ length l.s) × (l.c ≤ l.items)
    × (length l.entries ≡ length l.initial.entries) × (length l.references ≡ length l.initial.references)

abbrev pub decreases-loop-p : goal.decreases-loop-p
decreases-loop-p l = length l.s - l.p
