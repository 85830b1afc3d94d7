-- Of the entries' loop: those before this item are granted, and the rows of the last of them are not in `compared` yet. Of the rows' loop: no row before `at`
-- grants this entry's number.
use Prim.Native.Nat.{◌+◌, ◌-◌, ◌≤◌}
use mathlib.Core.Path.{◌≡◌}
use lib.ListN.{length}
use Rattle.std.specs.Prelude.{IfSome}
use Rattle.std.specs.declared.option.Option.TheVariants.{None}
use Rattle.release.specs.Rows.{last_rows, Before}
use Rattle.release.proofs.Search.{Passed}
use Rattle.release.proofs.release_table.Given as goal

abbrev pub invariant-entries : goal.invariant-entries
invariant-entries l = record {
  fewer : l.entry ≤ l.item-index;
  passed : Passed l.s l.fn.grants l.published l.own l.subscriber l.entry l.item-index (l.compared + last_rows l.last);
  last : IfSome l.last (λ r. Before l.fn.grants l.subscriber r.word r.place);
  none_held : l.held ≡ None;
}

abbrev pub invariant-rows : goal.invariant-rows
invariant-rows l = record { same_count : l.compared ≡ l.initial.compared; none_held : l.held ≡ None; before : Before l.grants l.subscriber l.word l.at }

abbrev pub decreases-rows : goal.decreases-rows
decreases-rows l = length l.grants - l.at
