-- The target or report of an item (R168, R169) from the words of the item table: counted from the front, an item lies in the last one before it, or in
-- none. Interface: is_target_by, passed_by, targets_to; that these give the number of R169 is proofs/Counting. Private to src/: target_by.
use Rattle.std.specs.Prelude.{ℕ, zero, suc, ◌+◌, ◌-◌, min, Bool, true, false, cond, List, get_or, ltb}
use Rattle.ari.specs.Targets.{is_target}
use Rattle.ari.specs.declared.Target.{Target}
use Rattle.ari.specs.declared.Target.TheVariants.{None, Number}
use Rattle.grammar.specs.Code.{slot_of}
use Rattle.item_table.specs.Entries as items
use Rattle.item_records.specs.declared.Targets.{Targets}

unfoldable pub is_target_by : ℕ → Bool
is_target_by i = is_target (slot_of i)

-- one item further
abbrev pub further : Targets → Bool → ℕ → Targets
further t true after = record { count = min (t.count + 1) 18446744073709551615; end = after }
further t false after = t

unfoldable pub passed_by : Targets → ℕ → Targets
passed_by t e = further t (is_target_by (items.item_of e).slot) (items.item_of e).after

abbrev pub no_targets : Targets
no_targets = record { count = 0; end = 0 }

-- after the first items of a table, so many
abbrev pub targets_to : List ℕ → ℕ → Targets
targets_to t zero = no_targets
targets_to t (suc k) = passed_by (targets_to t k) (get_or t k 0)

abbrev pub target_by : Targets → ℕ → Target
target_by t first = cond (ltb first t.end) (Number (t.count - 1)) None
