-- Private to src/: two item tables side by side.
use Rattle.std.specs.Prelude.{ℕ, suc, ◌<◌, ◌≤◌, ◌≡◌, Bool, true, cond, List, [], ◌∷◌, ◌++◌, length, drop, ltb, eqb}
use Rattle.buffer.specs.Bytes.{be}
use Rattle.ari.specs.Table.{max64}
use Rattle.ari.specs.declared.Limits.{Limits}
use Rattle.ari.specs.declared.Input.TheVariants.{Message}
use Rattle.ari.specs.Targets.{is_target}
use Rattle.item_table.specs.Entries.{item_of, spot_number, Tabled}
use Rattle.item_records.specs.Numbered.{is_target_by}
use Rattle.comparison.specs.declared.Difference.{Difference}
use Rattle.comparison.specs.declared.Compared.{Compared}
use Rattle.comparison.specs.Comparison.{Part, Entry, only_first, only_second, entry_of, what_of, first_of, second_of, different}

-- the whole table of an accepted message
pub data Table (b t : List ℕ) : Type 0 where
  whole : {m : Limits} → Tabled m Message b (length t) t → Table b t

-- the word of a target or report
abbrev pub is_target_word : ℕ → Bool
is_target_word w = is_target_by (item_of w).slot

abbrev pub targets_in : List ℕ → ℕ
targets_in [] = 0
targets_in (w ∷ ws) = let r = targets_in ws in cond (is_target_word w) (suc r) r

-- the number of the first such word among words that are numbered from k on, or the number behind the last
abbrev pub next_from : ℕ → List ℕ → ℕ
next_from k [] = k
next_from k (w ∷ ws) = cond (is_target_word w) k (next_from (suc k) ws)

abbrev pub next_target : List ℕ → ℕ → ℕ
next_target t k = next_from k (drop k t)

-- behind the k-th
abbrev pub target_behind : List ℕ → ℕ → ℕ
target_behind t k = cond (ltb k (length t)) (next_target t (suc k)) k

-- a target or report stands at k, or the table ends there
pub record Reached (b t : List ℕ) (k : ℕ) : Type 0 where
  pub inside : k ≤ length t
  pub is_one : k < length t → is_target (spot_number Message b k).slot ≡ true

-- one is reached in both
pub record Both (a t : List ℕ) (i : ℕ) (b u : List ℕ) (j : ℕ) : Type 0 where
  pub first : Table a t
  pub second : Table b u
  pub at_first : Reached a t i
  pub at_second : Reached b u j
  pub in_first : i < length t
  pub in_second : j < length u

abbrev pub part_at : List ℕ → ℕ → Part
part_at b k = record { number = k; spot = spot_number Message b k }

-- the entry of what is reached in both
abbrev pub entry_at : List ℕ → List ℕ → ℕ → List ℕ → List ℕ → ℕ → Entry
entry_at a t i b u j = cond (ltb i (length t)) (cond (ltb j (length u)) (entry_of (part_at a i) (part_at b j)) only_first) only_second

-- an entry as the code has it
abbrev pub without_items : ℕ → Difference
without_items what = record { what = what; first = max64; second = max64 }

abbrev pub difference_of : Entry → Difference
difference_of e = record { what = what_of e; first = first_of e; second = second_of e }

abbrev pub difference_bytes : Difference → List ℕ
difference_bytes e = be 8 e.what ++ (be 8 e.first ++ be 8 e.second)

abbrev pub is_different : Difference → ℕ
is_different e = cond (eqb e.what 0) 0 1

-- all of them
abbrev pub tally_of : List Entry → Compared
tally_of es = record { different = different es; entries = length es }
