-- Private to src/: the number that a row must hold to grant a namespace, the rows that a search passes, and those compared for the entry found last.
use Rattle.std.specs.Prelude.{ℕ, ◌+◌, ◌*◌, ◌/◌, ◌≤◌, ◌≡◌, List, true, false, cond, length, drop, eqb, Option}
use Rattle.std.specs.declared.option.Option.TheVariants.{None, Some}
use Rattle.ari.specs.Signed.{signed}
use Rattle.grants.specs.Grants.{some, holds}
use Rattle.grants.specs.Bytes.{holds_at, rows}
use Rattle.listing.specs.declared.Namespace.{Namespace}
use Rattle.listing.specs.declared.Namespace.TheVariants.{Number, Name, Relative}
use Rattle.release.specs.Compared.{rows_up_to}
use Rattle.release.specs.declared.LastRow.{LastRow}

abbrev pub sought_by : Namespace → Option ℕ
sought_by (Number w) = Some w
sought_by (Name p n) = None
sought_by Relative = None

-- where the search for a number's row starts, after the row found last
abbrev pub start_by : ℕ → Option LastRow → ℕ
start_by w None = 0
start_by w (Some r) = cond (eqb r.word w) r.place 0

-- the rows compared for the entry that it grants
abbrev pub last_rows : Option LastRow → ℕ
last_rows None = 0
last_rows (Some r) = r.place / 16 + 1

-- a whole row at a place that grants a subscriber nothing
pub record Other (t : List ℕ) (at s : ℕ) : Type 0 where
  pub there : at + 16 ≤ length t
  pub grants_none : (n : ℕ) → holds_at t at s n ≡ false

-- so many bytes of such rows: none, one, or four
pub data Others (t : List ℕ) (at s : ℕ) : ℕ → Type 0 where
  none : Others t at s 0
  one : Other t at s → Others t at s 16
  four : Other t at s → Other t (at + 16) s → Other t (at + 32) s → Other t (at + 48) s → Others t at s 64

-- No row before a place grants the number with this word: the rows from there on decide, and those before were compared.
pub record Before (t : List ℕ) (s w at : ℕ) : Type 0 where
  pub inside : at ≤ length t
  pub from_here : some (holds s (signed w)) (rows t) ≡ some (holds s (signed w)) (rows (drop at t))
  pub behind : 16 * rows_up_to (holds s (signed w)) (rows t) ≡ at + 16 * rows_up_to (holds s (signed w)) (rows (drop at t))

-- what a search ends with: every row was compared and none grants it,
pub record NoRow (t : List ℕ) (s w : ℕ) : Type 0 where
  pub not_granted : some (holds s (signed w)) (rows t) ≡ false
  pub compared : rows_up_to (holds s (signed w)) (rows t) ≡ length t / 16

-- or the row at a place is the first that does
pub record RowAt (t : List ℕ) (s w at : ℕ) : Type 0 where
  pub granted : some (holds s (signed w)) (rows t) ≡ true
  pub compared : rows_up_to (holds s (signed w)) (rows t) ≡ at / 16 + 1
  pub before : Before t s w at
