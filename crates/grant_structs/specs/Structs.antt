-- Grant structs as the rows of a table: R83, R87, R88, R90, R150 to R153. Interface: row_by, grant_of, grants. Private to src/: all else.
use Rattle.std.specs.Prelude.{ℕ, zero, suc, ◌+◌, ◌*◌, ◌/◌, ◌≤◌, ◌≡◌, Bool, true, false, ◌&&◌, cond, List, [], ◌∷◌, map, ℤ, pos, length, get_or, eqb, ltb}
use Rattle.ari.specs.declared.Limits.{Limits}
use Rattle.ari.specs.Signed.{signed}
use Rattle.grants.specs.Grants.{Grant, some, clash, holds, Check, passes, refused}
use Rattle.buffer.specs.Bytes.{load_at}
use Rattle.std.specs.Prelude.{IfOk}
use Rattle.std.specs.declared.result.Result.{Result}
use Rattle.std.specs.declared.result.Result.TheVariants.{Ok, Err}
use Rattle.ari.specs.declared.Refusal.{Refusal}
use Rattle.release.specs.declared.Released.{Released}
use Rattle.release.specs.Release.{Release, yes, no}
use Rattle.release.specs.Compared.{rows_up_to, within64, counted, counted_rows}
use Rattle.grant_structs.specs.declared.Grant.{Grant as Row}

abbrev pub row_by : ℕ → ℤ → Grant
row_by s z = record { subscriber = s; namespace = z }

abbrev pub grant_of : Row → Grant
grant_of r = row_by r.subscriber r.namespace

abbrev pub grants : List Row → List Grant
grants = map grant_of

-- the two tests of a row against g
abbrev pub meets_by : Bool → Grant → Grant → Bool
meets_by true g = clash g
meets_by false g = holds g.subscriber g.namespace

-- the first row that is as asked, or how many there are
abbrev pub first_row : (Grant → Bool) → List Grant → ℕ
first_row p [] = 0
first_row p (g ∷ gs) = cond (p g) 0 (suc (first_row p gs))

-- how many of n rows a search compared that ended at i
abbrev pub compared_by : ℕ → ℕ → ℕ
compared_by i n = cond (ltb i n) (suc i) n

-- what stands past the end
abbrev pub none : Row
none = record { subscriber = 0; namespace = pos 0 }

abbrev pub row_at : List Row → ℕ → Row
row_at t i = get_or t i none

-- a search over n rows, or over n entries, that ended at i
abbrev pub found_at : ℕ → ℕ → Check
found_at i n = cond (ltb i n) (refused 18 i) passes

abbrev pub held_at : ℕ → ℕ → Release
held_at i n = cond (ltb i n) (no i) yes

-- entry i of a listing as bytes (R94): is its namespace a number, and which
abbrev pub number_kind : ℕ
number_kind = 0

abbrev pub is_number : List ℕ → ℕ → Bool
is_number l i = eqb (load_at 8 l (24 * i + 8)) number_kind

abbrev pub number_at : List ℕ → ℕ → ℤ
number_at l i = signed (load_at 8 l (24 * i + 16))

-- the row that grants entry i to s, if its namespace is a number
abbrev pub wanted_at : List ℕ → ℕ → ℕ → Row
wanted_at l i s = record { subscriber = s; namespace = number_at l i }

-- how many of n rows may grant entry i
abbrev pub rows_for : List ℕ → ℕ → ℕ → ℕ
rows_for l i n = cond (is_number l i) n 0

abbrev pub granted_at : List Grant → ℕ → List ℕ → ℕ → Bool
granted_at t s l i = is_number l i && some (holds s (number_at l i)) t

-- n entries from i on: the first that is not granted
abbrev pub judged_from : (ℕ → Bool) → ℕ → ℕ → Release
judged_from ok i zero = yes
judged_from ok i (suc n) = let r = judged_from ok (suc i) n in cond (ok i) r (no i)

-- how many rows are compared for entry i, and for n entries from i on
abbrev pub cost_at : List Grant → ℕ → List ℕ → ℕ → ℕ
cost_at t s l i = cond (is_number l i) (rows_up_to (holds s (number_at l i)) t) 0

abbrev pub compared_from : (ℕ → Bool) → (ℕ → ℕ) → ℕ → ℕ → ℕ
compared_from ok cost i zero = 0
compared_from ok cost i (suc n) = let r = compared_from ok cost (suc i) n in cost i + cond (ok i) r 0

-- what n entries give, with that count
abbrev pub judged_counted : List Grant → ℕ → List ℕ → ℕ → Result Released Refusal
judged_counted t s l n = counted (judged_from (granted_at t s l) 0 n) (within64 (compared_from (granted_at t s l) (cost_at t s l) 0 n))

-- the refusal of the message or of a list, or what so many entries give
abbrev pub answer_by : Result ℕ Refusal → (ℕ → Result Released Refusal) → Result Released Refusal
answer_by (Ok k) f = f k
answer_by (Err e) f = Err e

-- The listing's answer and its bytes decide, and cost, as the message does under two lists, whatever the table.
pub record Decides (m : Limits) (b published own : List ℕ) (l : Result ℕ Refusal) (x : List ℕ) : Type 0 where
  pub most : IfOk l (λ k. k ≤ length x / 24)
  pub decides : (t : List Grant) (s : ℕ) → answer_by l (judged_counted t s x) ≡ counted_rows m b t published own s
