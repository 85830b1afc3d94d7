-- The search over a listing's entries. The idea: what is left from entry i on decides, and its cost is added to what was compared, until an entry is not
-- granted or none is left.
use Prim.Native.Nat.{ℕ, zero, suc, ◌+◌, ◌-◌, ◌*◌, ◌<◌, ◌≤◌, min}
use mathlib.Core.Path.{◌≡◌, refl, sym, ◌∙◌, ap}
use mathlib.Core.Bool.{Bool, true, false, ◌&&◌, cond}
use mathlib.Core.List.{List}
use native.Mathlib.Omega.{arith}
use lib.IntN.{ℤ}
use lib.ListN.{length, take}
use lib.Dec.{ltb, leb}
use borrow.Author.Tests.{lt-ltb, le-ltb, leb-true, leb-false, eq-eqb, ne_eqb}
use Rattle.ari.specs.Signed.{signed}
use Rattle.grants.specs.Grants.{Grant, some, holds}
use Rattle.buffer.specs.Bytes.{load_at}
use Rattle.release.specs.declared.Released.{Released}
use Rattle.release.specs.declared.Released.TheVariants.{Yes, No}
use Rattle.std.specs.declared.result.Result.{Result}
use Rattle.std.specs.declared.result.Result.TheVariants.{Ok}
use Rattle.ari.specs.declared.Refusal.{Refusal}
use Rattle.release.specs.Release.{Release, yes, no}
use Rattle.release.specs.Compared.{rows_up_to, within64, counted}
use Rattle.grant_structs.specs.declared.Grant.{Grant as Row}
use Rattle.grant_structs.specs.Structs.{grant_of, grants, meets_by, first_row, compared_by, number_kind, is_number, number_at, wanted_at, rows_for, granted_at, judged_from, cost_at, compared_from, held_at}
use Rattle.grant_structs.proofs.Searched.{row_of_all, compared_of_all}

module _ (l : List ℕ) (i : ℕ) where
  pub wanted_row : (s : ℕ) {w : ℕ} {z y : ℤ} → w ≡ load_at 8 l (24 * i + 16) → y ≡ z → z ≡ signed w → record { subscriber = s; namespace = y } ≡ wanted_at l i s
  wanted_row s e f g = ap (λ (y : ℤ). record { subscriber = s; namespace = y }) (f ∙ g ∙ ap signed e)

  module _ (n : ℕ) {k : ℕ} (e : k ≡ load_at 8 l (24 * i + 8)) where
    pub rows_number : k ≡ number_kind → n ≡ rows_for l i n
    rows_number h = rw (← e, eq-eqb k number_kind h)

    pub rows_other : (k ≡ number_kind → ⊥) → 0 ≡ rows_for l i n
    rows_other h = rw (← e, ne_eqb k number_kind h)

  pub few_rows : (n : ℕ) → rows_for l i n ≤ n
  few_rows n = go (is_number l i)
    where
      go : (t : Bool) → cond t n 0 ≤ n
      go true = omega arith
      go false = omega arith

-- a row at which a search ended, as the rows compared
module _ (i n : ℕ) where
  pub compared_below : i < n → i + 1 ≡ compared_by i n
  compared_below h = rw (lt-ltb i n h) (omega arith)

  pub compared_all : n ≤ i → n ≡ compared_by i n
  compared_all h = rw (le-ltb i n h)

-- and an entry, as the answer
module _ (i n c : ℕ) where
  pub held_below : i < n → Ok (No i c) ≡ counted (held_at i n) c
  held_below h = rw (lt-ltb i n h)

  pub held_none : n ≤ i → Ok (Yes c) ≡ counted (held_at i n) c
  held_none h = rw (le-ltb i n h)

-- The row at which the search for entry i ended tells whether the entry is granted, and what it costs.
module _ (ys : List Row) (s : ℕ) (l : List ℕ) (i : ℕ) where
  abbrev this : Grant → Bool
  this = holds s (number_at l i)

  abbrev ended : ℕ → ℕ
  ended k = first_row this (grants (take k ys))

  looked_through : (x : Bool) → let k = cond x (length ys) 0 in (ltb (ended k) k ≡ (x && some this (grants ys))) × (compared_by (ended k) k ≡ cond x (rows_up_to this (grants ys)) 0)
  looked_through true = (row_of_all this ys refl, compared_of_all this ys refl)
  looked_through false = (refl, refl)

  module _ {k r : ℕ} {g : Row} (ek : k ≡ rows_for l i (length ys)) (eg : g ≡ wanted_at l i s) (er : r ≡ first_row (meets_by false (grant_of g)) (grants (take k ys))) where
    ended_at : r ≡ ended (rows_for l i (length ys))
    ended_at = er ∙ ap (λ (x : Row). first_row (meets_by false (grant_of x)) (grants (take k ys))) eg ∙ ap ended ek

    granted_by : ltb r k ≡ granted_at (grants ys) s l i
    granted_by = ap (λ (j : ℕ). ltb j k) ended_at ∙ ap (ltb (ended (rows_for l i (length ys)))) ek ∙ (looked_through (is_number l i)).0

    pub not_granted : k ≤ r → granted_at (grants ys) s l i ≡ false
    not_granted h = sym granted_by ∙ le-ltb r k h

    pub is_granted : r < k → granted_at (grants ys) s l i ≡ true
    is_granted h = sym granted_by ∙ lt-ltb r k h

    pub costs : {d : ℕ} → d ≡ compared_by r k → d ≡ cost_at (grants ys) s l i
    costs e = e ∙ ap (λ (j : ℕ). compared_by j k) ended_at ∙ ap (compared_by (ended (rows_for l i (length ys)))) ek ∙ (looked_through (is_number l i)).1

-- The entries before i are granted, and c rows were compared for them.
pub record Unjudged (ok : ℕ → Bool) (cost : ℕ → ℕ) (n i c : ℕ) : Type 0 where
  pub so_far : judged_from ok 0 n ≡ judged_from ok i (n - i)
  pub tally : within64 (compared_from ok cost 0 n) ≡ within64 (c + compared_from ok cost i (n - i))
  pub fits : c ≤ 18446744073709551615

module _ (ok : ℕ → Bool) (cost : ℕ → ℕ) (n : ℕ) where
  abbrev all : Result Released Refusal
  all = counted (judged_from ok 0 n) (within64 (compared_from ok cost 0 n))

  pub at_first : Unjudged ok cost n 0 0
  at_first = let e : n - 0 ≡ n = omega arith in record { so_far = rw e; tally = rw e (omega arith); fits = omega arith }

  module _ {i c : ℕ} (q : Unjudged ok cost n i c) where
    here : i < n → n - i ≡ suc (n - suc i)
    here h = omega arith

    together : (x : Release) (e : ℕ) → held_at i n ≡ x → judged_from ok i (n - i) ≡ x → within64 (c + compared_from ok cost i (n - i)) ≡ e → counted (held_at i n) e ≡ all
    together x e f g h =
        let ends : held_at i n ≡ judged_from ok 0 n = f ∙ sym g ∙ sym q.so_far in
        let sum : e ≡ within64 (compared_from ok cost 0 n) = sym h ∙ sym q.tally in
        ap (λ (y : Release). counted y e) ends ∙ ap (counted (judged_from ok 0 n)) sum

    module _ (h : i < n) {d : ℕ} (f : d ≡ cost i) {e : ℕ} (g : e ≡ min (c + d) 18446744073709551615) where
      sum : (x : ℕ) → within64 (c + (cost i + x)) ≡ within64 (e + x)
      sum x = rw (g, f) (omega arith)

      pub passed : ok i ≡ true → Unjudged ok cost n (suc i) e
      passed y = record {
        so_far = q.so_far ∙ rw (here h, y);
        tally = q.tally ∙ rw (here h, y) (sum (compared_from ok cost (suc i) (n - suc i)));
        fits = rw g (omega arith);
      }

      pub held : ok i ≡ false → counted (held_at i n) e ≡ all
      held y = together (no i) e (rw (lt-ltb i n h)) (rw (here h, y)) (rw (here h, y, g, f) (omega arith))

    pub all_passed : i ≡ n → counted (held_at i n) c ≡ all
    all_passed e =
        let none : n - i ≡ zero = omega arith in
        let fits = q.fits in
        together yes c (rw (le-ltb i n (omega arith))) (rw none) (rw none (omega arith))
