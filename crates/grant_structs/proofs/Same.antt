-- The byte form and the struct form of a table give the same answers (R93). The idea: the rows of the bytes are the structs.
use Prim.Native.Nat.{ℕ, ◌*◌, ◌/◌, ◌%◌, ◌^◌, ◌<◌}
use mathlib.Core.Path.{◌≡◌, refl, sym, ◌∙◌, ap}
use mathlib.Core.Bool.{false}
use mathlib.Core.List.{List, [], ◌∷◌, ◌++◌}
use native.Mathlib.Omega.{arith}
use lib.ListN.{length, take, drop, length-append}
use lib.Seq.{take_at, drop_at, drop-drop}
use lib.IntN.{ℤ}
use borrow.Author.Tests.{eq-eqb}
use Rattle.buffer.specs.Bytes.{be, value}
use Rattle.buffer.proofs.ByteLaws.{length_be, value_be}
use Rattle.ari.specs.declared.Limits.{Limits}
use Rattle.ari.specs.Listing.{Space, number}
use Rattle.ari.proofs.Named.{InRange}
use Rattle.grants.specs.Grants.{Grant, granted, check}
use Rattle.ari.specs.Signed.{word}
use Rattle.grants.specs.Bytes.{row_by, row_of, rows_of, rows, ragged, check_bytes}
use Rattle.grants.specs.Verdict.{check_of}
use Rattle.grants.proofs.Verdict.{same_answer as same_check_answer}
use Rattle.std.specs.declared.result.Result.{Result}
use Rattle.ari.specs.declared.Refusal.{Refusal}
use Rattle.ari.proofs.SignedLaws.{signed_word, word_fits}
use Rattle.std.specs.declared.result.Result.{Result}
use Rattle.ari.specs.declared.Refusal.{Refusal}
use Rattle.release.specs.declared.Released.{Released}
use Rattle.release.specs.Release.{Release, release_rows, release_bytes}
use Rattle.release.specs.Compared.{compared, counted, counted_rows, counted_bytes}
use Rattle.grant_structs.specs.declared.Grant.{Grant as Row}
use Rattle.grant_structs.specs.Structs.{grant_of, grants}
use Rattle.grant_structs.specs.Bytes.{table_bytes}

-- the numbers of a struct: a u64 and an i64
abbrev pub Fit : List Row → Type 0
Fit [] = Unit {0}
Fit (r ∷ rs) = (r.subscriber < 2 ^ 64) × InRange (number r.namespace) × Fit rs

long : (t : List Row) → length (table_bytes t) ≡ 16 * length t
long [] = refl
long (r ∷ rs) =
    let a = length-append (be 8 r.subscriber) (be 8 (word r.namespace) ++ table_bytes rs) in
    let b = length-append (be 8 (word r.namespace)) (table_bytes rs) in
    omega (arith, a, b, length_be 8 r.subscriber, length_be 8 (word r.namespace), long rs)

-- the row at the front, and what follows it
module _ (p q x : List ℕ) (e : length p ≡ 8) (f : length q ≡ 8) where
  behind : drop 8 (p ++ (q ++ x)) ≡ q ++ x
  behind = drop_at p (q ++ x) 8 e

  past : drop 16 (p ++ (q ++ x)) ≡ x
  past = sym (drop-drop 8 8 (p ++ (q ++ x))) ∙ ap (drop 8) behind ∙ drop_at q x 8 f

  front : row_of (p ++ (q ++ x)) ≡ row_by (value p) (value q)
  front =
      ap (λ (l : List ℕ). row_by (value l) (value (take 8 (drop 8 (p ++ (q ++ x)))))) (take_at p (q ++ x) 8 e)
      ∙ ap (λ (l : List ℕ). row_by (value p) (value (take 8 l))) behind
      ∙ ap (λ (l : List ℕ). row_by (value p) (value l)) (take_at q x 8 f)

row_is : (r : Row) (x : List ℕ) → r.subscriber < 2 ^ 64 → InRange (number r.namespace) → row_of (be 8 r.subscriber ++ (be 8 (word r.namespace) ++ x)) ≡ grant_of r
row_is r x f g =
    let s = r.subscriber in
    let w = word r.namespace in
    front (be 8 s) (be 8 w) x (length_be 8 s) (length_be 8 w)
    ∙ ap (λ (n : ℕ). row_by n (value (be 8 w))) (value_be 8 s (omega arith))
    ∙ ap (row_by s) (value_be 8 w (word_fits r.namespace g))
    ∙ ap (λ (z : ℤ). record { subscriber = s; namespace = z }) (signed_word r.namespace g)

rows_are : (t : List Row) → Fit t → rows_of (length t) (table_bytes t) ≡ grants t
rows_are [] f = refl
rows_are (r ∷ rs) f =
    let p = be 8 r.subscriber in
    let q = be 8 (word r.namespace) in
    ap (λ (g : Grant). g ∷ rows_of (length rs) (drop 16 (p ++ (q ++ table_bytes rs)))) (row_is r (table_bytes rs) f.0 f.1)
    ∙ ap (λ (l : List ℕ). grant_of r ∷ rows_of (length rs) l) (past p q (table_bytes rs) (length_be 8 r.subscriber) (length_be 8 (word r.namespace)))
    ∙ ap (λ (l : List Grant). grant_of r ∷ l) (rows_are rs f.2)

-- the rows of the bytes are the structs
pub same_rows : (t : List Row) → Fit t → rows (table_bytes t) ≡ grants t
unfolding rows
same_rows t f = let e : length (table_bytes t) / 16 ≡ length t = omega (arith, long t) in rw (e, rows_are t f)

not_ragged : (t : List Row) → ragged (table_bytes t) ≡ false
not_ragged t = let e : length (table_bytes t) % 16 ≡ 0 = omega (arith, long t) in rw (eq-eqb (length (table_bytes t) % 16) 0 e)

module _ (t : List Row) (f : Fit t) where
  pub same_granted : (s : ℕ) (x : Space) → granted (rows (table_bytes t)) s x ≡ granted (grants t) s x
  same_granted s x = ap (λ (g : List Grant). granted g s x) (same_rows t f)

  pub same_check : check_bytes (table_bytes t) ≡ check (grants t)
  unfolding check_bytes
  same_check = rw (not_ragged t, same_rows t f)

  module _ (m : Limits) (b published own : List ℕ) (s : ℕ) where
    pub same_release : release_bytes m b (table_bytes t) published own s ≡ release_rows m b (grants t) published own s
    unfolding release_bytes release_rows
    same_release = rw (not_ragged t, same_rows t f)

    -- and with the rows compared
    pub same_count : counted_bytes m b (table_bytes t) published own s ≡ counted_rows m b (grants t) published own s
    unfolding counted_bytes counted_rows
    same_count =
        ap (λ (x : Release). counted x (compared (rows (table_bytes t)) b published own s)) same_release
        ∙ ap (λ (g : List Grant). counted (release_rows m b (grants t) published own s) (compared g b published own s)) (same_rows t f)

    -- so what `release::release_within` answers of the bytes is what `release_grants_within` answers of the structs
    pub same_answer : (r r' : Result Released Refusal) → r ≡ counted_bytes m b (table_bytes t) published own s → r' ≡ counted_rows m b (grants t) published own s → r ≡ r'
    same_answer r r' e e' = e ∙ same_count ∙ sym e'

  -- and what `check_table` answers of the bytes is what `check_grants` answers of the structs
  pub same_verdict : (r r' : Result (Unit {0}) Refusal) → check_of r ≡ check_bytes (table_bytes t) → check_of r' ≡ check (grants t) → r ≡ r'
  same_verdict r r' e e' = same_check_answer r r' (e ∙ same_check ∙ sym e')
