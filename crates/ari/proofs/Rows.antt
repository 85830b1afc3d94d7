-- What a table's rows have in common holds of a head that fits one of them.
use Prim.Native.Nat.{ℕ, ◌≤◌}
use mathlib.Core.Path.{◌≡◌, refl, sym}
use mathlib.Core.Bool.{Bool, true, false, not, ◌&&◌, ◌||◌, cond, true≢false}
use mathlib.Core.List.{List, [], ◌∷◌}
use mathlib.Core.Logic.{◌⊎◌, inl, inr}
use native.Mathlib.Omega.{arith}
use lib.Dec.{eqb, leb}
use borrow.Author.Tests.{eqb-true, leb-true}
use Rattle.buffer.specs.Bytes.{within}
use Rattle.cbor.specs.Head.{array, map, is_container}
use Rattle.buffer.proofs.ByteLaws.{and-true, or-true, not-true, within_true}
use Rattle.ari.specs.Table.{Place, alone, message, inside, param, Row, row, ari_rows, Entry, entry_of, types, type_rows, value_rows, fits}

abbrev pub every : (Row → Bool) → List Row → Bool
every q [] = true
every q (r ∷ rs) = q r && every q rs

abbrev pub every_entry : (ℕ → Row → Bool) → List Entry → Bool
every_entry q [] = true
every_entry q (entry_of n p rs ∷ es) = every (q n) rs && every_entry q es

-- a row that fits
pub record FitsBy (q : Row → Bool) (k a : ℕ) : Type 0 where
  pub lo : ℕ
  pub hi : ℕ
  pub holds : q (row k lo hi) ≡ true
  pub low : lo ≤ a
  pub high : a ≤ hi

pub fits_by : (q : Row → Bool) (k a : ℕ) (rs : List Row) → every q rs ≡ true → fits k a rs ≡ true → FitsBy q k a
fits_by q k a [] n e = absurd (true≢false (sym e))
fits_by q k a (row k' lo hi ∷ rs) n e =
    go (eqb k k' && within lo hi a) refl e (and-true (q (row k' lo hi)) (every q rs) n).0 (fits_by q k a rs (and-true (q (row k' lo hi)) (every q rs) n).1)
  where
    go : (t : Bool) → (eqb k k' && within lo hi a) ≡ t → t || fits k a rs ≡ true → q (row k' lo hi) ≡ true → (fits k a rs ≡ true → FitsBy q k a) → FitsBy q k a
    go true h f y ih =
        let (p, w) = and-true (eqb k k') (within lo hi a) h in
        let (l, u) = within_true lo hi a w in
        record { lo = lo; hi = hi; holds = rw (eqb-true k k' p) y; low = l; high = u }
    go false h f y ih = ih f

-- the same of a typed literal's value, whatever its type
pub value_by : (q : ℕ → Row → Bool) (t k a : ℕ) (es : List Entry) → every_entry q es ≡ true → fits k a (value_rows t es) ≡ true → FitsBy (q t) k a
value_by q t k a [] n e = absurd (true≢false (sym e))
value_by q t k a (entry_of m p rs ∷ es) n e =
    go (eqb t m) refl e (and-true (every (q m) rs) (every_entry q es) n).0 (value_by q t k a es (and-true (every (q m) rs) (every_entry q es) n).1)
  where
    go : (b : Bool) → eqb t m ≡ b → fits k a (cond b rs (value_rows t es)) ≡ true → every (q m) rs ≡ true → (fits k a (value_rows t es) ≡ true → FitsBy (q t) k a)
        → FitsBy (q t) k a
    go true h f y ih = fits_by (q t) k a rs (rw (eqb-true t m h) y) f
    go false h f y ih = ih f

-- rows without arrays and maps
abbrev pub leaf_row : Row → Bool
leaf_row (row k lo hi) = not (is_container k)

pub no_container : (k a : ℕ) (rs : List Row) → every leaf_row rs ≡ true → fits k a rs ≡ true → is_container k ≡ false
no_container k a rs n e = not-true (is_container k) (fits_by leaf_row k a rs n e).holds

-- rows of one kind
abbrev pub of_kind : ℕ → Row → Bool
of_kind c (row k lo hi) = eqb k c

pub one_kind : (c k a : ℕ) (rs : List Row) → every (of_kind c) rs ≡ true → fits k a rs ≡ true → k ≡ c
one_kind c k a rs n e = eqb-true k c (fits_by (of_kind c) k a rs n e).holds

-- The types whose value holds members: AC, AM, EXECSET and RPTSET.
abbrev holds_row : ℕ → Row → Bool
holds_row t (row k lo hi) = cond (eqb k array) (eqb t 17 || ((eqb t 20 && leb 1 lo) || (eqb t 21 && leb 2 lo))) (cond (eqb k map) (eqb t 18) true)

holds_by : (t k a : ℕ) → fits k a (value_rows t types) ≡ true → FitsBy (holds_row t) k a
unfolding types
holds_by t k a e = value_by holds_row t k a types refl e

pub data ArrayType (t a : ℕ) : Type 0 where
  collection : t ≡ 17 → ArrayType t a
  orders : t ≡ 20 → 1 ≤ a → ArrayType t a
  answers : t ≡ 21 → 2 ≤ a → ArrayType t a

pub array_type : (t a : ℕ) → fits array a (value_rows t types) ≡ true → ArrayType t a
array_type t a e = go (holds_by t array a e)
  where
    low : (n : ℕ) (f : FitsBy (holds_row t) array a) → leb n f.lo ≡ true → n ≤ a
    low n f h = omega (arith, leb-true n f.lo h, f.low)

    last : (f : FitsBy (holds_row t) array a) → ((eqb t 20 && leb 1 f.lo) ≡ true) ⊎ ((eqb t 21 && leb 2 f.lo) ≡ true) → ArrayType t a
    last f (inl h) = let (p, q) = and-true (eqb t 20) (leb 1 f.lo) h in orders (eqb-true t 20 p) (low 1 f q)
    last f (inr h) = let (p, q) = and-true (eqb t 21) (leb 2 f.lo) h in answers (eqb-true t 21 p) (low 2 f q)

    first : (f : FitsBy (holds_row t) array a) → (eqb t 17 ≡ true) ⊎ (((eqb t 20 && leb 1 f.lo) || (eqb t 21 && leb 2 f.lo)) ≡ true) → ArrayType t a
    first f (inl h) = collection (eqb-true t 17 h)
    first f (inr h) = last f (or-true _ _ h)

    go : FitsBy (holds_row t) array a → ArrayType t a
    go f = first f (or-true _ _ f.holds)

pub map_type : (t a : ℕ) → fits map a (value_rows t types) ≡ true → t ≡ 18
map_type t a e = eqb-true t 18 (holds_by t map a e).holds

-- Rows whose arrays have lo to hi members, and no maps.
abbrev pub arrays_only : ℕ → ℕ → Row → Bool
arrays_only lo hi (row k l h) = cond (eqb k array) (leb lo l && leb h hi) (not (eqb k map))

pub array_range : (lo hi a : ℕ) (rs : List Row) → every (arrays_only lo hi) rs ≡ true → fits array a rs ≡ true → (lo ≤ a) × (a ≤ hi)
array_range lo hi a rs n e =
    let f = fits_by (arrays_only lo hi) array a rs n e in
    let (p, q) = and-true (leb lo f.lo) (leb f.hi hi) f.holds in
    (omega (arith, leb-true lo f.lo p, f.low), omega (arith, leb-true f.hi hi q, f.high))

pub no_map : (lo hi a : ℕ) (rs : List Row) → every (arrays_only lo hi) rs ≡ true → fits map a rs ≡ true → ⊥
no_map lo hi a rs n e = true≢false (sym (fits_by (arrays_only lo hi) map a rs n e).holds)

pub ari_arrays : (w : Place) → every (arrays_only 1 4) (ari_rows w) ≡ true
ari_arrays alone = refl
ari_arrays message = refl
ari_arrays inside = refl
ari_arrays param = refl

pub type_leaf : (w : Place) → every leaf_row (type_rows w types) ≡ true
unfolding types is_container
type_leaf alone = refl
type_leaf message = refl
type_leaf inside = refl
type_leaf param = refl
