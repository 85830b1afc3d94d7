-- Test 7 by ranges: what a slot's rows allow of a kind are the spans of one range, and the code looks an argument up in that range.
use Prim.Native.Nat.{ℕ, zero, suc, ◌/◌, ◌%◌, ◌^◌, ◌<◌, ◌≤◌}
use mathlib.Core.Path.{◌≡◌, refl, sym, ◌∙◌}
use mathlib.Core.Bool.{Bool, true, false, ◌&&◌, ◌||◌, cond}
use mathlib.Core.List.{List, [], ◌∷◌, ◌++◌}
use native.Mathlib.Omega.{arith}
use lib.ListN.{get_or}
use lib.Dec.{leb, eqb}
use borrow.Author.Tests.{leb-true, eqb-true, eqb-false, le-leb, lt-leb}
use Rattle.buffer.specs.Bytes.{within}
use Rattle.buffer.proofs.ByteLaws.{and-true}
use Rattle.ari.specs.Table.{Row, row, types, fits}
use Rattle.grammar.proofs.Hits.{arms}
use Rattle.grammar.specs.Words.{each, Span, span, in_spans, spans, ranges, range_of, bits_of, small_of, top_in, top_of}

pub each_at : {A : Type 0} (n : ℕ) (f g : ℕ → A) → each n f ≡ each n g → (k : ℕ) → k < n → f k ≡ g k
each_at zero f g e k h = absurd (omega arith)
each_at (suc n) f g e k h = go (eqb k n) refl (each_at n f g (cc) k)
  where
    go : (x : Bool) → eqb k n ≡ x → (k < n → f k ≡ g k) → f k ≡ g k
    go true q ih = let t : f n ≡ g n = cc in rw (eqb-true k n q) t
    go false q ih = let m : k ≡ n → ⊥ = eqb-false k n q in ih (omega arith)

pub spans_fit : (k a : ℕ) (rs : List Row) → in_spans a (spans k rs) ≡ fits k a rs
spans_fit k a [] = refl
spans_fit k a (row k' lo hi ∷ rs) = go (eqb k k') (spans_fit k a rs)
  where
    go : (t : Bool) → in_spans a (spans k rs) ≡ fits k a rs → in_spans a (cond t (span lo hi ∷ spans k rs) (spans k rs)) ≡ (t && within lo hi a) || fits k a rs
    go true ih = rw ih
    go false ih = ih

-- from 32 on a range of one span that starts below is all up to its end, and one of several has nothing
abbrev low : List Span → Bool
low [] = true
low (span lo hi ∷ ss) = leb hi 31 && low ss

abbrev simple : List Span → Bool
simple [] = true
simple (span lo hi ∷ []) = leb lo 32
simple (s ∷ s' ∷ ss) = low (s ∷ s' ∷ ss)

none_above : (a : ℕ) (ss : List Span) → low ss ≡ true → 32 ≤ a → in_spans a ss ≡ false
none_above a [] e h = refl
none_above a (span lo hi ∷ ss) e h =
    let (p, q) = and-true (leb hi 31) (low ss) e in
    let l : hi ≤ 31 = leb-true hi 31 p in
    rw (lt-leb a hi (omega arith), none_above a ss q h) (go (leb lo a))
  where
    go : (x : Bool) → (x && false) || false ≡ false
    go true = refl
    go false = refl

above : (a : ℕ) (ss : List Span) → simple ss ≡ true → 32 ≤ a → leb a (top_in ss) ≡ in_spans a ss
above a [] e h = lt-leb a 0 (omega arith)
above a (span lo hi ∷ []) e h = let l : lo ≤ 32 = leb-true lo 32 e in rw (le-leb lo a (omega arith)) (go (leb hi 31) refl)
  where
    or_nothing : (y : Bool) → y ≡ y || false
    or_nothing true = refl
    or_nothing false = refl

    go : (x : Bool) → leb hi 31 ≡ x → leb a (cond x 0 hi) ≡ leb a hi || false
    go true q = let k : hi ≤ 31 = leb-true hi 31 q in rw (lt-leb a 0 (omega arith), lt-leb a hi (omega arith))
    go false q = or_nothing (leb a hi)
above a (s ∷ s' ∷ ss) e h = lt-leb a 0 (omega arith) ∙ sym (none_above a (s ∷ s' ∷ ss) e h)

-- one test over the ranges
abbrev all_simple : List (List Span) → Bool
all_simple [] = true
all_simple (r ∷ rs) = simple r && all_simple rs

simple_at : (rs : List (List Span)) → all_simple rs ≡ true → (c : ℕ) → simple (get_or rs c []) ≡ true
simple_at [] e c = refl
simple_at (r ∷ rs) e zero = (and-true (simple r) (all_simple rs) e).0
simple_at (r ∷ rs) e (suc c) = simple_at rs (and-true (simple r) (all_simple rs) e).1 c

are_simple : all_simple ranges ≡ true
unfolding ranges types
are_simple = refl

module _ (c a m : ℕ) where
  pub small_looks : a < 32 → bits_of m ≡ small_of c → eqb (m / 2 ^ a % 2) 1 ≡ in_spans a (range_of c)
  small_looks h e = each_at 32 (λ (b : ℕ). eqb (m / 2 ^ b % 2) 1) (λ (b : ℕ). in_spans b (range_of c)) e a h

  pub top_looks : 32 ≤ a → m ≡ top_of c → leb a m ≡ in_spans a (range_of c)
  top_looks h e = rw e (above a (range_of c) (simple_at ranges are_simple c) h)

-- the arms of a match on a range: one for each, and two for the numbers of five bits that are none
abbrev pub evens : List ℕ
evens = 18 ∷ 20 ∷ 22 ∷ 24 ∷ 26 ∷ 28 ∷ 30 ∷ []

abbrev pub odds : List ℕ
odds = 19 ∷ 21 ∷ 23 ∷ 25 ∷ 27 ∷ 29 ∷ 31 ∷ []

abbrev pub keys : List (List ℕ)
keys = arms (λ k. k ∷ []) 0 18 ++ (evens ∷ odds ∷ [])
