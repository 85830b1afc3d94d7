-- A `match` on a number: an arm's answer, and what the arm that is left over knows.
use Prim.Native.Nat.{ℕ, zero, suc, ◌≤◌, ◌<◌}
use mathlib.Core.Path.{◌≡◌, refl, sym, ◌∙◌, ap}
use mathlib.Core.Bool.{Bool, true, false, ◌||◌, true≢false}
use mathlib.Core.Logic.{inl, inr, ⊎_elim}
use mathlib.Core.List.{List, [], ◌∷◌, map}
use native.Mathlib.Omega.{arith}
use lib.ListN.{length, get_or, get_or-eq_default}
use lib.Dec.{eqb, leb}
use borrow.Author.Tests.{eqb-true, leb-true, leb-false}
use types.Run.{OneOf}
use Rattle.buffer.proofs.ByteLaws.{or-true, or_nil}
use Rattle.cbor.proofs.Computed.{all_from, all_at}

-- A `match` with an arm for each number from 0 on is a look-up in a list.
pub hit : {A : Type 0} (xs : List A) (d : A) {i : ℕ} (n : ℕ) → i ≡ n → get_or xs n d ≡ get_or xs i d
hit xs d n e = ap (λ (j : ℕ). get_or xs j d) (sym e)

-- what the arm that is left over knows of a number: it is none of 0 to n - 1
abbrev pub Rest : ℕ → ℕ → Type 0
Rest zero i = Unit {0}
Rest (suc n) i = Rest n i × (i ≡ n → ⊥)

not_below : (n i : ℕ) → Rest n i → n ≤ i
not_below zero i r = omega arith
not_below (suc n) i r =
    let h : n ≤ i = not_below n i r.0 in
    let m : i ≡ n → ⊥ = r.1 in
    omega arith

pub miss : {A : Type 0} (xs : List A) (d : A) (n i : ℕ) → length xs ≡ n → Rest n i → d ≡ get_or xs i d
miss xs d n i e r = sym (get_or-eq_default xs d (let h : n ≤ i = not_below n i r in omega arith))

-- An arm with several numbers: what is right at each of them is right.
pub arm : {A : Type 0} (f : ℕ → A) (x : A) (ks : List ℕ) (i : ℕ) → map f ks ≡ map (λ (k : ℕ). x) ks → OneOf ks i → x ≡ f i
arm f x [] i e o = absurd o
arm f x (k ∷ []) i e o = let q : f k ≡ x = cc in rw o (sym q)
arm f x (k ∷ k' ∷ ks) i e (inl o) = let q : f k ≡ x = cc in rw o (sym q)
arm f x (k ∷ k' ∷ ks) i e (inr o) = arm f x (k' ∷ ks) i (cc) o

-- the arm that is left over, after arms with these numbers
abbrev pub Left : Type 0 → List (List ℕ) → ℕ → Type 0
Left N [] i = N
Left N (ks ∷ kss) i = Left (N × (OneOf ks i → ⊥)) kss i

abbrev has : ℕ → List ℕ → Bool
has i [] = false
has i (k ∷ ks) = eqb i k || has i ks

has_one : (i : ℕ) (ks : List ℕ) → has i ks ≡ true → OneOf ks i
has_one i [] e = absurd (true≢false (sym e))
has_one i (k ∷ []) e = eqb-true i k (or_nil (eqb i k) e)
has_one i (k ∷ k' ∷ ks) e = ⊎_elim (λ h. inl (eqb-true i k h)) (λ h. inr (has_one i (k' ∷ ks) h)) (or-true (eqb i k) (has i (k' ∷ ks)) e)

-- n arms, from number j on
abbrev pub arms : (ℕ → List ℕ) → ℕ → ℕ → List (List ℕ)
arms f j zero = []
arms f j (suc n) = f j ∷ arms f (suc j) n

-- some arm has the number
abbrev armed : List (List ℕ) → ℕ → Bool
armed [] i = false
armed (ks ∷ kss) i = has i ks || armed kss i

not_armed : (N : Type 0) (kss : List (List ℕ)) (i : ℕ) → Left N kss i → N × (armed kss i ≡ false)
not_armed N [] i l = (l, refl)
not_armed N (ks ∷ kss) i l =
    let (n, r) = not_armed (N × (OneOf ks i → ⊥)) kss i l in
    (n.0, rw (none_there (has i ks) refl n.1) r)
  where
    none_there : (x : Bool) → has i ks ≡ x → (OneOf ks i → ⊥) → x ≡ false
    none_there true e n = absurd (n (has_one i ks e))
    none_there false e n = refl

-- where arms have all numbers below n, the number is not below n
pub left_over : (n : ℕ) (kss : List (List ℕ)) (i : ℕ) → all_from n 0 (armed kss) ≡ true → Left (Unit {0}) kss i → n ≤ i
left_over n kss i t l = go (leb n i) refl
  where
    go : (x : Bool) → leb n i ≡ x → n ≤ i
    go true e = leb-true n i e
    go false e =
        let h : i < n = leb-false n i e in
        absurd (true≢false (sym (all_at n 0 (armed kss) t i (omega arith) (omega arith)) ∙ (not_armed (Unit {0}) kss i l).1))
