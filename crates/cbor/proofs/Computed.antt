-- A test that antt computes over a run of numbers, and the law that turns it into a fact of each.
use Prim.Native.Nat.{ℕ, zero, suc, ◌+◌, ◌<◌, ◌≤◌}
use mathlib.Core.Path.{◌≡◌, refl, sym}
use mathlib.Core.Bool.{Bool, true, false, not, ◌&&◌}
use native.Mathlib.Omega.{arith}
use lib.Dec.{eqb}
use borrow.Author.Tests.{eqb-true, eqb-false}
use Rattle.buffer.proofs.ByteLaws.{and-true}

abbrev pub same : Bool → Bool → Bool
same true b = b
same false b = not b

pub same_true : (a b : Bool) → same a b ≡ true → a ≡ b
same_true true true e = refl
same_true true false e = sym e
same_true false true e = e
same_true false false e = refl

-- a test of the n numbers from j on
abbrev pub all_from : ℕ → ℕ → (ℕ → Bool) → Bool
all_from zero j p = true
all_from (suc n) j p = p j && all_from n (suc j) p

pub all_at : (n j : ℕ) (p : ℕ → Bool) → all_from n j p ≡ true → (k : ℕ) → j ≤ k → k < j + n → p k ≡ true
all_at zero j p t k h g = absurd (omega arith)
all_at (suc n) j p t k h g = go (eqb j k) refl (λ l. all_at n (suc j) p both.1 k l (omega arith))
  where
    both : (p j ≡ true) × (all_from n (suc j) p ≡ true)
    both = and-true (p j) (all_from n (suc j) p) t

    go : (x : Bool) → eqb j k ≡ x → (suc j ≤ k → p k ≡ true) → p k ≡ true
    go true q ih = let e : k ≡ j = sym (eqb-true j k q) in rw e both.0
    go false q ih = let ne : j ≡ k → ⊥ = eqb-false j k q in ih (omega arith)
