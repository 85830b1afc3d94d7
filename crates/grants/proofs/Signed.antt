-- Words and the numbers that they are, compared.
use Prim.Native.Nat.{ℕ, ◌-◌, ◌^◌, ◌<◌, ◌≤◌}
use mathlib.Core.Path.{◌≡◌, refl, sym, ap}
use mathlib.Core.Bool.{Bool, true, false, cond}
use native.Mathlib.Omega.{arith}
use lib.IntN.{pos, negsuc}
use lib.Dec.{leb, eqb}
use borrow.Author.Tests.{eqb-true, eqb-false, eq-eqb, ne_eqb, leb-true, leb-false, le-leb, lt-leb}
use Rattle.ari.specs.Table.{max63, max64}
use Rattle.grants.specs.Grants.{same, below0}
use Rattle.ari.specs.Signed.{signed}

-- words are equal as their numbers are
pub same_words : (a b : ℕ) → a < 2 ^ 64 → b < 2 ^ 64 → same (signed a) (signed b) ≡ eqb a b
unfolding signed
same_words a b p q = go (leb a max63) (leb b max63) refl refl
  where
    differ : max64 - a ≡ max64 - b → a ≡ b
    differ e = omega arith

    flipped : (t : Bool) → eqb a b ≡ t → eqb (max64 - a) (max64 - b) ≡ t
    flipped true e = eq-eqb (max64 - a) (max64 - b) (ap (λ (n : ℕ). max64 - n) (eqb-true a b e))
    flipped false e = ne_eqb (max64 - a) (max64 - b) (λ r. eqb-false a b e (differ r))

    go : (t u : Bool) → leb a max63 ≡ t → leb b max63 ≡ u → same (cond t (pos a) (negsuc (max64 - a))) (cond u (pos b) (negsuc (max64 - b))) ≡ eqb a b
    go true true h k = refl
    go true false h k = sym (ne_eqb a b (λ e. omega (arith, leb-true a max63 h, leb-false b max63 k)))
    go false true h k = sym (ne_eqb a b (λ e. omega (arith, leb-false a max63 h, leb-true b max63 k)))
    go false false h k = flipped (eqb a b) refl

pub not_negative : (n : ℕ) → n < 2 ^ 63 → below0 (signed n) ≡ false
unfolding signed
not_negative n h = rw (le-leb n max63 (omega arith))

pub negative : (n : ℕ) → 2 ^ 63 ≤ n → below0 (signed n) ≡ true
unfolding signed
negative n h = rw (lt-leb n max63 (omega arith))
