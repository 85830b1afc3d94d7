-- What the functions on plain numbers decide, way by way. The idea: the borrow checker's tests on an i64 go by its bits, and the bits of a number tell it.
use Prim.Native.Nat.{ℕ, zero, suc, ◌-◌, ◌<◌, ◌≤◌, ◌^◌}
use mathlib.Core.Path.{◌≡◌, refl, sym, ◌∙◌, ap, subst}
use mathlib.Core.Bool.{Bool, true, false, not, and-false, and-true}
use lib.IntN.{ℤ, pos, negsuc, ◌-ℤ◌}
use lib.Dec.{eqb}
use lib.Signed.{lt_z}
use mir.Syntax.{w64}
use mir.Val.{of_z, to_z, SFits}
use mir.ValLaws.{to_z_pos, to_z-of_z}
use native.Mathlib.Nat.{zero-add}
use native.Mathlib.Omega.{arith}
use borrow.Author.Tests.{eq-eqb, ne_eqb, eqb-true, eqb-false, le-ltb, le-leb, lt-leb}
use Rattle.ari.specs.Signed.{signed}
use Rattle.ari.specs.Table.{max63, max64}
use Rattle.grants.specs.Grants.{same, below0, clash, holds}
use Rattle.grant_structs.specs.declared.Grant.{Grant as Row}
use Rattle.grant_structs.specs.Structs.{row_by, grant_of, meets_by}

-- the bits of a signed number tell it
same_bits : (a b : ℤ) → SFits w64 a → SFits w64 b → of_z w64 a ≡ of_z w64 b → a ≡ b
same_bits a b fa fb e = sym (to_z-of_z w64 a fa) ∙ ap (to_z w64) e ∙ to_z-of_z w64 b fb

-- the test `b == d`
same_test : (b d : ℤ) → SFits w64 b → SFits w64 d → eqb (of_z w64 b) (of_z w64 d) ≡ same b d
same_test b d fb fd = go (eqb (of_z w64 b) (of_z w64 d)) refl
  where
    itself : (z : ℤ) → same z z ≡ true
    itself (pos n) = eq-eqb n n refl
    itself (negsuc n) = eq-eqb n n refl

    apart : (b d : ℤ) → (b ≡ d → ⊥) → same b d ≡ false
    apart (pos b) (pos d) n = ne_eqb b d (λ e. n (ap pos e))
    apart (pos b) (negsuc d) n = refl
    apart (negsuc b) (pos d) n = refl
    apart (negsuc b) (negsuc d) n = ne_eqb b d (λ e. n (ap negsuc e))

    go : (t : Bool) → eqb (of_z w64 b) (of_z w64 d) ≡ t → t ≡ same b d
    go true e = sym (ap (same b) (sym (same_bits b d fb fd (eqb-true _ _ e))) ∙ itself b)
    go false e = sym (apart b d (λ q. eqb-false _ _ e (ap (of_z w64) q)))

-- the test `d < 0`
below : (d : ℤ) → SFits w64 d → {t : Bool} → lt_z (to_z w64 (of_z w64 d)) (pos 0) ≡ t → below0 d ≡ t
below d f e = less d ∙ ap (λ (k : ℤ). lt_z k (pos 0)) (sym (to_z-of_z w64 d f)) ∙ e
  where
    less : (d : ℤ) → below0 d ≡ lt_z d (pos 0)
    less (pos a) = sym (le-ltb a 0 (omega arith))
    less (negsuc a) = refl

module _ (a : ℕ) (b : ℤ) (c : ℕ) (d : ℤ) where
  pub holds_by : (a ≡ c) → SFits w64 b → SFits w64 d → eqb (of_z w64 b) (of_z w64 d) ≡ holds c d (row_by a b)
  holds_by e fb fd = sym (rw (eq-eqb a c e, same_test b d fb fd))

  pub holds_not : (a ≡ c → ⊥) → false ≡ holds c d (row_by a b)
  holds_not n = sym (rw (ne_eqb a c n))

  pub clash_same : a ≡ c → false ≡ clash (row_by c d) (row_by a b)
  clash_same e = sym (rw (eq-eqb a c e))

  pub clash_by : (a ≡ c → ⊥) → SFits w64 b → SFits w64 d → lt_z (to_z w64 (of_z w64 d)) (pos 0) ≡ true → eqb (of_z w64 b) (of_z w64 d) ≡ clash (row_by c d) (row_by a b)
  clash_by n fb fd e = sym (rw (ne_eqb a c n, below d fd e, and-true (same b d)) (sym (same_test b d fb fd)))

  pub clash_positive : SFits w64 d → lt_z (to_z w64 (of_z w64 d)) (pos 0) ≡ false → false ≡ clash (row_by c d) (row_by a b)
  clash_positive fd e = sym (rw (below d fd e, and-false (same b d), and-false (not (eqb a c))))

module _ (row g : Row) {z w : ℤ} {r : Bool} (e : z ≡ row.namespace) (f : w ≡ g.namespace) where
  pub meets_clash : (t : Bool) → t ≡ true → r ≡ clash (row_by g.subscriber w) (row_by row.subscriber z) → r ≡ meets_by t (grant_of g) (grant_of row)
  meets_clash t h q = rw (h, ← e, ← f) q

  pub meets_holds : (t : Bool) → t ≡ false → r ≡ holds g.subscriber w (row_by row.subscriber z) → r ≡ meets_by t (grant_of g) (grant_of row)
  meets_holds t h q = rw (h, ← e, ← f) q

-- a word as a number: the code's casts and its difference
minus_one : (k : ℕ) → negsuc 0 -ℤ pos k ≡ negsuc k
minus_one zero = refl
minus_one (suc k) = rw zero-add

module _ (w : ℕ) where
  pub low_word : w < 2 ^ 63 → to_z w64 w ≡ signed w
  unfolding signed
  low_word h = to_z_pos w64 w h ∙ sym (rw (le-leb w max63 (omega arith)))

  module _ (h : 2 ^ 63 ≤ w) (k : w < 2 ^ 64) where
    negated : negsuc 0 -ℤ to_z w64 (max64 - w) ≡ negsuc (max64 - w)
    negated = ap (λ (z : ℤ). negsuc 0 -ℤ z) (to_z_pos w64 (max64 - w) (omega arith)) ∙ minus_one (max64 - w)

    pub high_fits : SFits w64 (negsuc 0 -ℤ to_z w64 (max64 - w))
    high_fits = subst (SFits w64) (sym negated) (record { sfits = omega arith })

    pub high_word : to_z w64 (of_z w64 (negsuc 0 -ℤ to_z w64 (max64 - w))) ≡ signed w
    unfolding signed
    high_word = to_z-of_z w64 _ high_fits ∙ negated ∙ sym (rw (lt-leb w max63 (omega arith)))
