-- What makes a float too long, way by way through the tests; the premises are the tests as the code makes them.
use Prim.Native.Nat.{ℕ, ◌+◌, ◌-◌, ◌*◌, ◌/◌, ◌%◌, ◌^◌, ◌<◌, ◌≤◌}
use mathlib.Core.Path.{◌≡◌, ◌∙◌}
use mathlib.Core.Bool.{Bool, true, false, not, or-true, or-false, and-false}
use native.Mathlib.Omega.{arith}
use native.Mathlib.Nat.{mod-eq_of_lt}
use lib.Dec.{eqb}
use lib.Pow.{pow_pos, pow-lt}
use borrow.Author.Tests.{le-leb, lt-leb, eq-eqb, ne_eqb}
use Rattle.cbor.specs.Head.{divides, too_long, bad_half, bad_single, bad_double, bad_float}

module _ (a : ℕ) where
  pub half_finite : (a / 1024 % 32 ≡ 31 → ⊥) → false ≡ bad_half a
  unfolding bad_half
  half_finite h = simp (ne_eqb _ _ h)

  pub half_infinite : a % 1024 ≡ 0 → false ≡ bad_half a
  unfolding bad_half
  half_infinite h = simp (eq-eqb _ _ h, and-false)

  pub half_nan : a / 1024 % 32 ≡ 31 → (a % 1024 ≡ 0 → ⊥) → not (eqb a 0x7e00) ≡ bad_half a
  unfolding bad_half
  half_nan h k = simp (eq-eqb _ _ h, ne_eqb _ _ k)

-- 1 << p
one_shifted : (p : ℕ) → p < 64 → 1 * 2 ^ p % 2 ^ 64 ≡ 2 ^ p
one_shifted p h = mod-eq_of_lt {n = 1 * 2 ^ p} (let l = pow-lt h in omega arith) ∙ omega arith

pub shifted_pos : (p : ℕ) → p < 64 → 0 < 1 * 2 ^ p % 2 ^ 64
shifted_pos p h = rw (one_shifted p h) (pow_pos p)

pub multiple : (m p : ℕ) → p < 64 → eqb (m % (1 * 2 ^ p % 2 ^ 64)) 0 ≡ divides p m
multiple m p h = rw (one_shifted p h)

module _ (top low normal high spare e m : ℕ) where
  pub endless : e ≡ top → true ≡ too_long top low normal high spare e m
  unfolding too_long
  endless h = simp (eq-eqb _ _ h, or-true)

  module _ (n : e ≡ top → ⊥) (z : 0 < low) (o : low ≤ normal) where
    pub zero_only : e < low → e ≡ 0 → eqb m 0 ≡ too_long top low normal high spare e m
    unfolding too_long
    zero_only h k =
        let g : e < normal = omega arith in
        simp (ne_eqb _ _ n, eq-eqb _ _ k, lt-leb _ _ h, lt-leb _ _ g, or-false)

    pub too_small : e < low → (e ≡ 0 → ⊥) → false ≡ too_long top low normal high spare e m
    unfolding too_long
    too_small h k =
        let g : e < normal = omega arith in
        simp (ne_eqb _ _ n, ne_eqb _ _ k, lt-leb _ _ h, lt-leb _ _ g)

    module _ (l : low ≤ e) where
      not_zero : e ≡ 0 → ⊥
      not_zero k = omega arith

      pub small : {r : Bool} → e < normal → r ≡ divides (normal + spare - e) m → r ≡ too_long top low normal high spare e m
      unfolding too_long
      small h k =
          let g : e ≤ normal - 1 = omega arith in
          simp (ne_eqb _ _ n, ne_eqb _ _ not_zero, lt-leb _ _ h, le-leb _ _ l, le-leb _ _ g) k

      module _ (h : normal ≤ e) where
        pub in_range_lem : {r : Bool} → e ≤ high → r ≡ divides spare m → r ≡ too_long top low normal high spare e m
        unfolding too_long
        in_range_lem k q =
            let g : normal - 1 < e = omega arith in
            simp (ne_eqb _ _ n, ne_eqb _ _ not_zero, le-leb _ _ h, le-leb _ _ k, le-leb _ _ l, lt-leb _ _ g, or-false) q

        pub too_large : high < e → false ≡ too_long top low normal high spare e m
        unfolding too_long
        too_large k =
            let g : normal - 1 < e = omega arith in
            simp (ne_eqb _ _ n, ne_eqb _ _ not_zero, le-leb _ _ h, lt-leb _ _ k, le-leb _ _ l, lt-leb _ _ g)

module _ (k a : ℕ) {r : Bool} where
  pub by_half : k ≡ 7 → r ≡ bad_half a → r ≡ bad_float k a
  unfolding bad_float
  by_half h q = simp (h, or-false) q

  pub by_single : k ≡ 8 → r ≡ too_long 255 103 113 142 13 (a / 8388608 % 256) (a % 8388608) → r ≡ bad_float k a
  unfolding bad_float bad_single
  by_single h q = simp (h, or-false) q

  pub by_double : (k ≡ 7 → ⊥) → (k ≡ 8 → ⊥) → 7 ≤ k → k ≤ 9
      → r ≡ too_long 2047 874 897 1150 29 (a / 4503599627370496 % 2048) (a % 4503599627370496) → r ≡ bad_float k a
  unfolding bad_float bad_double
  by_double n m l g q = let h : k ≡ 9 = omega arith in simp h q

pub ruleset floats = (half_finite, half_infinite, half_nan, shifted_pos, multiple, endless, zero_only, too_small, small, in_range_lem, too_large, by_half, by_single, by_double)
