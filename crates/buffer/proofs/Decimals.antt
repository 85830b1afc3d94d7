-- A number's digits, two at a time; the premises are the facts that the code leaves.
use Prim.Native.Nat.{ℕ, zero, suc, ◌+◌, ◌-◌, ◌/◌, ◌%◌, ◌^◌, ◌≤◌, ◌<◌}
use mathlib.Core.Path.{◌≡◌}
use mathlib.Core.List.{List, [], ◌∷◌, ◌++◌, append_assoc}
use native.Mathlib.Omega.{arith}
use borrow.Author.Tests.{lt-ltb, le-ltb}
use Rattle.buffer.specs.Put.{Put}
use Rattle.buffer.specs.Decimal.{digit_of, digits}
use Rattle.buffer.proofs.Putting.{put_size, put_both}
use Rattle.buffer.proofs.DecimalWays.{few_digits, fewer, tenth_fits, as_decimal}

abbrev two : ℕ → List ℕ
two n = digit_of (n / 10) ∷ digit_of (n % 10) ∷ []

pub two_digits : {a b c : List ℕ} {at q r x y : ℕ} (n : ℕ) → x ≡ digit_of (n / 10) → Put a b at q (x ∷ []) → y ≡ digit_of (n % 10) → Put b c q r (y ∷ [])
    → Put a c at r (two n)
two_digits n e p f w = put_both (rw e at p) (rw f at w)

few_is : (f n : ℕ) → 1 ≤ f → 10 ≤ n → n < 100 → digits f n ≡ two n
unfolding digits
few_is zero n g h l = absurd (omega arith)
few_is (suc zero) n g h l = rw (le-ltb n 10 h)
few_is (suc (suc f)) n g h l = rw (le-ltb n 10 h, lt-ltb (n / 10) 10 (omega arith))

pub few_two : {a b : List ℕ} {at r : ℕ} (f n : ℕ) → n < 10 ^ (f + 1) → 10 ≤ n → n < 100 → Put a b at r (two n) → Put a b at r (digits f n)
few_two f n h g l p = rw (few_is f n (fewer f n h g) g l) p

module _ (f n : ℕ) (h : n < 10 ^ (f + 1)) (g : 100 ≤ n) where
  tenth : n / 10 < 10 ^ (f - 1 + 1)
  tenth = tenth_fits f n h (omega arith)

  pub two_fewer : 2 ≤ f
  two_fewer = omega (arith, fewer f n h (omega arith), fewer (f - 1) (n / 10) tenth (omega arith))

  pub hundredth_fits : n / 100 < 10 ^ (f - 2 + 1)
  hundredth_fits =
      let e : n / 10 / 10 ≡ n / 100 = omega arith in
      let d : f - 1 - 1 ≡ f - 2 = omega arith in
      rw (e, d) at (tenth_fits (f - 1) (n / 10) tenth (omega arith))

more_is : (f n : ℕ) → 2 ≤ f → 100 ≤ n → digits f n ≡ digits (f - 2) (n / 100) ++ two (n % 100)
unfolding digits
more_is zero n h g = absurd (omega arith)
more_is (suc zero) n h g = absurd (omega arith)
more_is (suc (suc f)) n h g =
    let d : suc (suc f) - 2 ≡ f = omega arith in
    let e : n / 10 / 10 ≡ n / 100 = omega arith in
    let u : n % 100 / 10 ≡ n / 10 % 10 = omega arith in
    let v : n % 100 % 10 ≡ n % 10 = omega arith in
    rw (d, u, v, le-ltb n 10 (omega arith), le-ltb (n / 10) 10 (omega arith), e) (append_assoc (digits f (n / 100)) _ _)

pub more_two : {a b c : List ℕ} {at q r : ℕ} (f n : ℕ) → n < 10 ^ (f + 1) → 100 ≤ n → Put a b at q (digits (f - 2) (n / 100)) → Put b c q r (two (n % 100))
    → Put a c at r (digits f n)
more_two f n h g p w = rw (more_is f n (two_fewer f n h g) g) (put_both p w)

pub two_down : (f t : ℕ) → 2 ≤ f → f ≡ t → f - 2 < t
two_down f t h e = omega arith

pub ruleset decimals = (put_size, few_digits, two_digits, few_two, two_fewer, hundredth_fits, more_two, as_decimal)
