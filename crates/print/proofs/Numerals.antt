-- The digits that `io` writes are the numeral.
use Prim.Native.Nat.{ℕ, zero, suc, ◌-◌, ◌/◌, ◌%◌, ◌^◌, ◌≤◌, ◌<◌, min, max}
use mathlib.Core.Path.{◌≡◌, refl, ap}
use mathlib.Core.Bool.{Bool, true, false, ◌&&◌}
use mathlib.Core.List.{List, [], ◌∷◌, ◌++◌}
use native.Mathlib.Omega.{arith}
use native.Mathlib.Nat.{pow-suc, pow-zero, one-mul, mod-eq_of_lt, one-le-pow, le_trans, pow-le-pow_right, div-lt_iff_lt-mul, le-div_iff_mul-le}
use lib.ListN.{take}
use lib.Dec.{ltb, leb, lit≤}
use borrow.Author.Tests.{lt-ltb, le-ltb, le-leb, leb-true, leb-false}
use Rattle.io.specs.Digits.{last_digits, IsDigitCount, hex_digit_ascii}
use Rattle.buffer.specs.Put.{Put}
use Rattle.buffer.specs.Decimal.{decimal, digits as places}
use Rattle.print.specs.Texts.{numeral, hex_of, negative_of}

pub numeral_digits : (b f k least n : ℕ) → 1 < b → 1 ≤ k → k ≤ f → IsDigitCount b least n k → last_digits b k n ≡ numeral b f least n
unfolding numeral
numeral_digits b f zero least n hb h g p = absurd (omega arith)
numeral_digits b zero (suc k) least n hb h g p = absurd (omega arith)
numeral_digits b (suc f) (suc zero) least n hb h g p =
    let e : n < b = rw (pow-suc b 0, pow-zero b, one-mul b) at p.1 in
    rw (mod-eq_of_lt e, lt-ltb n b e, le-leb least 1 p.0)
numeral_digits b (suc f) (suc (suc k)) least n hb h g p =
    rw (wide (leb least 1) refl)
    (ap (λ (u : List ℕ). u ++ (hex_digit_ascii (n % b) ∷ []))
    (numeral_digits b f (suc k) (least - 1) (n / b) hb (omega arith) (omega arith) (omega arith, fits, tight)))
  where
    z : 0 < b
    z = omega arith

    fits : n / b < b ^ suc k
    fits = (div-lt_iff_lt-mul z).1 (rw (pow-suc b (suc k)) at p.1)

    low : least < suc (suc k) → b ^ k ≤ n / b
    low l = let e : suc (suc k) - 1 ≡ suc k = omega arith in (le-div_iff_mul-le z).1 (rw (e, pow-suc b k) at (p.2 l))

    tight : least - 1 < suc k → b ^ (suc k - 1) ≤ n / b
    tight l = let e : suc k - 1 ≡ k = omega arith in rw e (low (omega arith))

    above : least ≤ 1 → b ≤ n
    above l = rw (one-mul b) at ((le-div_iff_mul-le {k = b} {x = 1} {y = n} z).0 (le_trans (one-le-pow k b z) (low (omega arith))))

    shut : (t : Bool) → (t && false) ≡ false
    shut true = refl
    shut false = refl

    wide : (t : Bool) → leb least 1 ≡ t → (ltb n b && leb least 1) ≡ false
    wide true e = rw (le-ltb n b (above (leb-true least 1 e)))
    wide false e = rw e (shut (ltb n b))

-- a number below 2 ^ 64 has at most 16 digits in base 16
short : (b m least n k : ℕ) → 1 < b → 2 ^ 64 ≤ b ^ m → n < 2 ^ 64 → least ≤ m → IsDigitCount b least n k → k ≤ m
short b m least n k hb hm hn hl f = cases (leb k m) refl
  where
    cases : (t : Bool) → leb k m ≡ t → k ≤ m
    cases true e = leb-true k m e
    cases false e =
        let h : m < k = leb-false k m e in
        let l : b ^ m ≤ b ^ (k - 1) = pow-le-pow_right (omega arith) (omega arith) in
        absurd (omega (arith, l, f.2 (omega arith)))

-- what `io::hex` leaves in its array
pub put_hex : (w n k : ℕ) (u : List ℕ) {xs ys : List ℕ} {at r : ℕ} → n < 2 ^ 64 → Put xs ys at r (take k u) → IsDigitCount 16 (min (max w 1) 16) n k → take k u ≡ last_digits 16 k n
    → Put xs ys at r (hex_of (min (max w 1) 16) n)
unfolding hex_of
put_hex w n k u h p f e =
    rw (← numeral_digits 16 16 k (min (max w 1) 16) n (omega arith) (omega arith) (short 16 16 (min (max w 1) 16) n k (omega arith) (lit≤ tt) h (omega arith) f) f, ← e) p

-- the text of -2 ^ 64
pub put_least : {n : ℕ} {xs ys : List ℕ} {at r : ℕ} → n ≡ 18446744073709551615
    → Put xs ys at r (45 ∷ 49 ∷ 56 ∷ 52 ∷ 52 ∷ 54 ∷ 55 ∷ 52 ∷ 52 ∷ 48 ∷ 55 ∷ 51 ∷ 55 ∷ 48 ∷ 57 ∷ 53 ∷ 53 ∷ 49 ∷ 54 ∷ 49 ∷ 54 ∷ [])
    → Put xs ys at r (negative_of n)
unfolding decimal places
put_least e p = rw e p
