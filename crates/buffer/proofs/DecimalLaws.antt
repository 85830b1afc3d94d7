-- Numbers in plain decimal, written and read again, once over the width: what holds of one digit, and of a tenth's digits and one more, holds of all.
use Prim.Native.Nat.{ℕ, zero, suc, ◌+◌, ◌-◌, ◌*◌, ◌/◌, ◌%◌, ◌^◌, ◌≤◌, ◌<◌}
use mathlib.Core.Path.{◌≡◌, refl, ap}
use mathlib.Core.Bool.{Bool, true, false, ◌&&◌, ◌||◌, cond}
use mathlib.Core.List.{List, [], ◌∷◌, ◌++◌}
use native.Mathlib.Omega.{arith}
use lib.ListN.{length, get_or, length-append}
use lib.Dec.{ltb, leb, eqb}
use borrow.Author.Tests.{ltb-true, ltb-false, leb-true, le-leb, eqb-false, ne_eqb}
use Rattle.std.specs.declared.option.Option.{Option}
use Rattle.std.specs.declared.option.Option.TheVariants.{Some, None}
use Rattle.std.specs.Option.{option_and_then}
use Rattle.buffer.specs.Bytes.{within, all}
use Rattle.buffer.specs.Decimal.{digit_of, digits, decimal, push_of, digitsOf, unsigned_of, positive_of, negative_of, signed_of}
use Rattle.buffer.proofs.ByteLaws.{within_is, all_append}

abbrev pub is_digit : ℕ → Bool
is_digit x = within 48 57 x

abbrev max64 : ℕ
max64 = 18446744073709551615

digit_is : (n : ℕ) → n < 10 → is_digit (48 + n) ≡ true
digit_is n h = within_is 48 57 (48 + n) (omega arith) (omega arith)

pub tenth_lt : (f n : ℕ) → n < 10 ^ suc f → n / 10 < 10 ^ f
tenth_lt f n h = omega arith

pub by_digits : (P : List ℕ → ℕ → Type 0) → ((n : ℕ) → n < 10 → P (digit_of n ∷ []) n)
    → ((u : List ℕ) (n : ℕ) → 10 ≤ n → P u (n / 10) → P (u ++ (digit_of (n % 10) ∷ [])) n) → (f n : ℕ) → n < 10 ^ suc f → P (digits f n) n
unfolding digits
by_digits P one more zero n h = one n (omega arith)
by_digits P one more (suc f) n h = go (by_digits P one more f (n / 10) (tenth_lt (suc f) n h)) (ltb n 10) refl
  where
    go : P (digits f (n / 10)) (n / 10) → (t : Bool) → ltb n 10 ≡ t → P (cond t (digit_of n ∷ []) (digits f (n / 10) ++ (digit_of (n % 10) ∷ []))) n
    go ih true e = one n (ltb-true n 10 e)
    go ih false e = more (digits f (n / 10)) n (ltb-false n 10 e) ih

pub all_digits : (f n : ℕ) → n < 10 ^ suc f → all is_digit (digits f n) ≡ true
all_digits =
    by_digits (λ u n. all is_digit u ≡ true) (λ n h. rw (digit_is n h))
    (λ u n h ih. all_append is_digit u ((48 + n % 10) ∷ []) ih (rw (digit_is (n % 10) (omega arith))))

-- no shorter than 1, no longer than the power of ten that the number is below
pub digits_some : (f n : ℕ) → n < 10 ^ suc f → 1 ≤ length (digits f n)
digits_some = by_digits (λ u n. 1 ≤ length u) (λ n h. omega arith) (λ u n h ih. simp length-append (omega arith))

pub length_digits : (w f n : ℕ) → n < 10 ^ suc w → length (digits f n) ≤ suc w
unfolding digits
length_digits w zero n h = omega arith
length_digits w (suc f) n h = go (λ v l. length_digits v f (n / 10) l) w (ltb n 10) refl h
  where
    go : ((v : ℕ) → n / 10 < 10 ^ suc v → length (digits f (n / 10)) ≤ suc v) → (w : ℕ) (t : Bool) → ltb n 10 ≡ t → n < 10 ^ suc w
        → length (cond t ((48 + n) ∷ []) (digits f (n / 10) ++ ((48 + n % 10) ∷ []))) ≤ suc w
    go ih w true e l = omega arith
    go ih zero false e l = absurd (omega (arith, ltb-false n 10 e))
    go ih (suc w) false e l = simp length-append (omega (arith, ih w (tenth_lt (suc w) n l)))

pub length_fuel : (f n : ℕ) → length (digits f n) ≤ suc f
unfolding digits
length_fuel zero n = omega arith
length_fuel (suc f) n = go (length_fuel f (n / 10)) (ltb n 10)
  where
    go : length (digits f (n / 10)) ≤ suc f → (t : Bool) → length (cond t ((48 + n) ∷ []) (digits f (n / 10) ++ ((48 + n % 10) ∷ []))) ≤ suc (suc f)
    go ih true = omega arith
    go ih false = simp length-append (omega arith)

-- read: digits one behind the other
digits_append : (n : ℕ) (u v : List ℕ) → digitsOf n (u ++ v) ≡ option_and_then (λ m. digitsOf m v) (digitsOf n u)
unfolding digitsOf
digits_append n [] v = refl
digits_append n (x ∷ u) v = go (λ m. digits_append m u v) (push_of n x)
  where
    go : ((m : ℕ) → digitsOf m (u ++ v) ≡ option_and_then (λ m. digitsOf m v) (digitsOf m u)) → (p : Option ℕ)
        → option_and_then (λ m. digitsOf m (u ++ v)) p ≡ option_and_then (λ m. digitsOf m v) (option_and_then (λ m. digitsOf m u) p)
    go ih (Some m) = ih m
    go ih None = refl

push_digit : (n d : ℕ) → d < 10 → n * 10 + d ≤ max64 → push_of n (48 + d) ≡ Some (n * 10 + d)
unfolding push_of
push_digit n d h l =
    let e : 48 + d - 48 ≡ d = omega arith in
    rw (digit_is d h, e, le-leb (n * 10 + d) max64 l)

-- what reading the digits of a number needs: the number itself, one digit at least, and no zero in front of others
record Reads (u : List ℕ) (n : ℕ) : Type 0 where
  back : n ≤ max64 → digitsOf 0 u ≡ Some n
  some : 1 ≤ length u
  alone : n < 10 → length u ≡ 1
  led : 1 ≤ n → get_or u 0 0 ≡ 48 → ⊥

reads : (f n : ℕ) → n < 10 ^ suc f → Reads (digits f n) n
unfolding digitsOf
reads = by_digits Reads one more
  where
    one : (n : ℕ) → n < 10 → Reads (digit_of n ∷ []) n
    one n h = record { back = λ l. rw (push_digit 0 n h (omega arith)) (ap Some (omega arith)); some = omega arith; alone = λ l. refl; led = λ l e. omega arith }

    more : (u : List ℕ) (n : ℕ) → 10 ≤ n → Reads u (n / 10) → Reads (u ++ (digit_of (n % 10) ∷ [])) n
    more u n h i = record {
      back = λ l. rw (digits_append 0 u (digit_of (n % 10) ∷ []), i.back (omega arith), push_digit (n / 10) (n % 10) (omega arith) (omega arith)) (ap Some (omega arith));
      some = simp length-append (omega arith);
      alone = λ l. absurd (omega arith);
      led = λ l. first u i.some (i.led (omega arith));
    }
      where
        first : (u : List ℕ) → 1 ≤ length u → (get_or u 0 0 ≡ 48 → ⊥) → get_or (u ++ (digit_of (n % 10) ∷ [])) 0 0 ≡ 48 → ⊥
        first [] g k = absurd (omega arith)
        first (x ∷ u) g k = k

-- no leading zero: what is written is read
pub decimal_back : (n : ℕ) → n ≤ max64 → unsigned_of (decimal n) ≡ Some n
unfolding unsigned_of decimal
decimal_back n h = go (reads 19 n (omega arith)) (ltb n 10) refl
  where
    shut : (t : Bool) {r s : Option ℕ} → r ≡ s → cond (t && false) None r ≡ s
    shut true e = e
    shut false e = e

    go : Reads (digits 19 n) n → (t : Bool) → ltb n 10 ≡ t → unsigned_of (digits 19 n) ≡ Some n
    go i true e = rw (i.alone (ltb-true n 10 e)) (i.back h)
    go i false e =
        let z : length (digits 19 n) ≡ 0 → ⊥ = λ q. omega (arith, i.some) in
        rw (ne_eqb (length (digits 19 n)) 0 z, ne_eqb (get_or (digits 19 n) 0 0) 48 (i.led (omega (arith, ltb-false n 10 e)))) (shut (leb 2 (length (digits 19 n))) (i.back h))

-- what is read is a number of 64 bits
abbrev pub Most : Option ℕ → Type 0
Most (Some n) = n ≤ 18446744073709551615
Most None = Unit {0}

push_most : (n x : ℕ) → Most (push_of n x)
unfolding push_of
push_most n x = go (is_digit x) (leb (n * 10 + (x - 48)) max64) refl
  where
    go : (u t : Bool) → leb (n * 10 + (x - 48)) max64 ≡ t → Most (cond (u && t) (Some (n * 10 + (x - 48))) None)
    go true true e = leb-true (n * 10 + (x - 48)) max64 e
    go true false e = tt
    go false t e = tt

digits_most : (n : ℕ) (t : List ℕ) → n ≤ max64 → Most (digitsOf n t)
unfolding digitsOf
digits_most n [] h = h
digits_most n (x ∷ t) h = go (λ m l. digits_most m t l) (push_of n x) (push_most n x)
  where
    go : ((m : ℕ) → m ≤ max64 → Most (digitsOf m t)) → (p : Option ℕ) → Most p → Most (option_and_then (λ m. digitsOf m t) p)
    go ih (Some m) l = ih m l
    go ih None l = tt

pub unsigned_most : (t : List ℕ) → Most (unsigned_of t)
unfolding unsigned_of
unsigned_most t = go (eqb (length t) 0 || (leb 2 (length t) && eqb (get_or t 0 0) 48))
  where
    go : (b : Bool) → Most (cond b None (digitsOf 0 t))
    go true = tt
    go false = digits_most 0 t (omega arith)

pub signed_most : (t : List ℕ) → Most (signed_of t)
signed_most [] = tt
signed_most (x ∷ t) = go (eqb x 45)
  where
    negatives : (m : Option ℕ) → Most (negative_of m)
    negatives (Some n) = low (eqb n 0) (leb n 9223372036854775808) refl
      where
        low : (z l : Bool) → eqb n 0 ≡ z → Most (cond z None (cond l (Some (18446744073709551616 - n)) None))
        low true l e = tt
        low false true e = let h = eqb-false n 0 e in omega arith
        low false false e = tt
    negatives None = tt

    positives : (m : Option ℕ) → Most m → Most (positive_of m)
    positives (Some n) h = high (ltb n 9223372036854775808)
      where
        high : (l : Bool) → Most (cond l (Some n) None)
        high true = h
        high false = tt
    positives None h = tt

    go : (b : Bool) → Most (cond b (negative_of (unsigned_of t)) (positive_of (unsigned_of (x ∷ t))))
    go true = negatives (unsigned_of t)
    go false = positives (unsigned_of (x ∷ t)) (unsigned_most (x ∷ t))
