-- The ways through the functions that write and read decimals; the premises are the facts that the code leaves.
use Prim.Native.Nat.{ℕ, zero, suc, ◌+◌, ◌-◌, ◌/◌, ◌^◌, ◌≤◌, ◌<◌}
use mathlib.Core.Path.{◌≡◌, refl, ap, ◌∙◌}
use mathlib.Core.List.{List, [], ◌∷◌}
use native.Mathlib.Omega.{arith}
use native.Mathlib.Numerals.{add-one}
use lib.ListN.{length, drop, get_or}
use borrow.Author.Tests.{lt-ltb, le-leb, ne_eqb}
use Rattle.std.specs.declared.option.Option.TheVariants.{Some, None}
use Rattle.std.specs.Option.{option_and_then}
use Rattle.buffer.specs.Put.{Put}
use Rattle.buffer.specs.Decimal.{digits, decimal, push_of, digitsOf, unsigned_of, positive_of, signed_of}
use Rattle.buffer.proofs.RunLaws.{here, beyond}
use Rattle.buffer.proofs.DecimalLaws.{tenth_lt}

-- a number's digits are put
pub few_digits : {a b : List ℕ} {at r x : ℕ} (f n : ℕ) → n < 10 → x ≡ 48 + n → Put a b at r (x ∷ []) → Put a b at r (digits f n)
unfolding digits
few_digits zero n h e p = rw e at p
few_digits (suc f) n h e p = rw (lt-ltb n 10 h) (rw e at p)

pub fewer : (f n : ℕ) → n < 10 ^ (f + 1) → 10 ≤ n → 1 ≤ f
fewer zero n h l = absurd (omega arith)
fewer (suc f) n h l = omega arith

pub tenth_fits : (f n : ℕ) → n < 10 ^ (f + 1) → 10 ≤ n → n / 10 < 10 ^ (f - 1 + 1)
tenth_fits zero n h l = absurd (omega arith)
tenth_fits (suc f) n h l = let z : suc f - 1 + 1 ≡ suc f = omega arith in rw z (tenth_lt (suc f) n (rw add-one at h))

pub as_decimal : {a b : List ℕ} {at r : ℕ} (n : ℕ) → Put a b at r (digits 19 n) → Put a b at r (decimal n)
unfolding decimal
as_decimal n p = p

-- digits from the front
module _ (n : ℕ) (u : List ℕ) (i : ℕ) where
  pub digits_next : i < length u → digitsOf n (drop i u) ≡ option_and_then (λ m. digitsOf m (drop (i + 1) u)) (push_of n (get_or u i 0))
  unfolding digitsOf
  digits_next h = rw (here u i h)

  pub digits_end : length u ≤ i → digitsOf n (drop i u) ≡ Some n
  unfolding digitsOf
  digits_end h = rw (beyond u i h)

-- numbers, without a sign and with one
module _ (t : List ℕ) where
  pub unsigned_none : length t < 1 → unsigned_of t ≡ None
  unfolding unsigned_of
  unsigned_none h = let e : length t ≡ 0 = omega arith in rw e

  pub unsigned_zero : 2 ≤ length t → get_or t 0 0 ≡ 48 → unsigned_of t ≡ None
  unfolding unsigned_of
  unsigned_zero h e = rw (ne_eqb (length t) 0 (omega arith), le-leb 2 (length t) h, e)

  pub unsigned_one : length t ≡ 1 → unsigned_of t ≡ digitsOf 0 t
  unfolding unsigned_of
  unsigned_one h = rw h

  pub unsigned_many : 2 ≤ length t → (get_or t 0 0 ≡ 48 → ⊥) → unsigned_of t ≡ digitsOf 0 t
  unfolding unsigned_of
  unsigned_many h f = rw (ne_eqb (length t) 0 (omega arith), le-leb 2 (length t) h, ne_eqb (get_or t 0 0) 48 f)

  pub signed_none : length t < 1 → signed_of t ≡ None
  signed_none h = go t h
    where
      go : (u : List ℕ) → length u < 1 → signed_of u ≡ None
      go [] q = refl
      go (x ∷ u) q = absurd (omega arith)

  pub signed_plain : 1 ≤ length t → (get_or t 0 0 ≡ 45 → ⊥) → signed_of t ≡ positive_of (unsigned_of t)
  signed_plain h e = ap signed_of (here t 0 h) ∙ rw (ne_eqb (get_or t 0 0) 45 e, ← here t 0 h)
