-- Number ranges, once over the width: the rows allow exactly the numbers of w bits, unsigned or in two's complement.
use Prim.Native.Nat.{ℕ, suc, pred, ◌-◌, ◌+◌, ◌^◌, ◌≤◌, ◌<◌}
use mathlib.Core.Logic.{◌↔◌, ◌⊎◌, inl, inr}
use mathlib.Core.Path.{◌≡◌, refl, sym}
use mathlib.Core.Bool.{Bool, true, false, ◌&&◌, ◌||◌, cond}
use mathlib.Core.List.{List, [], ◌∷◌, ◌++◌}
use native.Mathlib.Omega.{arith}
use native.Mathlib.Nat.{pow-suc, one-le-pow}
use lib.Dec.{ltb, eqb}
use borrow.Author.Tests.{eqb-true, eq-eqb, ltb-true, ltb-false, lt-ltb, le-ltb}
use Rattle.buffer.specs.Bytes.{within}
use Rattle.cbor.specs.Head.{unsigned, negative}
use Rattle.buffer.proofs.ByteLaws.{and-true, or-true, or_right, or_nil, within_true, within_is}
use Rattle.ari.specs.Table.{namespace, object_namespace, object_id, nonce, set_time, report_time, Row, uint_to, nint_to, any_bytes, any_text, is_null, types, value_rows, rule, fits}

-- the rows of w bits
abbrev pub unsigned_rows : ℕ → List Row
unsigned_rows w = uint_to (2 ^ w - 1) ∷ []

abbrev pub signed_rows : ℕ → List Row
signed_rows w = uint_to (2 ^ pred w - 1) ∷ nint_to (2 ^ pred w - 1) ∷ []

-- a number as a head has it: R15
pub data Number : Type 0 where
  number : ℕ → ℕ → Number

-- the number that w bits are, unsigned; and in two's complement, where the upper half x means x - 2^w
abbrev pub plain_bits : ℕ → ℕ → Number
plain_bits w x = number unsigned x

abbrev pub signed_bits : ℕ → ℕ → Number
signed_bits w x = cond (ltb x (2 ^ pred w)) (number unsigned x) (number negative (2 ^ w - 1 - x))

-- some w bits are this number
pub record OfBits (f : ℕ → ℕ → Number) (w k a : ℕ) : Type 0 where
  pub bits : ℕ
  pub fitting : bits < 2 ^ w
  pub meaning : f w bits ≡ number k a

fits_to : (c n k a : ℕ) → (eqb k c && within 0 n a) ≡ true → (k ≡ c) × (a ≤ n)
fits_to c n k a e = let (p, q) = and-true (eqb k c) (within 0 n a) e in (eqb-true k c p, (within_true 0 n a q).1)

to_fits : (c n k a : ℕ) → k ≡ c → a ≤ n → (eqb k c && within 0 n a) ≡ true
to_fits c n k a e h = rw (eq-eqb k c e, within_is 0 n a (omega arith) h)

same_number : {k a l b : ℕ} → number k a ≡ number l b → (k ≡ l) × (a ≡ b)
same_number e = (cc, cc)

pub unsigned_range : (w k a : ℕ) → (fits k a (unsigned_rows w) ≡ true) ↔ OfBits plain_bits w k a
unsigned_range w k a = (forth, back)
  where
    pos : 1 ≤ 2 ^ w
    pos = one-le-pow w 2 (omega arith)

    forth : fits k a (unsigned_rows w) ≡ true → OfBits plain_bits w k a
    forth e =
        let (p, q) = fits_to unsigned (2 ^ w - 1) k a (or_nil _ e) in
        record { bits = a; fitting = omega (arith, pos); meaning = rw p }

    back : OfBits plain_bits w k a → fits k a (unsigned_rows w) ≡ true
    back o =
        let (p, q) = same_number o.meaning in
        rw (to_fits unsigned (2 ^ w - 1) k a (sym p) (omega (arith, o.fitting)))

pub signed_range : (v k a : ℕ) → (fits k a (signed_rows (suc v)) ≡ true) ↔ OfBits signed_bits (suc v) k a
signed_range v k a = (λ e. forth (or-true _ _ e), λ o. back o (ltb o.bits (2 ^ v)) refl)
  where
    pos : 1 ≤ 2 ^ v
    pos = one-le-pow v 2 (omega arith)

    twice : 2 ^ suc v ≡ 2 ^ v + 2 ^ v
    twice = rw pow-suc (omega arith)

    forth : ((eqb k unsigned && within 0 (2 ^ v - 1) a) ≡ true) ⊎ (((eqb k negative && within 0 (2 ^ v - 1) a) || false) ≡ true) → OfBits signed_bits (suc v) k a
    forth (inl e) =
        let (p, q) = fits_to unsigned (2 ^ v - 1) k a e in
        record { bits = a; fitting = omega (arith, pos, twice); meaning = rw (lt-ltb a (2 ^ v) (omega (arith, pos)), p) }
    forth (inr e) =
        let (p, q) = fits_to negative (2 ^ v - 1) k a (or_nil _ e) in
        let x : ℕ = 2 ^ suc v - 1 - a in
        let y : 2 ^ suc v - 1 - x ≡ a = omega (arith, pos, twice) in
        record { bits = x; fitting = omega (arith, pos, twice); meaning = rw (le-ltb x (2 ^ v) (omega (arith, pos, twice)), p, y) }

    back : (o : OfBits signed_bits (suc v) k a) (t : Bool) → ltb o.bits (2 ^ v) ≡ t → fits k a (signed_rows (suc v)) ≡ true
    back o true e =
        let (p, q) = same_number (rw e at o.meaning) in
        rw (to_fits unsigned (2 ^ v - 1) k a (sym p) (omega (arith, ltb-true o.bits (2 ^ v) e)))
    back o false e =
        let (p, q) = same_number (rw e at o.meaning) in
        or_right (eqb k unsigned && within 0 (2 ^ v - 1) a) ((eqb k negative && within 0 (2 ^ v - 1) a) || false)
        (rw (to_fits negative (2 ^ v - 1) k a (sym p) (omega (arith, pos, twice, ltb-false o.bits (2 ^ v) e, o.fitting))))

-- The rows of the types BYTE, INT, UINT, VAST, UVAST, TP and TD are these, and so are those of ns, of object ids and of the sets' integers.
pub widths : value_rows 2 types ∷ value_rows 4 types ∷ value_rows 5 types ∷ value_rows 6 types ∷ value_rows 7 types ∷ value_rows 12 types ∷ value_rows 13 types ∷ []
    ≡ unsigned_rows 8 ∷ signed_rows 32 ∷ unsigned_rows 32 ∷ signed_rows 64 ∷ unsigned_rows 64 ∷ signed_rows 64 ∷ signed_rows 64 ∷ []
unfolding types
widths = refl

pub slot_widths : (p : Bool)
    → (rule namespace).rows ∷ (rule (object_namespace p)).rows ∷ (rule (object_id p)).rows ∷ (rule (nonce 20)).rows ∷ (rule (nonce 21)).rows ∷ (rule set_time).rows ∷ (rule report_time).rows ∷ []
    ≡ (signed_rows 64 ++ (any_text ∷ [])) ∷ (signed_rows 64 ++ (any_text ∷ is_null ∷ [])) ∷ (unsigned_rows 63 ++ (any_text ∷ [])) ∷ (is_null ∷ (unsigned_rows 63 ++ (any_bytes ∷ []))) ∷ (is_null ∷ (unsigned_rows 63 ++ (any_bytes ∷ []))) ∷ signed_rows 64 ∷ signed_rows 64 ∷ []
unfolding rule
slot_widths p = refl
