-- ASCII bytes, eight at a time. The idea: the number of w bytes has a high bit where one of them has, since `&` goes byte by byte.
use Prim.Native.Nat.{ℕ, zero, suc, ◌+◌, ◌-◌, ◌*◌, ◌/◌, ◌%◌, ◌^◌, ◌<◌, ◌≤◌}
use mathlib.Core.Path.{◌≡◌, refl, sym, ◌∙◌, ap}
use mathlib.Core.Bool.{Bool, true, false, not, ◌&&◌}
use mathlib.Core.List.{List, [], ◌∷◌, ◌++◌}
use native.Mathlib.Omega.{arith}
use native.Mathlib.Numerals.{add-one}
use lib.ListN.{length, take, drop, get_or, length-drop}
use lib.Seq.{length-take-le}
use lib.Bits.{bit_and, and_block, and_high}
use lib.Pow.{pow-add}
use lib.Dec.{ltb, eqb}
use mir.Syntax.{w8}
use mir.Val.{Fits}
use borrow.Author.Tests.{eq-eqb, ne_eqb, ltb-true, ltb-false, not-true, not-false}
use Rattle.buffer.specs.Bytes.{value, load_at, part, all, is_byte}
use Rattle.buffer.proofs.ByteLaws.{and-true, value_lt, all_take, all_drop, all_both, all_bytes}
use Rattle.buffer.proofs.Numbers.{load_there}
use Rattle.buffer.proofs.RunLaws.{Ahead, run_begins, run_on, part_none, part_cons, part_join}
use Rattle.cbor.specs.Utf8.{is_ascii, AsciiTo}

-- the high bits of w bytes
mask : ℕ → ℕ
mask zero = 0
mask (suc w) = 128 * 256 ^ w + mask w

bytes_as_bits : (w : ℕ) → 256 ^ w ≡ 2 ^ (8 * w)
bytes_as_bits zero = refl
bytes_as_bits (suc w) =
    let e : 8 * suc w ≡ 8 * w + 8 = omega arith in
    let q : 2 ^ (8 * w + 8) ≡ 2 ^ (8 * w) * 256 = pow-add 2 (8 * w) 8 in
    let p : 256 ^ suc w ≡ 256 ^ w * 256 = ap (λ (i : ℕ). 256 ^ i) (sym (add-one w)) ∙ pow-add 256 w 1 in
    p ∙ rw (bytes_as_bits w, e) (sym q)

mask_lt : (w : ℕ) → mask w < 256 ^ w
unfolding mask
mask_lt zero = omega arith
mask_lt (suc w) =
    let p : 256 ^ suc w ≡ 256 ^ w * 256 = ap (λ (i : ℕ). 256 ^ i) (sym (add-one w)) ∙ pow-add 256 w 1 in
    omega (arith, mask_lt w)

-- one byte
high_bit : (x : ℕ) → x < 256 → eqb (bit_and x 128) 0 ≡ is_ascii x
high_bit x h = rw (and_high x 1 7) (go (ltb x 128) refl)
  where
    go : (t : Bool) → ltb x 128 ≡ t → eqb (x / 128 % 2 * 128) 0 ≡ t
    go true e = let q : x / 128 ≡ 0 = omega (arith, ltb-true x 128 e) in eq-eqb (x / 128 % 2 * 128) 0 (rw q)
    go false e = let q : x / 128 ≡ 1 = omega (arith, ltb-false x 128 e) in ne_eqb (x / 128 % 2 * 128) 0 (λ (z : x / 128 % 2 * 128 ≡ 0). (let y : ◌≡◌ {A = ℕ} 128 0 = rw q at z in omega arith))

both_zero : (a k c : ℕ) → 0 < k → eqb (a * k + c) 0 ≡ (eqb a 0 && eqb c 0)
both_zero zero k c h = let e : 0 * k + c ≡ c = omega arith in rw e
both_zero (suc a) k c h = ne_eqb (suc a * k + c) 0 (λ (z : suc a * k + c ≡ 0). omega arith) ∙ sym (rw (ne_eqb (suc a) 0 (λ (z : suc a ≡ 0). omega arith)))

word_ascii : (u : List ℕ) → all is_byte u ≡ true → eqb (bit_and (value u) (mask (length u))) 0 ≡ all is_ascii u
unfolding mask
word_ascii [] e = refl
word_ascii (x ∷ u) e =
    let (b, bs) = and-true (is_byte x) (all is_byte u) e in
    let n = length u in
    let small : value u < 2 ^ (8 * n) = rw (bytes_as_bits n) at (value_lt u bs) in
    let less : mask n < 2 ^ (8 * n) = rw (bytes_as_bits n) at (mask_lt n) in
    let block : bit_and (x * 256 ^ n + value u) (128 * 256 ^ n + mask n) ≡ bit_and x 128 * 256 ^ n + bit_and (value u) (mask n) =
    rw (bytes_as_bits n) (and_block (8 * n) x 128 (value u) (mask n) small less) in
    let pos : 0 < 256 ^ n = omega (arith, value_lt u bs) in
    ap (λ (i : ℕ). eqb i 0) block ∙ both_zero (bit_and x 128) (256 ^ n) (bit_and (value u) (mask n)) pos ∙ rw (high_bit x (ltb-true x 256 b), word_ascii u bs)

-- eight bytes of a string
module _ (s : List ℕ) (at : ℕ) (h : at + 8 ≤ length s) where
  eight : part s at (at + 8) ≡ take 8 (drop at s)
  eight = let e : at + 8 - at ≡ 8 = omega arith in rw e

  pub word_is : ((j : ℕ) → Fits w8 (get_or s j 0)) → {x : ℕ} → x ≡ load_at 8 s at → eqb (bit_and x 9259542123273814144) 0 ≡ all is_ascii (part s at (at + 8))
  unfolding mask
  word_is bytes e =
      let u = take 8 (drop at s) in
      let long : length u ≡ 8 = length-take-le 8 (drop at s) (rw length-drop (omega arith)) in
      let all_of : all is_byte u ≡ true = all_take is_byte 8 (drop at s) (all_drop is_byte at s (all_bytes s bytes)) in
      let m : mask (length u) ≡ 9259542123273814144 = rw long in
      rw (eight, e, load_there 8 s at h) (ap (λ (i : ℕ). eqb (bit_and (value u) i) 0) (sym m) ∙ word_ascii u all_of)

-- 32 bytes, eight by eight
module _ (s : List ℕ) (at : ℕ) where
  four_parts : all is_ascii (part s at (at + 32))
      ≡ (((all is_ascii (part s at (at + 8)) && all is_ascii (part s (at + 8) (at + 16))) && all is_ascii (part s (at + 16) (at + 24))) && all is_ascii (part s (at + 24) (at + 32)))
  four_parts =
      let p₁ : part s at (at + 16) ≡ part s at (at + 8) ++ part s (at + 8) (at + 16) = sym (part_join s at (at + 8) (at + 16) (omega arith) (omega arith)) in
      let p₂ : part s at (at + 24) ≡ part s at (at + 16) ++ part s (at + 16) (at + 24) = sym (part_join s at (at + 16) (at + 24) (omega arith) (omega arith)) in
      let p₃ : part s at (at + 32) ≡ part s at (at + 24) ++ part s (at + 24) (at + 32) = sym (part_join s at (at + 24) (at + 32) (omega arith) (omega arith)) in
      ap (all is_ascii) p₃ ∙ all_both is_ascii (part s at (at + 24)) (part s (at + 24) (at + 32))
      ∙ ap (λ (x : Bool). x && all is_ascii (part s (at + 24) (at + 32))) (ap (all is_ascii) p₂ ∙ all_both is_ascii (part s at (at + 16)) (part s (at + 16) (at + 24))
      ∙ ap (λ (x : Bool). x && all is_ascii (part s (at + 16) (at + 24))) (ap (all is_ascii) p₁ ∙ all_both is_ascii (part s at (at + 8)) (part s (at + 8) (at + 16))))

  module _ {a : Bool} (ea : a ≡ all is_ascii (part s at (at + 8))) where
    pub first_fails : not a ≡ true → false ≡ all is_ascii (part s at (at + 32))
    first_fails n = sym (four_parts ∙ rw (← ea, not-true a n))

    module _ (na : not a ≡ false) {b : Bool} (eb : b ≡ all is_ascii (part s (at + 8) (at + 8 + 8))) where
      to_16 : b ≡ all is_ascii (part s (at + 8) (at + 16))
      to_16 = let e : at + 8 + 8 ≡ at + 16 = omega arith in rw e at eb

      pub second_fails : not b ≡ true → false ≡ all is_ascii (part s at (at + 32))
      second_fails n = sym (four_parts ∙ rw (← ea, not-false a na, ← to_16, not-true b n))

      module _ (nb : not b ≡ false) {c : Bool} (ec : c ≡ all is_ascii (part s (at + 16) (at + 16 + 8))) where
        to_24 : c ≡ all is_ascii (part s (at + 16) (at + 24))
        to_24 = let e : at + 16 + 8 ≡ at + 24 = omega arith in rw e at ec

        pub third_fails : not c ≡ true → false ≡ all is_ascii (part s at (at + 32))
        third_fails n = sym (four_parts ∙ rw (← ea, not-false a na, ← to_16, not-false b nb, ← to_24, not-true c n))

        pub fourth_is : not c ≡ false → {d : Bool} → d ≡ all is_ascii (part s (at + 24) (at + 24 + 8)) → d ≡ all is_ascii (part s at (at + 32))
        fourth_is nc ed =
            let e : at + 24 + 8 ≡ at + 32 = omega arith in
            let to-32 : _ ≡ all is_ascii (part s (at + 24) (at + 32)) = rw e at ed in
            to-32 ∙ sym (four_parts ∙ rw (← ea, not-false a na, ← to_16, not-false b nb, ← to_24, not-false c nc))

-- a run that goes on
module _ (s : List ℕ) where
  pub ascii_none : (a : ℕ) → a ≤ length s → AsciiTo s a a
  ascii_none a h = record { on = omega arith; inside = h; ascii = rw (part_none s a) }

  module _ {a i : ℕ} (p : AsciiTo s a i) where
    more : (n : ℕ) → i + n ≤ length s → all is_ascii (part s i (i + n)) ≡ true → AsciiTo s a (i + n)
    more n h e = record {
      on = omega (arith, p.on);
      inside = h;
      ascii = ap (all is_ascii) (sym (part_join s a i (i + n) p.on (omega arith))) ∙ all_both is_ascii (part s a i) (part s i (i + n)) ∙ rw (p.ascii, e);
    }

    pub word_more : 8 ≤ length s - i → {x : Bool} → x ≡ all is_ascii (part s i (i + 8)) → not x ≡ false → AsciiTo s a (i + 8)
    word_more h {x} e n = more 8 (omega arith) (sym e ∙ not-false x n)

    pub block_more : 32 ≤ length s - i → {x : Bool} → x ≡ all is_ascii (part s i (i + 32)) → not x ≡ false → AsciiTo s a (i + 32)
    block_more h {x} e n = more 32 (omega arith) (sym e ∙ not-false x n)

  -- behind both, byte by byte
  ahead : (n a i : ℕ) → Ahead is_ascii s a i → i + n ≤ length s → all is_ascii (part s i (i + n)) ≡ true → Ahead is_ascii s a (i + n)
  ahead zero a i p h e = let z : i + 0 ≡ i = omega arith in rw z p
  ahead (suc n) a i p h e =
      let z : i + suc n ≡ i + 1 + n = omega arith in
      let q : part s i (i + suc n) ≡ get_or s i 0 ∷ part s (i + 1) (i + suc n) = part_cons s i (i + suc n) (omega arith) h in
      let (x, xs) = and-true (is_ascii (get_or s i 0)) (all is_ascii (part s (i + 1) (i + suc n))) (sym (ap (all is_ascii) q) ∙ e) in
      let xs' : all is_ascii (part s (i + 1) (i + 1 + n)) ≡ true = rw z at xs in
      rw z (ahead n a (i + 1) (run_on is_ascii s a i p (omega arith) (sym x) refl) (omega arith) xs')

  pub run_behind : (at : ℕ) → at ≤ length s → {a : ℕ} → AsciiTo s at a → {b : ℕ} → AsciiTo s a b → Ahead is_ascii s at b
  run_behind at h {a} p {b} q =
      let one : Ahead is_ascii s at (at + (a - at)) = ahead (a - at) at at (run_begins is_ascii s at h) (omega (arith, p.on, p.inside)) (let z : at + (a - at) ≡ a = omega (arith, p.on) in rw z p.ascii) in
      let e : at + (a - at) ≡ a = omega (arith, p.on) in
      let f : a + (b - a) ≡ b = omega (arith, q.on) in
      let two : Ahead is_ascii s at a = rw e at one in
      rw f at (ahead (b - a) at a two (omega (arith, q.on, q.inside)) (rw f q.ascii))

pub ruleset asciis = (word_is, first_fails, second_fails, third_fails, fourth_is, ascii_none, word_more, block_more, run_behind)
