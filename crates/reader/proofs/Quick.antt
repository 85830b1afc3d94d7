-- A number of one byte that a slot with no test of its own takes: what the reader's step is there, and that the head is a plain one.
use Prim.Native.Nat.{ℕ, ◌+◌, ◌-◌, ◌/◌, ◌%◌, ◌<◌}
use mathlib.Core.Path.{◌≡◌, refl, sym}
use mathlib.Core.Bool.{true, false, ◌&&◌}
use mathlib.Core.List.{List}
use native.Mathlib.Omega.{arith}
use lib.ListN.{get_or}
use lib.Dec.{ltb, eqb}
use borrow.Author.Tests.{ltb-true, eqb-true, lt-ltb}
use Rattle.buffer.specs.Bytes.{all, is_byte, part}
use Rattle.buffer.proofs.ByteLaws.{and-true}
use Rattle.cbor.specs.Head.{is_container}
use Rattle.cbor.specs.declared.Head.TheVariants.{Good}
use Rattle.cbor.specs.Answer.{head_at}
use Rattle.cbor.proofs.HeadWays.{by_small, small_count}
use Rattle.ari.specs.Table.{rule}
use Rattle.grammar.specs.Code.{slot_of, extra_of, fits_code}
use Rattle.grammar.specs.Words.{takes_number}
use Rattle.reader.specs.Steps.{step_at, Bounded, Quick}
use Rattle.reader.proofs.Heads.{of_none, no_text, below_array, fits_slot, is_plain, goes_on}
use Rattle.reader.specs.Steps.{taken}

-- what such a byte has shown
record Number (i x : ℕ) : Type 0 where
  below : x < 56
  whole : x % 32 < 24
  own : extra_of i ≡ 0
  fit : fits_code i (x / 32) (x % 32) ≡ true

number : (i x : ℕ) → takes_number i x ≡ true → Number i x
unfolding takes_number
number i x e =
    let (a, f) = and-true (ltb x 56) (ltb (x % 32) 24 && (eqb (extra_of i) 0 && fits_code i (x / 32) (x % 32))) e in
    let (b, g) = and-true (ltb (x % 32) 24) (eqb (extra_of i) 0 && fits_code i (x / 32) (x % 32)) f in
    let (c, d) = and-true (eqb (extra_of i) 0) (fits_code i (x / 32) (x % 32)) g in
    record { below = ltb-true x 56 a; whole = ltb-true (x % 32) 24 b; own = eqb-true (extra_of i) 0 c; fit = d }

module _ (b : List ℕ) (bs : all is_byte b ≡ true) (p i c items : ℕ) (h : Quick b p i c items) {x : ℕ} (e : x ≡ get_or b p 0) where
  abbrev n : Number i x
  n = number i x (rw e h.taken)

  head : Good (x / 32) (x % 32) (p + 1) ≡ head_at b p
  head = by_small b p e h.there n.whole (small_count x (p + 1) n.whole (let l = n.below in omega arith))

  kind : x / 32 < 2
  kind = let l = n.below in omega arith

  leaf : (d : ℕ) → false ≡ (is_container (x / 32) && eqb d 0)
  leaf d = below_array (x / 32) d (let l = kind in omega arith)

  pub number_step : (prev : List ℕ) (d : ℕ) → taken (x / 32) (x % 32) (p + 1) ≡ step_at b p (slot_of i) prev (items - c) d
  number_step prev d =
      let l = kind in
      let own : 0 ≡ extra_of i = sym n.own in
      goes_on b p i prev c items d head refl h.few (leaf d) refl (sym n.fit) refl
      (is_plain b p i prev (sym head) (let t = h.there in omega arith) (of_none b (x % 32) (p + 1) (x / 32) (λ q. omega arith) (λ q. omega arith)) refl
      (no_text (x / 32) ((rule (slot_of i)).spelling (part b (p + 1) (p + 1))) (λ q. omega arith)) refl bs (fits_slot i (x / 32) (x % 32) n.fit) own refl)

  pub number_shown : (d : ℕ) → Bounded b p c items d i (taken (x / 32) (x % 32) (p + 1))
  number_shown d = (omega arith, (let t = h.there in omega arith), h.few, sym (leaf d), (let l = kind in omega arith), n.fit)

  pub number_plain : true ≡ (ltb (x / 32) 4 && eqb (extra_of i) 0)
  number_plain = rw (lt-ltb (x / 32) 4 (let l = kind in omega arith), n.own)
