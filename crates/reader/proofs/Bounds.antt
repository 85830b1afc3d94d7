-- What a head that was taken, and a walk that was read, have shown; what is due inside a head.
use Prim.Native.Nat.{ℕ, suc, pred, ◌+◌, ◌-◌, ◌*◌, ◌≤◌, ◌<◌, ◌^◌}
use mathlib.Core.Path.{◌≡◌, refl, sym, ◌∙◌}
use mathlib.Core.Bool.{true, false, ◌&&◌}
use mathlib.Core.List.{List, []}
use native.Mathlib.Omega.{arith}
use native.Mathlib.Numerals.{add-one, sub-one}
use lib.ListN.{length, length-append}
use lib.Dec.{eqb}
use mir.Syntax.{w64}
use mir.Val.{Fits}
use borrow.Author.Tests.{eqb-false}
use Rattle.cbor.specs.Head.{is_container}
use Rattle.ari.specs.Table.{Slot, ExtraTest, none, one, rising, filled, Level, due}
use Rattle.cbor.proofs.HeadLaws.{length_lead}
use Rattle.ari.specs.Reader.{end, frame}
use Rattle.ari.specs.Items as items
use Rattle.ari.specs.Items.{Items, item, encode}
use Rattle.ari.specs.Due.{Due as DueItems}
use Rattle.grammar.specs.declared.Next.{Next}
use Rattle.grammar.specs.declared.Next.TheVariants.{Done, Due}
use Rattle.grammar.specs.Code.{slot_of, level_of, fits_code, inside_code}
use Rattle.grammar.specs.Code.{IsSlot}
use Rattle.grammar.proofs.Right.{inside_right, inside_container}
use Rattle.reader.specs.Steps.{Bounded, key_span}
use Rattle.reader.specs.Walks.{inside_level, Tables, Walked, Opens}
use Rattle.reader.proofs.Walking.{ended}
use Rattle.std.specs.declared.result.Result.{Result}
use Rattle.ari.specs.declared.Refusal.{Refusal}
use Rattle.reader.specs.declared.Taken.{Taken}
use Rattle.reader.specs.declared.Read.{Read}
use Rattle.reader.specs.Steps.{taken}
use Rattle.reader.specs.Walks.{read_to}

module _ (b : List ℕ) (p c items d i : ℕ) {x : Result Taken Refusal} (h : Bounded b p c items d i x) {k a q : ℕ} (e : x ≡ taken k a q) where
  abbrev shown : Bounded b p c items d i (taken k a q)
  shown = rw e at h

  pub taken_on : p < q
  taken_on = shown.0

  pub taken_in : q ≤ length b
  taken_in = shown.1

  pub taken_few : c < items
  taken_few = shown.2

  pub taken_more : c + 1 ≤ items
  taken_more = let z = taken_few in omega arith

  pub taken_few_fits : Fits w64 items → Fits w64 (c + 1)
  taken_few_fits g = let z = taken_few in omega arith

  pub taken_shallow : (is_container k && eqb d 0) ≡ false
  taken_shallow = shown.3

  pub taken_kind : k ≤ 9
  taken_kind = shown.4

  pub taken_fits : fits_code i k a ≡ true
  taken_fits = shown.5

module _ (b : List ℕ) (items : ℕ) (v : Level) (prev : List ℕ) (d around p c : ℕ) {w : Result Read Refusal} {t t' : Tables} (h : Walked b items v prev d around p c w t t')
    {q e : ℕ} (g : w ≡ read_to q e) where
  abbrev read : Walked b items v prev d around p c (read_to q e) t t'
  read = rw g at h

  pub read_in : q ≤ length b
  read_in = read.held.1

  pub read_few : e ≤ items
  read_few = read.held.2

  pub read_on : p ≤ q
  read_on = let z = read.held.0.place in omega arith

-- a slot takes at least a byte
due_long : (g : Items) (s : Slot) (n : ℕ) (prev : List ℕ) (d : ℕ) → DueItems g (frame s n prev d end) → 0 < length (encode g)
due_long items.none s n prev d f = absurd f
due_long (item l str ms rs) s n prev d f =
    simp length-append (omega (arith, length_lead l))

pub read_past : (b : List ℕ) (items : ℕ) (s : Slot) (n : ℕ) (prev : List ℕ) (d around p c : ℕ) {w : Result Read Refusal} {t t' : Tables}
    → Walked b items (due s n) prev d around p c w t t' → {q e : ℕ} → w ≡ read_to q e → p < q
read_past b items s n prev d around p c h g =
    let r = rw g at h in
    let k = r.held.0 in
    omega (arith, k.place, due_long k.tree s n prev d k.fit)

pub span_order : (o : ExtraTest) (f t p q : ℕ) → f ≤ t → p ≤ q → key_span o f p ≤ key_span o t q
span_order none f t p q h g = h
span_order one f t p q h g = h
span_order rising f t p q h g = g
span_order filled f t p q h g = h

pub span_within : (o : ExtraTest) (t q n : ℕ) → t ≤ n → q ≤ n → key_span o t q ≤ n
span_within none t q n h g = h
span_within one t q n h g = h
span_within rising t q n h g = g
span_within filled t q n h g = h

-- what is due inside a head
module _ (i k a : ℕ) {x : Next} (e : x ≡ inside_code i k a) where
  level_is : IsSlot i → level_of x ≡ inside_level (slot_of i) k a
  level_is v = rw e (inside_right i (record { info = 0; kind = k; arg = a }) v).level

  module _ (b : List ℕ) (items d around at c : ℕ) {t : Tables} (v : IsSlot i) where
    pub nothing_inside : x ≡ Done → at ≤ length b → c ≤ items → Walked b items (inside_level (slot_of i) k a) [] (pred d) (suc around) at c (read_to at c) t t
    nothing_inside q h g = rw (← level_is v, q) (ended b items [] (pred d) (suc around) at c t h g)

    pub opened : {j m : ℕ} → x ≡ Due j m → {w : Result Read Refusal} {t' : Tables} → Walked b items (due (slot_of j) m) [] (d - 1) (around + 1) at c w t t'
        → Walked b items (inside_level (slot_of i) k a) [] (pred d) (suc around) at c w t t'
    opened q {w} {t'} y = rw (← level_is v, q, ← sub-one d, ← add-one around) y

    pub by_level : {w : Result Read Refusal} {t' : Tables} → Walked b items (level_of x) [] (pred d) (suc around) at c w t t'
        → Walked b items (inside_level (slot_of i) k a) [] (pred d) (suc around) at c w t t'
    by_level y = rw (← level_is v) y

  pub inner_slot : IsSlot i → {j m : ℕ} → x ≡ Due j m → IsSlot j
  inner_slot v q = rw (← e, q) at (inside_right i (record { info = 0; kind = k; arg = a }) v).slotted

  pub opens : (d : ℕ) {j m : ℕ} → x ≡ Due j m → (is_container k && eqb d 0) ≡ false → 0 < d
  opens d q s = let n : d ≡ 0 → ⊥ = eqb-false d 0 (rw (inside_container i k a (sym q ∙ e)) at s) in omega arith

pub inner_opens : (i k a : ℕ) {x : Next} → x ≡ inside_code i k a → IsSlot i → (d : ℕ) → (is_container k && eqb d 0) ≡ false → Opens x d
inner_opens i k a {x} e v d s = go x refl
  where
    go : (y : Next) → x ≡ y → Opens y d
    go Done q = tt
    go (Due j m) q = (inner_slot i k a e v q, opens i k a e d q s)

-- the same, by what is due alone
module _ {x : Next} (b : List ℕ) (items d around at c : ℕ) {t : Tables} where
  pub none_due : x ≡ Done → at ≤ length b → c ≤ items → Walked b items (level_of x) [] (pred d) (suc around) at c (read_to at c) t t
  none_due q h g = rw q (ended b items [] (pred d) (suc around) at c t h g)

  pub level_due : {j m : ℕ} → x ≡ Due j m → {w : Result Read Refusal} {t' : Tables} → Walked b items (due (slot_of j) m) [] (d - 1) (around + 1) at c w t t'
      → Walked b items (level_of x) [] (pred d) (suc around) at c w t t'
  level_due q y = rw (q, ← sub-one d, ← add-one around) y

module _ (x : Next) (d : ℕ) (h : Opens x d) {j m : ℕ} (q : x ≡ Due j m) where
  pub opens_slot : IsSlot j
  opens_slot = (rw q at h).0

  pub opens_deep : 0 < d
  opens_deep = (rw q at h).1

pub ruleset inside_due = (none_due, level_due, opens_slot, opens_deep)

-- the measures and sums of the walk
pub less_deep : (d t : ℕ) → 0 < d → d * 2 ≡ t → (d - 1) * 2 + 1 < t
less_deep d t h e = omega arith

pub shallower : (d d₀ t : ℕ) → d ≤ d₀ → d₀ * 2 + 1 ≡ t → d * 2 < t
shallower d d₀ t h e = omega arith

pub one_in : (d a : ℕ) → 0 < d → d + a < 2 ^ 64 → d - 1 + (a + 1) < 2 ^ 64
one_in d a h g = omega arith

pub one_fits : (d a : ℕ) → 0 < d → d + a < 2 ^ 64 → Fits w64 (a + 1)
one_fits d a h g = omega arith

pub falls_to : (n p q : ℕ) → p < q → q ≤ n → n - q < n - p
falls_to n p q h l = omega arith

pub falls_on : (n p r q : ℕ) → p < r → r ≤ q → q ≤ n → n - q < n - p
falls_on n p r q h g l = omega arith

pub ruleset bounds = (taken_on, taken_in, taken_few, taken_more, taken_few_fits, taken_shallow, taken_kind, taken_fits, read_in, read_few, read_on, inner_slot, opens)
