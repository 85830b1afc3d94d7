-- The spellings that are read are those of the slots; and what the head of a slot promises.
use Prim.Native.Nat.{ℕ, zero, suc, ◌+◌, ◌-◌, ◌≤◌, ◌<◌}
use mathlib.Core.Path.{◌≡◌, refl, sym, ◌∙◌, ap}
use mathlib.Core.Bool.{Bool, true, false, ◌&&◌, cond}
use mathlib.Core.List.{List, [], ◌∷◌, ◌++◌}
use native.Mathlib.Omega.{arith}
use lib.ListN.{length, drop, get_or-eq_default}
use lib.Dec.{ltb, leb, eqb}
use borrow.Author.Tests.{ltb-true, ltb-false, leb-true, eqb-true, ne_eqb}
use mir.Val.{bool_byte}
use Rattle.buffer.specs.Runs.{front}
use Rattle.buffer.specs.Bytes.{within, same, part}
use Rattle.cbor.specs.Head.{lead_bytes, head_bytes, is_container, lead_of}
use Rattle.cbor.proofs.HeadLaws.{head_bytes_lem}
use Rattle.buffer.proofs.ByteLaws.{and-true, within_true}
use Rattle.cbor.proofs.Computed.{all_at}
use Rattle.ari.specs.Table.{Slot, version, ari, type, value, namespace, object_namespace, object_type, object_id, params, key, entry, nonce, set_time, target, report, report_time, report_source}
use Rattle.grammar.specs.Code.{slots, slot_of}
use Rattle.buffer.specs.Put.{Put}
use Rattle.text_write_item.specs.Spellings.{spellings, spelling_at, closing, after_by}
use Rattle.buffer.proofs.Putting.{put_both}
use Rattle.text_write_item.proofs.Spelled.{spelling_of, spelling_is}
use Rattle.text.specs.Chars.{ascii}
use Rattle.text.specs.Text.{Name, name, names}
use Rattle.text.specs.Parse.{in_word, number_in, type_of, type_number, Taken, take_at}
use Rattle.text_write_item.specs.declared.Spelling.{Spelling}
use Rattle.text_write_item.specs.declared.Spelling.TheVariants.{Unspelled, Ari, TypeName, Value, Label, Namespace, ObjectNamespace, ObjectType, ObjectId, Parameters, Key}
use Rattle.text_read_item.specs.declared.Word.{Word}
use Rattle.text_read_item.specs.declared.Item.{Item}
use Rattle.text_read_item.specs.Words.{NextTo, str_by, Bounded, Found, group_of, take_spelled, Read}

-- the kind of a slot's group
unfoldable group_by : Slot → ℕ
group_by version = 5
group_by (ari w) = 5
group_by (type w) = 5
group_by (value y w) = cond (eqb y 17) 4 5
group_by namespace = 5
group_by (object_namespace p) = 5
group_by (object_type p) = 5
group_by (object_id p) = 5
group_by params = 5
group_by (key w) = 5
group_by (entry w) = 5
group_by (nonce t) = 5
group_by set_time = 5
group_by target = 5
group_by report = 5
group_by report_time = 5
group_by report_source = 5

take_by : (s : Slot) (u : List ℕ) → take_at s u ≡ take_spelled (spelling_of s) (group_by s) u
unfolding take_at spelling_of group_by take_spelled
take_by version u = refl
take_by (ari w) u = refl
take_by (type w) u = refl
take_by (value y w) u = go (eqb y 14) refl
  where
    go : (x : Bool) → eqb y 14 ≡ x → take_at (value y w) u ≡ take_spelled (cond x Label Value) (cond (eqb y 17) 4 5) u
    go true e = rw e
    go false e = rw e
take_by namespace u = refl
take_by (object_namespace p) u = refl
take_by (object_type p) u = refl
take_by (object_id p) u = refl
take_by params u = refl
take_by (key w) u = refl
take_by (entry w) u = refl
take_by (nonce t) u = refl
take_by set_time u = refl
take_by target u = refl
take_by report u = refl
take_by report_time u = refl
take_by report_source u = refl

group_is : (i : ℕ) → i < 72 → group_of i ≡ group_by (slot_of i)
unfolding group_by
group_is i h = eqb-true (group_of i) (group_by (slot_of i)) (all_at 72 0 (λ j. eqb (group_of j) (group_by (slot_of j))) refl i (omega arith) (omega arith))

no_slot : (i : ℕ) (u : List ℕ) → 72 ≤ i → take_at (slot_of i) u ≡ take_spelled (spelling_at i) (group_of i) u
unfolding take_at take_spelled
no_slot i u h = rw (get_or-eq_default slots version h, get_or-eq_default spellings Unspelled h)

pub taken_is : (i : ℕ) (u : List ℕ) → take_at (slot_of i) u ≡ take_spelled (spelling_at i) (group_of i) u
taken_is i u = go (ltb i 72) refl
  where
    go : (x : Bool) → ltb i 72 ≡ x → take_at (slot_of i) u ≡ take_spelled (spelling_at i) (group_of i) u
    go true e = take_by (slot_of i) u ∙ rw (← spelling_is i, ← group_is i (ltb-true i 72 e))
    go false e = no_slot i u (ltb-false i 72 e)

module _ (i : ℕ) where
  pub group_list : i ≡ 45 → 4 ≡ group_of i
  group_list e = rw e

  pub group_list_param : i ≡ 67 → 4 ≡ group_of i
  group_list_param e = rw e

  pub group_map : (i ≡ 45 → ⊥) → (i ≡ 67 → ⊥) → 5 ≡ group_of i
  group_map n m = rw (ne_eqb i 45 n, ne_eqb i 67 m)

-- a type's number is one of the table's
most_numbers : List Name → Bool
most_numbers [] = true
most_numbers (name n s ∷ es) = leb n 21 && most_numbers es

number_most : (es : List Name) (u : List ℕ) → most_numbers es ≡ true → number_in es u ≤ 21
unfolding most_numbers
number_most [] u e = omega arith
number_most (name n s ∷ es) u e =
    let (p, q) = and-true (leb n 21) (most_numbers es) e in
    go (same u (ascii s)) (leb-true n 21 p) (number_most es u q)
  where
    go : (t : Bool) → n ≤ 21 → number_in es u ≤ 21 → cond t n (number_in es u) ≤ 21
    go true p q = p
    go false p q = q

type_most : (u : List ℕ) → type_number u ≤ 21
unfolding type_number names most_numbers
type_most u = number_most names u refl

type_spelling : (i : ℕ) → 5 ≤ i → i ≤ 8 → spelling_at i ≡ TypeName
type_spelling i a b = go (i - 5) (omega arith) (omega arith)
  where
    go : (j : ℕ) → i ≡ 5 + j → j < 4 → spelling_at i ≡ TypeName
    go zero e h = rw e
    go (suc zero) e h = rw e
    go (suc (suc zero)) e h = rw e
    go (suc (suc (suc zero))) e h = rw e
    go (suc (suc (suc (suc j)))) e h = absurd (omega arith)

pub type_arg : (i : ℕ) (u : List ℕ) → within 5 8 i ≡ true → (take_at (slot_of i) u).head.lead.arg ≤ 21
unfolding take_spelled type_of lead_of
type_arg i u h =
    let (a, b) = within_true 5 8 i h in
    rw (taken_is i u, type_spelling i a b) (type_most (front in_word u))

-- the bytes of a word
pub word_put : {a b c : List ℕ} {at q r : ℕ} (t : List ℕ) (x : Word) → Bounded t x → Put a b at q (head_bytes x.kind x.arg)
    → Put b c q r (str_by x.form (part t x.from x.to))
    → Put a c at r (lead_bytes (lead_of x.kind x.arg) ++ str_by x.form (part t x.from x.to))
word_put t x b p w = put_both (rw (head_bytes_lem b.small.kinds b.small.values) at p) w

pub bounded_order : {t : List ℕ} {x : Word} → Bounded t x → x.from ≤ x.to
bounded_order b = b.order

pub bounded_inside : {t : List ℕ} {x : Word} → Bounded t x → x.to ≤ length t
bounded_inside b = b.inside

abbrev pub item : Spelling → ℕ → ℕ → ℕ → ℕ → Item
item w k a n r = record { spelling = w; kind = k; arg = a; next = n; end = r }

-- the head of a slot
pub head_read : (t : List ℕ) (at i : ℕ) {p : ℕ} {w : Spelling} {room room' : List ℕ} {end r : ℕ} {g : ℕ} {x : Word} → NextTo t 0 at p → w ≡ spelling_at i → (g ≡ group_of i) × (g ≤ 5)
    → Found t (take_spelled w g (drop p t)) x → Put room room' end r (lead_bytes (lead_of x.kind x.arg) ++ str_by x.form (part t x.from x.to))
    → Read t (take_at (slot_of i) (drop at t)) end room room' (item w x.kind x.arg x.next r)
unfolding lead_of
head_read t at i {p} {w} {room} {room'} {end} {r} {g} {x} s e (q, l) f put =
    let y : take_spelled w g (drop p t) ≡ take_at (slot_of i) (drop at t) = rw (e, q, s.is) (sym (taken_is i (drop at t))) in
    let z = f.is ∙ y in
    record {
      kind_is = ap (λ (k : Taken). k.head.lead.kind) z;
      arg_is = ap (λ (k : Taken). k.head.lead.arg) z;
      rest_is = ap (λ (k : Taken). k.rest) z;
      on = f.on;
      put = rw (← z) put;
    }

-- the text behind a head's members
mark : (x : Bool) (c : ℕ) → bool_byte x ≡ length {A = ℕ} (cond x (c ∷ []) [])
mark true c = refl
mark false c = refl

pub bit_most : (x : Bool) → bool_byte x ≤ 1
bit_most true = omega arith
bit_most false = omega arith

module _ (w : Spelling) (k : ℕ) (m : Bool) where
  pub after_zero : (i : Spelling) → w ≡ i → 0 ≡ length (after_by i k m) → 0 ≡ length (after_by w k m)
  after_zero i h q = rw h q

  pub after_more : w ≡ Ari → bool_byte m ≡ length (after_by w k m)
  unfolding after_by
  after_more h = rw h (mark m 44)

  pub after_value : {x : Bool} → w ≡ Value → x ≡ is_container k → bool_byte x ≡ length (after_by w k m)
  unfolding after_by closing
  after_value {x} h q = rw (h, ← q) (mark x 41)

  pub after_label : {x : Bool} → w ≡ Label → x ≡ is_container k → bool_byte x ≡ length (after_by w k m)
  unfolding after_by closing
  after_label {x} h q = rw (h, ← q) (mark x 41)

  pub after_rest : (w ≡ Ari → ⊥) → (w ≡ Value → ⊥) → (w ≡ Label → ⊥) → (w ≡ ObjectId → ⊥) → (w ≡ Unspelled → ⊥) → 1 ≡ length (after_by w k m)
  unfolding after_by
  after_rest a b c d e = go w a b c d e
    where
      go : (w : Spelling) → (w ≡ Ari → ⊥) → (w ≡ Value → ⊥) → (w ≡ Label → ⊥) → (w ≡ ObjectId → ⊥) → (w ≡ Unspelled → ⊥) → 1 ≡ length (after_by w k m)
      go Ari a b c d e = absurd (a refl)
      go Value a b c d e = absurd (b refl)
      go Label a b c d e = absurd (c refl)
      go ObjectId a b c d e = absurd (d refl)
      go Unspelled a b c d e = absurd (e refl)
      go TypeName a b c d e = refl
      go Namespace a b c d e = refl
      go ObjectNamespace a b c d e = refl
      go ObjectType a b c d e = refl
      go Parameters a b c d e = refl
      go Key a b c d e = refl

pub ruleset reading = (group_list, group_list_param, group_map, word_put, bounded_order, bounded_inside, head_read, bit_most, after_more, after_value, after_label)
