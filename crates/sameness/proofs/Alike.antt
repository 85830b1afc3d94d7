-- Two words of item tables say the same item exactly if what is compared of their items is the same. The idea: a word gives back its item's slot and place, the
-- head stands there in the bytes, and the string behind it.
use Prim.Native.Nat.{ℕ, ◌+◌, ◌<◌}
use mathlib.Core.Path.{◌≡◌, refl, sym, ◌∙◌, ap}
use mathlib.Core.Bool.{Bool, true, false, not, ◌&&◌, ◌||◌, cond}
use mathlib.Core.List.{List, [], ◌∷◌, ◌++◌}
use native.Mathlib.Omega.{arith}
use lib.ListN.{length, get_or, drop}
use lib.Seq.{drop-drop, drop_at, take_at}
use lib.Dec.{eqb}
use borrow.Author.Tests.{eqb-true, eq-eqb}
use Rattle.buffer.specs.Bytes.{within, same}
use Rattle.buffer.proofs.ByteLaws.{and-true, same_is, same_self}
use Rattle.cbor.specs.Head.{bytes, text, size, lead_bytes, string_size}
use Rattle.cbor.proofs.HeadLaws.{length_lead}
use Rattle.ari.specs.Name.{folded_name, same_name}
use Rattle.ari.specs.Table.{Slot}
use Rattle.ari.specs.declared.Limits.{Limits}
use Rattle.ari.specs.declared.Input.{Input}
use Rattle.ari.specs.Items.{encode, Spot}
use Rattle.ari.specs.Same.{takes_name, folded_at, seen}
use Rattle.ari.proofs.Same.{seen_slot, seen_kind, seen_arg, seen_string, seen_from}
use Rattle.grammar.specs.Code.{slot_of, slot_number}
use Rattle.grammar.proofs.Right.{number_slot}
use Rattle.item_table.specs.Entries.{spot_number, Tabled}
use Rattle.item_table.proofs.Entries.{fine_at, covers_at, item_at, head_at_lem}
use Rattle.listing.specs.Entries.{string_in}
use Rattle.sameness.specs.Code.{same_string, alike_by, same_item_by}

-- one item
module _ {m : Limits} {i : Input} {b : List ℕ} {n : ℕ} {t : List ℕ} (c : Tabled m i b n t) (k : ℕ) (h : k < n) where
  abbrev x : Spot
  x = spot_number i b k

  pub slot_back : slot_of (slot_number x.slot) ≡ x.slot
  slot_back =
      let f = fine_at c k h in
      ap slot_of (ap slot_number (sym f.slot_is) ∙ number_slot f.number f.is_slot) ∙ f.slot_is

  pub string_back : within bytes text x.lead.kind ≡ true → string_in b x.first ≡ x.str
  unfolding string_in string_size
  string_back e =
      let l = x.lead in
      let rest : List ℕ = encode x.inside ++ drop x.after b in
      let long : length x.str ≡ l.arg = (fine_at c k h).sized ∙ rw e in
      let a : drop (x.first + size l) b ≡ x.str ++ rest =
      sym (drop-drop (size l) x.first b) ∙ (ap (drop (size l)) (covers_at c k h) ∙ drop_at (lead_bytes l) (x.str ++ rest) (size l) (length_lead l)) in
      rw (head_at_lem c k h, a) (take_at x.str rest l.arg long)

  pub no_string : within bytes text x.lead.kind ≡ false → length x.str ≡ 0
  unfolding string_size
  no_string e = (fine_at c k h).sized ∙ rw e

-- two strings at a slot
same_folded : (s : Slot) (u v : List ℕ) → slot_of (slot_number s) ≡ s → same_string (slot_number s) u v ≡ true → folded_at s u ≡ folded_at s v
unfolding same_string same_name
same_folded s u v b e = go (takes_name s) (rw b at e)
  where
    go : (c : Bool) → cond c (same (folded_name u) (folded_name v)) (same u v) ≡ true → cond c (folded_name u) u ≡ cond c (folded_name v) v
    go true f = same_is (folded_name u) (folded_name v) f
    go false f = same_is u v f

folded_same : (s : Slot) (u v : List ℕ) → slot_of (slot_number s) ≡ s → folded_at s u ≡ folded_at s v → same_string (slot_number s) u v ≡ true
unfolding same_string same_name
folded_same s u v b e = rw b (go (takes_name s) e)
  where
    go : (c : Bool) → cond c (folded_name u) u ≡ cond c (folded_name v) v → cond c (same (folded_name u) (folded_name v)) (same u v) ≡ true
    go true f = rw f (same_self (folded_name v))
    go false f = rw f (same_self v)

pub empty : (u : List ℕ) → length u ≡ 0 → u ≡ []
empty [] e = refl
empty (x ∷ u) e = absurd (omega arith)

-- two items
module _ {m m' : Limits} {i i' : Input} {a b : List ℕ} {n n' : ℕ} {t t' : List ℕ} (c : Tabled m i a n t) (c' : Tabled m' i' b n' t') (k j : ℕ) (h : k < n) (h' : j < n') where
  abbrev one : Spot
  one = spot_number i a k

  abbrev other : Spot
  other = spot_number i' b j

  abbrev is_string : Bool
  is_string = within bytes text one.lead.kind

  pub computed : alike_by a (get_or t k 0) b (get_or t' j 0)
      ≡ (eqb one.lead.kind other.lead.kind && eqb one.lead.arg other.lead.arg)
      && (not is_string || same_string (slot_number one.slot) (string_in a one.first) (string_in b other.first))
  unfolding alike_by
  computed = rw (item_at c k h, item_at c' j h', head_at_lem c k h, head_at_lem c' j h')

  with_slots : same_item_by a (get_or t k 0) b (get_or t' j 0) ≡ eqb (slot_number one.slot) (slot_number other.slot) && alike_by a (get_or t k 0) b (get_or t' j 0)
  unfolding same_item_by
  with_slots = rw (item_at c k h, item_at c' j h')

  pub same_seen : same_item_by a (get_or t k 0) b (get_or t' j 0) ≡ true → seen one ≡ seen other
  same_seen e =
      let (es, r) = and-true (eqb (slot_number one.slot) (slot_number other.slot)) _ (sym with_slots ∙ e) in
      let (eh, str) = and-true (eqb one.lead.kind other.lead.kind && eqb one.lead.arg other.lead.arg) _ (sym computed ∙ r) in
      let (ek, ea) = and-true (eqb one.lead.kind other.lead.kind) (eqb one.lead.arg other.lead.arg) eh in
      let slots : one.slot ≡ other.slot
      = sym (slot_back c k h) ∙ (ap slot_of (eqb-true (slot_number one.slot) (slot_number other.slot) es) ∙ slot_back c' j h') in
      let kinds : one.lead.kind ≡ other.lead.kind = eqb-true one.lead.kind other.lead.kind ek in
      let strings : folded_at one.slot one.str ≡ folded_at one.slot other.str = go is_string refl kinds str in
      seen_from one other (fine_at c k h).sound (fine_at c' j h').sound slots kinds (eqb-true one.lead.arg other.lead.arg ea) strings
    where
      go : (z : Bool) → is_string ≡ z → one.lead.kind ≡ other.lead.kind
          → (not z || same_string (slot_number one.slot) (string_in a one.first) (string_in b other.first)) ≡ true
          → folded_at one.slot one.str ≡ folded_at one.slot other.str
      go true q kinds f = same_folded one.slot one.str other.str (slot_back c k h) (rw (string_back c k h q, string_back c' j h' (rw kinds at q)) at f)
      go false q kinds f = ap (folded_at one.slot) (empty one.str (no_string c k h q) ∙ sym (empty other.str (no_string c' j h' (rw kinds at q))))

  pub seen_same : seen one ≡ seen other → same_item_by a (get_or t k 0) b (get_or t' j 0) ≡ true
  seen_same e =
      let kinds : one.lead.kind ≡ other.lead.kind = seen_kind one other e in
      with_slots ∙ rw (
        computed,
        eq-eqb (slot_number one.slot) (slot_number other.slot) (ap slot_number (seen_slot one other e)),
        eq-eqb one.lead.kind other.lead.kind kinds,
        eq-eqb one.lead.arg other.lead.arg (seen_arg one other e),
      )
      (go is_string refl kinds)
    where
      go : (z : Bool) → is_string ≡ z → one.lead.kind ≡ other.lead.kind
          → (not z || same_string (slot_number one.slot) (string_in a one.first) (string_in b other.first)) ≡ true
      go true q kinds =
          rw (string_back c k h q, string_back c' j h' (rw kinds at q))
          (folded_same one.slot one.str other.str (slot_back c k h) (seen_string one other e))
      go false q kinds = refl
