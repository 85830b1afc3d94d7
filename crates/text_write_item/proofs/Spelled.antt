-- The ways through the functions that spell a head; and the spellings are those of the slots.
use Prim.Native.Nat.{ℕ, zero, suc, ◌-◌, ◌*◌, ◌/◌, ◌%◌, ◌^◌, ◌≤◌, ◌<◌}
use mathlib.Core.Path.{◌≡◌, refl, sym, ◌∙◌}
use mathlib.Core.Bool.{Bool, true, false, ◌&&◌, cond}
use mathlib.Core.List.{List, [], ◌∷◌, ◌++◌, map}
use native.Mathlib.Omega.{arith}
use lib.ListN.{get_or, get_or-eq_default}
use lib.Dec.{leb, eqb}
use borrow.Author.Tests.{leb-true, ne_eqb}
use Rattle.cbor.proofs.Computed.{all_at}
use Rattle.cbor.specs.Head.{Lead, is_container}
use Rattle.ari.specs.Table.{Slot, version, ari, type, value, namespace, object_namespace, object_type, object_id, params, key, entry, nonce, set_time, target, report, report_time, report_source, Level, done, due}
use Rattle.grammar.specs.Code.{slots, slot_of}
use Rattle.text.specs.Chars.{ascii, literal_text, name_text}
use Rattle.text.specs.Text.{type_name, spell}
use Rattle.buffer.specs.Put.{Put}
use Rattle.text_write_item.specs.Head.{head_of}
use Rattle.text_write_item.specs.declared.Spelling.{Spelling}
use Rattle.text_write_item.specs.declared.Spelling.TheVariants.{Unspelled, Ari, TypeName, Value, Label, Namespace, ObjectNamespace, ObjectType, ObjectId, Parameters, Key}
use Rattle.text_write_item.specs.Spellings.{spellings, spelling_at, ari_text, opening, space_text, before_by, closing, after_by}
use Rattle.buffer.proofs.Putting.{put_nothing, put_both}

module _ (k : ℕ) where
  pub list_container : k ≡ 4 → true ≡ is_container k
  unfolding is_container
  list_container e = rw e

  pub map_container : k ≡ 5 → true ≡ is_container k
  unfolding is_container
  map_container e = rw e

  pub no_container : (k ≡ 4 → ⊥) → (k ≡ 5 → ⊥) → false ≡ is_container k
  unfolding is_container
  no_container n m = go (leb 4 k) refl (leb k 5) refl
    where
      go : (x : Bool) → leb 4 k ≡ x → (y : Bool) → leb k 5 ≡ y → false ≡ (x && y)
      go true e true f = absurd (let h = leb-true 4 k e in let g = leb-true k 5 f in omega (arith, n, m))
      go true e false f = refl
      go false e y f = refl

pub ruleset containers = (list_container, map_container, no_container)

module _ {a b : List ℕ} {at r : ℕ} (k n : ℕ) (s : List ℕ) where
  pub typed_literal : k ≡ 4 → n ≡ 2 → Put a b at r (47 ∷ []) → Put a b at r (ari_text k n s)
  unfolding ari_text
  typed_literal e f p = rw (e, f) p

  pub untyped_literal : (k ≡ 4 → ⊥) → Put a b at r (literal_text (head_of k n) s) → Put a b at r (ari_text k n s)
  unfolding ari_text
  untyped_literal e p = rw (ne_eqb k 4 e) p

  pub relative_space : k ≡ 6 → Put a b at r (46 ∷ []) → Put a b at r (space_text k n s)
  unfolding space_text
  relative_space e p = rw e p

  pub absolute_space : (k ≡ 6 → ⊥) → Put a b at r (47 ∷ 47 ∷ [] ++ name_text (head_of k n) s) → Put a b at r (space_text k n s)
  unfolding space_text
  absolute_space e p = rw (ne_eqb k 6 e) p

pub a_reference : (room : List ℕ) (at k n : ℕ) (s : List ℕ) → k ≡ 4 → (n ≡ 2 → ⊥) → Put room room at at (ari_text k n s)
unfolding ari_text
a_reference room at k n s e f = rw (e, ne_eqb n 2 f) (put_nothing room at)

pub absolute_name : {a b c : List ℕ} {at q r : ℕ} {v : List ℕ} → Put a b at q (47 ∷ 47 ∷ []) → Put b c q r v → Put a c at r (47 ∷ 47 ∷ [] ++ v)
absolute_name p w = put_both p w

-- brackets
module _ (k : ℕ) {x : Bool} (e : x ≡ is_container k) where
  pub opens : {a b : List ℕ} {at r : ℕ} (u : List ℕ) → x ≡ true → Put a b at r (40 ∷ []) → Put a b at r (opening k u)
  unfolding opening
  opens u h p = rw (← e, h) p

  pub leaves : {a b : List ℕ} {at r : ℕ} (u : List ℕ) → x ≡ false → Put a b at r u → Put a b at r (opening k u)
  unfolding opening
  leaves u h p = rw (← e, h) p

  pub closes : {a b : List ℕ} {at r : ℕ} → x ≡ true → Put a b at r (41 ∷ []) → Put a b at r (closing k)
  unfolding closing
  closes h p = rw (← e, h) p

  pub stays : (room : List ℕ) (at : ℕ) → x ≡ false → Put room room at at (closing k)
  unfolding closing
  stays room at h = rw (← e, h) (put_nothing room at)

pub a_comma : {a b : List ℕ} {at r : ℕ} (m : Bool) → m ≡ true → Put a b at r (44 ∷ []) → Put a b at r (cond m (44 ∷ []) [])
a_comma m e p = rw e p

pub no_comma : (room : List ℕ) (at : ℕ) (m : Bool) → m ≡ false → Put room room at at (cond m (44 ∷ []) [])
no_comma room at m e = rw e (put_nothing room at)

-- by the spelling
pub before_by_lem : {a b : List ℕ} {at r : ℕ} (w i : Spelling) (k n : ℕ) (s : List ℕ) {u : List ℕ} → w ≡ i → Put a b at r u → u ≡ before_by i k n s → Put a b at r (before_by w k n s)
before_by_lem w i k n s e p q = rw (e, ← q) p

pub after_by_lem : {a b : List ℕ} {at r : ℕ} (w i : Spelling) (k : ℕ) (m : Bool) {u : List ℕ} → w ≡ i → Put a b at r u → u ≡ after_by i k m → Put a b at r (after_by w k m)
after_by_lem w i k m e p q = rw (e, ← q) p

module _ (room : List ℕ) (at : ℕ) (w : Spelling) (k : ℕ) where
  pub nothing_before : (n : ℕ) (s : List ℕ) → w ≡ Unspelled → Put room room at at (before_by w k n s)
  unfolding before_by
  nothing_before n s e = rw e (put_nothing room at)

  pub nothing_after : (m : Bool) → w ≡ Unspelled → Put room room at at (after_by w k m)
  unfolding after_by
  nothing_after m e = rw e (put_nothing room at)

  pub nothing_after_id : (m : Bool) → w ≡ ObjectId → Put room room at at (after_by w k m)
  unfolding after_by
  nothing_after_id m e = rw e (put_nothing room at)

-- the spelling of a slot
unfoldable pub spelling_of : Slot → Spelling
spelling_of version = Unspelled
spelling_of (ari w) = Ari
spelling_of (type w) = TypeName
spelling_of (value t w) = cond (eqb t 14) Label Value
spelling_of namespace = Namespace
spelling_of (object_namespace p) = ObjectNamespace
spelling_of (object_type p) = ObjectType
spelling_of (object_id p) = ObjectId
spelling_of params = Parameters
spelling_of (key w) = Key
spelling_of (entry w) = Ari
spelling_of (nonce t) = Unspelled
spelling_of set_time = Unspelled
spelling_of target = Unspelled
spelling_of report = Unspelled
spelling_of report_time = Unspelled
spelling_of report_source = Unspelled

spelling_map : (ss : List Slot) (i : ℕ) → spelling_of (get_or ss i version) ≡ get_or (map spelling_of ss) i Unspelled
unfolding spelling_of
spelling_map [] i = refl
spelling_map (s ∷ ss) zero = refl
spelling_map (s ∷ ss) (suc i) = spelling_map ss i

pub spelling_is : (i : ℕ) → spelling_at i ≡ spelling_of (slot_of i)
unfolding spelling_of
spelling_is i = sym (spelling_map slots i)

before_of : (s : Slot) (l : Lead) (u : List ℕ) → (spell s).before l u ≡ before_by (spelling_of s) l.kind l.arg u
unfolding spell spelling_of before_by ari_text opening space_text literal_text name_text
before_of version l u = refl
before_of (ari w) l u = refl
before_of (type w) l u = refl
before_of (value t w) l u = go (eqb t 14) refl
  where
    go : (x : Bool) → eqb t 14 ≡ x → (spell (value t w)).before l u ≡ before_by (cond x Label Value) l.kind l.arg u
    go true e = rw e
    go false e = rw e
before_of namespace l u = refl
before_of (object_namespace p) l u = refl
before_of (object_type p) l u = refl
before_of (object_id p) l u = refl
before_of params l u = refl
before_of (key w) l u = refl
before_of (entry w) l u = refl
before_of (nonce t) l u = refl
before_of set_time l u = refl
before_of target l u = refl
before_of report l u = refl
before_of report_time l u = refl
before_of report_source l u = refl

-- something is due
abbrev pub is_due : Level → Bool
is_due done = false
is_due (due s n) = true

comma_is : (v : Level) → Rattle.text.specs.Text.comma v ≡ cond (is_due v) (ascii ",") []
comma_is done = refl
comma_is (due s n) = refl

after_of : (s : Slot) (l : Lead) (v : Level) → (spell s).after l v ≡ after_by (spelling_of s) l.kind (is_due v)
unfolding spell spelling_of after_by closing
after_of version l v = refl
after_of (ari w) l v = comma_is v
after_of (type w) l v = refl
after_of (value t w) l v = go (eqb t 14)
  where
    go : (x : Bool) → (spell (value t w)).after l v ≡ after_by (cond x Label Value) l.kind (is_due v)
    go true = refl
    go false = refl
after_of namespace l v = refl
after_of (object_namespace p) l v = refl
after_of (object_type p) l v = refl
after_of (object_id p) l v = refl
after_of params l v = refl
after_of (key w) l v = refl
after_of (entry w) l v = comma_is v
after_of (nonce t) l v = refl
after_of set_time l v = refl
after_of target l v = refl
after_of report l v = refl
after_of report_time l v = refl
after_of report_source l v = refl

pub before_is : (i : ℕ) (l : Lead) (u : List ℕ) → (spell (slot_of i)).before l u ≡ before_by (spelling_at i) l.kind l.arg u
before_is i l u = before_of (slot_of i) l u ∙ rw (spelling_is i)

pub after_is : (i : ℕ) (l : Lead) (v : Level) → (spell (slot_of i)).after l v ≡ after_by (spelling_at i) l.kind (is_due v)
after_is i l v = after_of (slot_of i) l v ∙ rw (spelling_is i)

pub ruleset ways_through = (typed_literal, untyped_literal, relative_space, absolute_space, a_reference, absolute_name, opens, leaves, closes, stays, a_comma, no_comma, nothing_before, nothing_after, nothing_after_id)
