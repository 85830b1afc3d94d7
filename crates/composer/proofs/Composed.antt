-- What is promised of a composed order (R218 to R225): it is an accepted message, its nonce is the one given, its targets are the texts' ARIs in order, its
-- listing is made of their references; what is not refused is composed and nothing else; and taken apart and composed again it is the same.
use Prim.Native.Nat.{ℕ, suc, ◌<◌, ◌≤◌}
use mathlib.Core.Logic.{◌↔◌}
use mathlib.Core.Path.{◌≡◌, refl, sym, ◌∙◌, ap, subst}
use mathlib.Core.Bool.{Bool, true, false, cond, true≢false}
use mathlib.Core.List.{List, map}
use native.Mathlib.Omega.{arith}
use lib.ListN.{length, drop}
use lib.Seq.{drop_at}
use lib.Dec.{ltb}
use borrow.Author.Tests.{lt-ltb, le-ltb, ltb-true, ltb-false}
use Rattle.buffer.specs.Bytes.{all, is_byte}
use Rattle.cbor.specs.Head.{Lead, lead_of}
use Rattle.ari.specs.Table.{max64}
use Rattle.ari.specs.declared.Limits.{Limits}
use Rattle.ari.specs.declared.Input.TheVariants.{Message}
use Rattle.ari.specs.Reader.{accept, read}
use Rattle.ari.specs.Items.{Items, none, item, encode, heads, depth, spots_of}
use Rattle.ari.specs.Decode.{decode}
use Rattle.ari.specs.Rules.{Targets, Is}
use Rattle.ari.specs.Listing.{listing}
use Rattle.ari.specs.References.{in_targets, entry_for}
use Rattle.ari.proofs.RuledTargets.{counted}
use Rattle.ari.proofs.Demand.{is_read, unique}
use Rattle.ari.proofs.Listed.{listing_is}
use Rattle.text.specs.Answer.{refused, output}
use Rattle.composer.specs.Compose.{Nonce, null, number, string, other, in_range, nonce_lead, nonce_string, Texts, no_more, unended, text, texts_in, Reference, nothing, reference, reference_of, Gathered, wrong, targets, with_first, gather, order_of, finished, composed_by, compose}
use Rattle.composer.specs.Code.{front_bytes}
use Rattle.composer.specs.Apart.{behind, order_in, nonce_by, nonce_in, texts_by, texts_for}
use Rattle.composer.proofs.Texts.{Clean, clean, many_most, joined_back}
use Rattle.composer.proofs.Reading.{ReadAs, read_as, as_read}
use Rattle.composer.proofs.Gathering.{Are, gathered_exactly, are_targets, are_many, are_ended, are_joined, aris, are_aris, placed_bytes, each_ari, are_each}
use Rattle.composer.proofs.Order.{order_stands, first_target, order_references, order_targets, order_bytes, front_length}

-- texts of bytes, and a nonce's string that a head can announce
pub record Given (z : Nonce) (b : List ℕ) : Type 0 where
  pub octets : all is_byte b ≡ true
  pub short : length b < max64
  pub nonce_fits : length (nonce_string z) ≤ max64

-- The nonce is in range, the texts are those of these targets, and the message of both keeps the limits.
pub record Composed (m : Limits) (z : Nonce) (b u : List ℕ) (n : ℕ) : Type 0 where
  pub many : ℕ
  pub items : Items
  pub ranged : in_range z ≡ true
  pub are : Are m (texts_in b) many items
  pub is : Is m Message u (order_of z many items) n

-- The text of this number is the first that is not ended or is not that of an object reference.
pub data WrongAt (m : Limits) : ℕ → Texts → ℕ → Type 0 where
  not_ended : {k : ℕ} → WrongAt m k unended k
  no_reference : {k : ℕ} {t : List ℕ} {ts : Texts} → ((l : Lead) (s : List ℕ) (ms : Items) → ReadAs m t l s ms → ⊥) → WrongAt m k (text t ts) k
  behind_right : {k j : ℕ} {t : List ℕ} {ts : Texts} {l : Lead} {s : List ℕ} {ms : Items} → ReadAs m t l s ms → WrongAt m (suc k) ts j → WrongAt m k (text t ts) j

no_output : {r p n : ℕ} {u : List ℕ} → refused r p ≡ output u n → ⊥
no_output e = let z : ◌≡◌ {A = ℕ} 0 1 = cc in omega arith

no_wrong : {k n : ℕ} {g : Items} → targets n g ≡ wrong k → ⊥
no_wrong e = let z : ◌≡◌ {A = ℕ} 0 1 = cc in omega arith

module _ (m : Limits) where
  -- what is finished keeps the limits, and what keeps them is finished
  record Kept (g : Items) (u : List ℕ) (n : ℕ) : Type 0 where
    bytes : encode g ≡ u
    count : heads g ≡ n
    short : length (encode g) ≤ m.bytes
    few : heads g ≤ m.items
    shallow : depth g ≤ m.containers

  finished_keeps : (g : Items) {u : List ℕ} {n : ℕ} → finished m g ≡ output u n → Kept g u n
  unfolding finished
  finished_keeps g {u} {n} e = go (ltb m.bytes (length (encode g))) refl (ltb m.items (heads g)) refl (ltb m.containers (depth g)) refl e
    where
      go : (x : Bool) → ltb m.bytes (length (encode g)) ≡ x → (y : Bool) → ltb m.items (heads g) ≡ y → (z : Bool) → ltb m.containers (depth g) ≡ z
          → cond x (refused 1 0) (cond y (refused 5 0) (cond z (refused 6 0) (output (encode g) (heads g)))) ≡ output u n → Kept g u n
      go true p y q z r f = absurd (no_output f)
      go false p true q z r f = absurd (no_output f)
      go false p false q true r f = absurd (no_output f)
      go false p false q false r f = record {
        bytes = cc;
        count = cc;
        short = ltb-false m.bytes (length (encode g)) p;
        few = ltb-false m.items (heads g) q;
        shallow = ltb-false m.containers (depth g) r;
      }

  keeps_finished : (g : Items) {u : List ℕ} {n : ℕ} → Kept g u n → finished m g ≡ output u n
  unfolding finished
  keeps_finished g k =
      rw (
        le-ltb m.bytes (length (encode g)) k.short,
        le-ltb m.items (heads g) k.few,
        le-ltb m.containers (depth g) k.shallow,
        k.bytes,
        k.count,
      )

  -- the limits one by one, of a finished message
  pub one_exactly_if_too_many_bytes : (g : Items) → (finished m g ≡ refused 1 0) ↔ (m.bytes < length (encode g))
  unfolding finished
  one_exactly_if_too_many_bytes g = (λ e. forth (ltb m.bytes (length (encode g))) refl (ltb m.items (heads g)) (ltb m.containers (depth g)) e, λ h. rw (lt-ltb m.bytes (length (encode g)) h))
    where
      forth : (x : Bool) → ltb m.bytes (length (encode g)) ≡ x → (y z : Bool)
          → cond x (refused 1 0) (cond y (refused 5 0) (cond z (refused 6 0) (output (encode g) (heads g)))) ≡ refused 1 0 → m.bytes < length (encode g)
      forth true p y z f = ltb-true m.bytes (length (encode g)) p
      forth false p true z f = absurd (let w : ◌≡◌ {A = ℕ} 5 1 = cc in omega arith)
      forth false p false true f = absurd (let w : ◌≡◌ {A = ℕ} 6 1 = cc in omega arith)
      forth false p false false f = absurd (no_output (sym f))

  pub five_exactly_if_too_many_items : (g : Items) → (finished m g ≡ refused 5 0) ↔ ((length (encode g) ≤ m.bytes) × (m.items < heads g))
  unfolding finished
  five_exactly_if_too_many_items g = (
    λ e. forth (ltb m.bytes (length (encode g))) refl (ltb m.items (heads g)) refl (ltb m.containers (depth g)) e,
    λ (h, i). rw (le-ltb m.bytes (length (encode g)) h, lt-ltb m.items (heads g) i),
  )
    where
      forth : (x : Bool) → ltb m.bytes (length (encode g)) ≡ x → (y : Bool) → ltb m.items (heads g) ≡ y → (z : Bool)
          → cond x (refused 1 0) (cond y (refused 5 0) (cond z (refused 6 0) (output (encode g) (heads g)))) ≡ refused 5 0
          → (length (encode g) ≤ m.bytes) × (m.items < heads g)
      forth true p y q z f = absurd (let w : ◌≡◌ {A = ℕ} 1 5 = cc in omega arith)
      forth false p true q z f = (ltb-false m.bytes (length (encode g)) p, ltb-true m.items (heads g) q)
      forth false p false q true f = absurd (let w : ◌≡◌ {A = ℕ} 6 5 = cc in omega arith)
      forth false p false q false f = absurd (no_output (sym f))

  pub six_exactly_if_too_deep : (g : Items) → (finished m g ≡ refused 6 0) ↔ ((length (encode g) ≤ m.bytes) × (heads g ≤ m.items) × (m.containers < depth g))
  unfolding finished
  six_exactly_if_too_deep g = (
    λ e. forth (ltb m.bytes (length (encode g))) refl (ltb m.items (heads g)) refl (ltb m.containers (depth g)) refl e,
    λ (h, i, j). rw (le-ltb m.bytes (length (encode g)) h, le-ltb m.items (heads g) i, lt-ltb m.containers (depth g) j),
  )
    where
      forth : (x : Bool) → ltb m.bytes (length (encode g)) ≡ x → (y : Bool) → ltb m.items (heads g) ≡ y → (z : Bool) → ltb m.containers (depth g) ≡ z
          → cond x (refused 1 0) (cond y (refused 5 0) (cond z (refused 6 0) (output (encode g) (heads g)))) ≡ refused 6 0
          → (length (encode g) ≤ m.bytes) × (heads g ≤ m.items) × (m.containers < depth g)
      forth true p y q z r f = absurd (let w : ◌≡◌ {A = ℕ} 1 6 = cc in omega arith)
      forth false p true q z r f = absurd (let w : ◌≡◌ {A = ℕ} 5 6 = cc in omega arith)
      forth false p false q true r f =
          (ltb-false m.bytes (length (encode g)) p, ltb-false m.items (heads g) q, ltb-true m.containers (depth g) r)
      forth false p false q false r f = absurd (no_output (sym f))

  -- a text that is not taken is that of no object reference
  gathered_wrong : (k : ℕ) (ts : Texts) {j : ℕ} → Clean max64 max64 ts → gather m k ts ≡ wrong j → WrongAt m k ts j
  gathered_wrong k no_more c e = absurd (no_wrong e)
  gathered_wrong k unended {j} c e = let z : k ≡ j = cc in subst (WrongAt m k unended) z not_ended
  gathered_wrong k (text t ts) {j} c e = go (reference_of m t) refl (gather m (suc k) ts) refl (λ i q. gathered_wrong (suc k) ts c.2 q) e
    where
      go : (x : Reference) → reference_of m t ≡ x → (g : Gathered) → gather m (suc k) ts ≡ g → ((i : ℕ) → gather m (suc k) ts ≡ wrong i → WrongAt m (suc k) ts i)
          → with_first k x g ≡ wrong j → WrongAt m k (text t ts) j
      go nothing p g q ih f =
          let z : k ≡ j = cc in
          subst (WrongAt m k (text t ts)) z
          (no_reference (λ l s ms r. let w = sym p ∙ as_read m c.0 c.1 r in let v : ◌≡◌ {A = ℕ} 0 1 = cc in omega arith))
      go (reference l s ms) p (wrong i) q ih f =
          let z : i ≡ j = cc in
          behind_right (read_as m c.0 c.1 p) (subst (WrongAt m (suc k) ts) z (ih i q))
      go (reference l s ms) p (targets n rs) q ih f = absurd (no_wrong f)

  wrong_gathered : (k : ℕ) (ts : Texts) {j : ℕ} → Clean max64 max64 ts → WrongAt m k ts j → gather m k ts ≡ wrong j
  wrong_gathered k no_more {j = j} c x'' = elim x'' [ ]
  wrong_gathered k unended c not_ended = refl
  wrong_gathered k (text t ts) c (no_reference h) = go (reference_of m t) refl
    where
      go : (x : Reference) → reference_of m t ≡ x → with_first k (reference_of m t) (gather m (suc k) ts) ≡ wrong k
      go nothing p = rw p
      go (reference l s ms) p = absurd (h l s ms (read_as m c.0 c.1 p))
  wrong_gathered k (text t ts) c (behind_right r w) = rw (as_read m c.0 c.1 r, wrong_gathered (suc k) ts c.2 w)

  module _ (z : Nonce) (b : List ℕ) (g : Given z b) where
    all_clean : Clean max64 max64 (texts_in b)
    all_clean = clean b max64 max64 g.octets (omega (arith, g.short)) (omega arith)

    few_targets : {n : ℕ} {ts : Items} → Are m (texts_in b) n ts → n < max64
    few_targets a = omega (arith, are_many a, many_most b, g.short)

    -- 7 exactly if the nonce is out of range
    pub seven_exactly_if_out_of_range : (compose m z b ≡ refused 7 0) ↔ (in_range z ≡ false)
    unfolding compose finished
    seven_exactly_if_out_of_range = (λ e. forth (in_range z) refl (gather m 0 (texts_in b)) e, λ e. rw e)
      where
        never : (h : Items) → finished m h ≡ refused 7 0 → ⊥
        never h e = go (ltb m.bytes (length (encode h))) (ltb m.items (heads h)) (ltb m.containers (depth h)) e
          where
            go : (x y w : Bool) → cond x (refused 1 0) (cond y (refused 5 0) (cond w (refused 6 0) (output (encode h) (heads h)))) ≡ refused 7 0 → ⊥
            go true y w f = let v : ◌≡◌ {A = ℕ} 1 7 = cc in omega arith
            go false true w f = let v : ◌≡◌ {A = ℕ} 5 7 = cc in omega arith
            go false false true f = let v : ◌≡◌ {A = ℕ} 6 7 = cc in omega arith
            go false false false f = no_output (sym f)

        forth : (x : Bool) → in_range z ≡ x → (y : Gathered) → cond x (composed_by m z y) (refused 7 0) ≡ refused 7 0 → in_range z ≡ false
        forth true p (wrong k) f = absurd (let w : ◌≡◌ {A = ℕ} 24 7 = cc in omega arith)
        forth true p (targets n ts) f = absurd (never (order_of z n ts) f)
        forth false p y f = p

    -- 24 exactly if it is in range, with the number of the first text that is wrong
    pub twenty_four_exactly_if_a_text_is_wrong : (k : ℕ) → (compose m z b ≡ refused 24 k) ↔ ((in_range z ≡ true) × WrongAt m 0 (texts_in b) k)
    unfolding compose finished
    twenty_four_exactly_if_a_text_is_wrong k = (λ e. forth (in_range z) refl (gather m 0 (texts_in b)) refl e, λ (e, w). rw (e, wrong_gathered 0 (texts_in b) all_clean w))
      where
        never : (h : Items) → finished m h ≡ refused 24 k → ⊥
        never h e = go (ltb m.bytes (length (encode h))) (ltb m.items (heads h)) (ltb m.containers (depth h)) e
          where
            go : (x y w : Bool) → cond x (refused 1 0) (cond y (refused 5 0) (cond w (refused 6 0) (output (encode h) (heads h)))) ≡ refused 24 k → ⊥
            go true y w f = let v : ◌≡◌ {A = ℕ} 1 24 = cc in omega arith
            go false true w f = let v : ◌≡◌ {A = ℕ} 5 24 = cc in omega arith
            go false false true f = let v : ◌≡◌ {A = ℕ} 6 24 = cc in omega arith
            go false false false f = no_output (sym f)

        forth : (x : Bool) → in_range z ≡ x → (y : Gathered) → gather m 0 (texts_in b) ≡ y → cond x (composed_by m z y) (refused 7 0) ≡ refused 24 k
            → (in_range z ≡ true) × WrongAt m 0 (texts_in b) k
        forth true p (wrong j) q f = let i : j ≡ k = cc in (p, gathered_wrong 0 (texts_in b) all_clean (q ∙ ap wrong i))
        forth true p (targets n ts) q f = absurd (never (order_of z n ts) f)
        forth false p y q f = absurd (let w : ◌≡◌ {A = ℕ} 7 24 = cc in omega arith)

    -- and otherwise the message is judged by the limits
    pub judged_when_right : {n : ℕ} {ts : Items} → in_range z ≡ true → Are m (texts_in b) n ts → compose m z b ≡ finished m (order_of z n ts)
    unfolding compose
    judged_when_right e a = rw (e, (gathered_exactly m 0 (texts_in b) all_clean).1 a)

    -- It composes exactly what it does not refuse.
    pub composes_exactly_if : (u : List ℕ) (n : ℕ) → (compose m z b ≡ output u n) ↔ Composed m z b u n
    unfolding compose
    composes_exactly_if u n = (λ e. forth (in_range z) refl (gather m 0 (texts_in b)) refl e, back)
      where
        made : (i : ℕ) (ts : Items) → in_range z ≡ true → Are m (texts_in b) i ts → Kept (order_of z i ts) u n → Composed m z b u n
        made i ts p a k = record {
          many = i;
          items = ts;
          ranged = p;
          are = a;
          is = record {
            stands = order_stands z p g.nonce_fits (few_targets a) (are_targets a);
            bytes = k.bytes;
            count = k.count;
            short = subst (λ (v : List ℕ). length v ≤ m.bytes) k.bytes k.short;
            few = subst (λ (v : ℕ). v ≤ m.items) k.count k.few;
            shallow = k.shallow;
          };
        }

        forth : (x : Bool) → in_range z ≡ x → (y : Gathered) → gather m 0 (texts_in b) ≡ y → cond x (composed_by m z y) (refused 7 0) ≡ output u n → Composed m z b u n
        forth true p (wrong k) q f = absurd (no_output f)
        forth true p (targets i ts) q f = made i ts p ((gathered_exactly m 0 (texts_in b) all_clean).0 q) (finished_keeps (order_of z i ts) f)
        forth false p y q f = absurd (no_output f)

        back : Composed m z b u n → cond (in_range z) (composed_by m z (gather m 0 (texts_in b))) (refused 7 0) ≡ output u n
        back c =
            let i = c.is in
            rw (c.ranged, (gathered_exactly m 0 (texts_in b) all_clean).1 c.are)
            (keeps_finished (order_of z c.many c.items)
            (record {
              bytes = i.bytes;
              count = i.count;
              short = subst (λ (v : List ℕ). length v ≤ m.bytes) (sym i.bytes) i.short;
              few = subst (λ (v : ℕ). v ≤ m.items) (sym i.count) i.few;
              shallow = i.shallow;
            }))

    module _ {u : List ℕ} {n : ℕ} (e : compose m z b ≡ output u n) where
      pub composed : Composed m z b u n
      composed = (composes_exactly_if u n).0 e

      -- an accepted message
      pub composed_is_accepted : read m Message u ≡ accept n
      composed_is_accepted = is_read m Message u composed.is

      its_tree : decode u ≡ order_of z composed.many composed.items
      its_tree = sym (unique m Message u composed.is)

      -- the nonce that was given
      pub its_nonce : nonce_in u ≡ z
      unfolding lead_of
      its_nonce = ap (λ (i : Items). nonce_by (order_in i)) its_tree ∙ back_again z composed.ranged
        where
          back_again : (y : Nonce) → in_range y ≡ true → nonce_by (item (nonce_lead y) (nonce_string y) none composed.items) ≡ y
          back_again null r = refl
          back_again (number i) r = refl
          back_again (string s) r = refl
          back_again other r = absurd (true≢false (sym r))

      -- the targets are the texts' ARIs in order
      pub its_targets : Are m (texts_in b) composed.many (behind (order_in (decode u)))
      its_targets = subst (λ (i : Items). Are m (texts_in b) composed.many (behind (order_in i))) (sym its_tree) composed.are

      -- as the gate counts targets (R168): one by one they have the bytes of the texts' ARIs
      pub its_targets_one_by_one : map placed_bytes (counted (spots_of Message (decode u))) ≡ each_ari composed.are
      its_targets_one_by_one =
          let c = composed in
          ap (λ (i : Items). map placed_bytes (counted (spots_of Message i))) its_tree
          ∙ ap (map placed_bytes) (order_targets z c.ranged g.nonce_fits (few_targets c.are) (are_targets c.are))
          ∙ are_each c.are (first_target z c.many)

      -- by the rules too, and in bytes: from the first target on the message is the texts' ARIs, one behind the other
      pub targets_by_the_rules : Targets composed.many (behind (order_in (decode u)))
      targets_by_the_rules = are_targets its_targets

      pub its_last_bytes : drop (first_target z composed.many) u ≡ aris composed.are
      its_last_bytes =
          let c = composed in
          ap (drop (first_target z c.many)) (sym c.is.bytes ∙ order_bytes z c.many c.items)
          ∙ drop_at (front_bytes z c.many) (encode c.items) (first_target z c.many) (front_length z c.many)
          ∙ are_aris c.are

      -- the listing is that of the targets' references, each target from where it stands
      pub its_listing : listing u ≡ map entry_for (in_targets (are_targets composed.are) (first_target z composed.many))
      its_listing =
          let c = composed in
          let i = c.is in
          let few = few_targets c.are in
          let again : Is m Message u (order_of z c.many c.items) n
          = record {
            stands = order_stands z c.ranged g.nonce_fits few (are_targets c.are);
            bytes = i.bytes;
            count = i.count;
            short = i.short;
            few = i.few;
            shallow = i.shallow;
          } in
          listing_is again ∙ ap (map entry_for) (order_references z c.ranged g.nonce_fits few (are_targets c.are))

      -- taken apart, it is what was given
      pub its_texts : texts_for u ≡ b
      its_texts = ap (λ (i : Items). texts_by (behind (order_in i))) its_tree ∙ are_joined composed.are ∙ joined_back b (are_ended composed.are)

      -- taken apart and composed again, it is the same
      pub composed_again : compose m (nonce_in u) (texts_for u) ≡ output u n
      composed_again = rw (its_nonce, its_texts) e
