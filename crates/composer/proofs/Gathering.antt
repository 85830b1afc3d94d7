-- The texts that are targets, in order: what is gathered is exactly that (`gathered_exactly`); and gathering goes on from place to place.
use Prim.Native.Nat.{ℕ, suc, ◌≤◌}
use mathlib.Core.Logic.{◌↔◌}
use mathlib.Core.Path.{◌≡◌, refl, sym, ◌∙◌, ap}
use mathlib.Core.List.{List, [], ◌++◌, append-nil, append_assoc, map, ◌∷◌}
use native.Mathlib.Omega.{arith}
use lib.ListN.{length, length-append}
use Rattle.cbor.specs.Head.{Lead}
use Rattle.cbor.proofs.HeadLaws.{length_lead}
use Rattle.ari.specs.Table.{max64}
use Rattle.ari.specs.declared.Limits.{Limits}
use Rattle.ari.specs.Items.{Items, none, item, encode}
use Rattle.ari.specs.References.{Placed, past}
use Rattle.ari.proofs.RuledTargets.{each_target}
use Rattle.ari.specs.Rules.{Targets, no_targets}
use Rattle.ari.specs.Rules as rules
use Rattle.text.specs.Text.{text_of}
use Rattle.composer.specs.Compose.{Texts, no_more, unended, text, Reference, nothing, reference, reference_of, Gathered, wrong, targets, with_first, gather}
use Rattle.composer.specs.Apart.{texts_by}
use Rattle.composer.proofs.Texts.{Clean, many, Ended, joined}
use Rattle.composer.proofs.Reading.{ReadAs, read_as, as_read, its_bytes}

-- The texts are those of these targets, so many, one by one.
pub data Are (m : Limits) : Texts → ℕ → Items → Type 0 where
  no_texts : Are m no_more 0 none
  a_text : {t : List ℕ} {ts : Texts} {n : ℕ} {l : Lead} {s : List ℕ} {ms rs : Items} → ReadAs m t l s ms → Are m ts n rs → Are m (text t ts) (suc n) (item l s ms rs)

pub record Firsts (k : ℕ) (x : Reference) (g : Gathered) (n : ℕ) (ts : Items) : Type 0 where
  pub lead : Lead
  pub str : List ℕ
  pub inside : Items
  pub rest : Items
  pub left : ℕ
  pub first_is : x ≡ reference lead str inside
  pub rest_is : g ≡ targets left rest
  pub many_is : n ≡ suc left
  pub whole : ts ≡ item lead str inside rest

pub firsts : (k : ℕ) (x : Reference) (g : Gathered) {n : ℕ} {ts : Items} → with_first k x g ≡ targets n ts → Firsts k x g n ts
firsts k nothing g e = absurd (let z : ◌≡◌ {A = ℕ} 0 1 = cc in omega arith)
firsts k (reference l s ms) (wrong j) e = absurd (let z : ◌≡◌ {A = ℕ} 0 1 = cc in omega arith)
firsts k (reference l s ms) (targets i rs) e = record {
  lead = l;
  str = s;
  inside = ms;
  rest = rs;
  left = i;
  first_is = refl;
  rest_is = refl;
  many_is = cc;
  whole = cc;
}

recast : {m : Limits} {ts : Texts} {n n' : ℕ} {g g' : Items} → n ≡ n' → g ≡ g' → Are m ts n' g' → Are m ts n g
recast p q a = rw (p, q) a

module _ (m : Limits) where
  gathered_are : (j k : ℕ) (ts : Texts) {n : ℕ} {g : Items} → j ≤ max64 → Clean j max64 ts → gather m k ts ≡ targets n g → Are m ts n g
  gathered_are j k no_more {n} {g} h c e = recast (let a : n ≡ 0 = cc in a) (let a : g ≡ none = cc in a) no_texts
  gathered_are j k unended h c e = absurd (let z : ◌≡◌ {A = ℕ} 0 1 = cc in omega arith)
  gathered_are j k (text t ts) {n} {g} h c e =
      let f = firsts k (reference_of m t) (gather m (suc k) ts) e in
      let r = read_as m c.0 (omega (arith, c.1)) f.first_is in
      recast f.many_is f.whole (a_text r (gathered_are max64 (suc k) ts (omega arith) c.2 f.rest_is))

  are_gathered : (j k : ℕ) (ts : Texts) {n : ℕ} {g : Items} → j ≤ max64 → Clean j max64 ts → Are m ts n g → gather m k ts ≡ targets n g
  are_gathered j k unended {n = n} {g = g} h c x3 = elim x3 [ ]
  are_gathered j k no_more h c no_texts = refl
  are_gathered j k (text t ts) h c (a_text r a) =
      rw (as_read m c.0 (omega (arith, c.1)) r, are_gathered max64 (suc k) ts (omega arith) c.2 a)

  -- exactly if
  pub gathered_exactly : (k : ℕ) (ts : Texts) {n : ℕ} {g : Items} → Clean max64 max64 ts → (gather m k ts ≡ targets n g) ↔ Are m ts n g
  gathered_exactly k ts c = (gathered_are max64 k ts (omega arith) c, are_gathered max64 k ts (omega arith) c)

-- the bytes of an item with its place
abbrev pub placed_bytes : Placed → List ℕ
placed_bytes x = encode (item x.lead x.str x.inside none)

pub encode_front : (l : Lead) (s : List ℕ) (ms rs : Items) → encode (item l s ms rs) ≡ encode (item l s ms none) ++ encode rs
encode_front l s ms rs = simp (append_assoc, append-nil)

module _ {m : Limits} where
  pub are_targets : {ts : Texts} {n : ℕ} {g : Items} → Are m ts n g → Targets n g
  are_targets no_texts = no_targets
  are_targets (a_text r a) = rules.targets r.object (are_targets a)

  pub are_many : {ts : Texts} {n : ℕ} {g : Items} → Are m ts n g → n ≡ many ts
  are_many no_texts = refl
  are_many (a_text r a) = ap suc (are_many a)

  pub are_ended : {ts : Texts} {n : ℕ} {g : Items} → Are m ts n g → Ended ts
  are_ended no_texts = tt
  are_ended (a_text r a) = are_ended a

  -- each target is a byte at least
  pub are_bytes : {ts : Texts} {n : ℕ} {g : Items} → Are m ts n g → n ≤ length (encode g)
  are_bytes no_texts = omega arith
  are_bytes (a_text {l = l} {s = s} {ms = ms} {rs = rs} r a) =
      simp length-append (omega (arith, length_lead l, are_bytes a))

  -- their texts again
  pub are_joined : {ts : Texts} {n : ℕ} {g : Items} → Are m ts n g → texts_by g ≡ joined ts
  are_joined no_texts = refl
  are_joined (a_text r a) = let z = sym (ap text_of r.decoded) ∙ r.spelled.the_text in rw (z, are_joined a)

  -- the texts' ARIs, one behind the other, are the targets' bytes
  pub aris : {ts : Texts} {n : ℕ} {g : Items} → Are m ts n g → List ℕ
  aris no_texts = []
  aris (a_text r a) = r.ari ++ aris a

  pub are_aris : {ts : Texts} {n : ℕ} {g : Items} (a : Are m ts n g) → encode g ≡ aris a
  unfolding aris
  are_aris no_texts = refl
  are_aris (a_text {l = l} {s = s} {ms = ms} {rs = rs} r a) = encode_front l s ms rs ∙ rw (its_bytes r, are_aris a)

  -- and one by one
  pub each_ari : {ts : Texts} {n : ℕ} {g : Items} → Are m ts n g → List (List ℕ)
  each_ari no_texts = []
  each_ari (a_text r a) = r.ari ∷ each_ari a

  pub are_each : {ts : Texts} {n : ℕ} {g : Items} (a : Are m ts n g) (p : ℕ) → map placed_bytes (each_target (are_targets a) p) ≡ each_ari a
  unfolding each_ari are_targets
  are_each no_texts p = refl
  are_each (a_text {l = l} {s = s} {ms = ms} r a) p = rw (its_bytes r, are_each a (past p l s ms))
