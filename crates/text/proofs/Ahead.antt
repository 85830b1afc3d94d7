-- An ARI's head is found by looking ahead in its text.
use Prim.Native.Nat.{ℕ}
use mathlib.Core.Path.{◌≡◌, refl, sym, ◌∙◌, ap}
use mathlib.Core.Bool.{Bool, true, false, ◌||◌, cond, true≢false}
use mathlib.Core.List.{List, [], ◌∷◌, ◌++◌, append_assoc}
use lib.Dec.{eqb}
use borrow.Author.Tests.{eqb-true, ne_eqb}
use Rattle.buffer.specs.Runs.{past}
use Rattle.buffer.specs.Bytes.{all, is_byte}
use Rattle.cbor.specs.Head.{array, simple, Lead, Sound, is_container}
use Rattle.ari.specs.Table.{Place, inner, ari, type, value, namespace, object_namespace, params, done, due, ari_level, rule, members}
use Rattle.ari.specs.Shortened.{short_lead}
use Rattle.ari.specs.Items.{Items, none, item}
use Rattle.ari.specs.Decode.{Headed}
use Rattle.ari.specs.Rules.{Holds, Ari, literal, namespace_ref, typed, object_ref, plain, with_params}
use Rattle.text.specs.Chars.{literal_text, name_text}
use Rattle.text.specs.Text.{an_ari, absolute, spell, texts, type_name, is_float}
use Rattle.text.specs.Parse.{ends, in_word, starts_by, starts, head_of, starts_number, parts, take_word, take_ari}
use Rattle.text.proofs.Words.{Literal, halts, word_at, begins, starts_more, starts_literal, literal_starts, Named, named_word, named_starts}
use Rattle.text.proofs.Leads.{head_is, literal_case, namespace_named, type_named, id_named, Space, relative, absolute as from, space_case, Word, literal_spelled, TypeWord, type_word}
use Rattle.text.proofs.Slots.{literal_leaf}

-- what may stand behind an ARI: nothing, a comma, a closing parenthesis
unfoldable pub stops : List ℕ → Bool
stops [] = true
stops (x ∷ t) = eqb x 44 || eqb x 41

pub stop_halt : (r : List ℕ) → stops r ≡ true → halts r ≡ true
unfolding stops halts ends
stop_halt [] h = refl
stop_halt (x ∷ r) h = go (eqb x 44) refl
  where
    go : (t : Bool) → eqb x 44 ≡ t → ends x ≡ true
    go true e = rw (eqb-true x 44 e)
    go false e = let f : eqb x 41 ≡ true = rw e at h in rw (eqb-true x 41 f)

pub stop_not : (c : ℕ) → (eqb c 44 || eqb c 41) ≡ false → (r : List ℕ) → stops r ≡ true → starts c r ≡ false
unfolding stops starts_by
stop_not c n [] h = refl
stop_not c n (x ∷ r) h = ne_eqb x c (λ e. let z : (eqb c 44 || eqb c 41) ≡ true = rw e at h in true≢false (sym z ∙ n))

-- a word is taken
pub take_word_lem : {f : List ℕ → Headed} {u : List ℕ} {l : Lead} {s : List ℕ} → Word f u l s → (r : List ℕ) → halts r ≡ true
    → take_word f (u ++ r) ≡ record { head = record { lead = short_lead l; str = s }; rest = r }
take_word_lem {u = u} w r h = let (p, q) = word_at u r w.letters h in rw (p, q, w.back)

-- The texts of references and typed literals, laid out from the left.
module _ (l : Lead) (s : List ℕ) (m rs : Items) (r : List ℕ) (b : m ≡ none) where
  namespace_shape : texts (item l s m none) (due namespace 0) ++ r ≡ 47 ∷ 47 ∷ (name_text l s ++ (47 ∷ r))
  unfolding spell rule
  namespace_shape = rw b (ap (λ (z : List ℕ). 47 ∷ 47 ∷ z) (append_assoc (name_text l s) (47 ∷ []) r))

  typed_shape : (w : Place) → texts (item l s m rs) (due (type w) 0) ++ r ≡ type_name l.arg ++ (47 ∷ (texts rs (due (value l.arg (inner w)) 0) ++ r))
  unfolding spell rule
  typed_shape w = rw b (simp append_assoc)

space : Lead → List ℕ → List ℕ
space l s = cond (eqb l.kind simple) (46 ∷ []) (absolute l s)

object_shape : (p : Bool) (l₁ l₂ l₃ : Lead) (s₁ s₂ s₃ : List ℕ) (m₁ m₂ m₃ rs : Items) (r : List ℕ) → m₁ ≡ none → m₂ ≡ none → m₃ ≡ none
    → texts (item l₁ s₁ m₁ (item l₂ s₂ m₂ (item l₃ s₃ m₃ rs))) (due (object_namespace p) 0) ++ r
    ≡ space l₁ s₁ ++ (47 ∷ (name_text l₂ s₂ ++ (47 ∷ (name_text l₃ s₃ ++ (texts rs (cond p (due params 0) done) ++ r)))))
unfolding spell rule space
object_shape p l₁ l₂ l₃ s₁ s₂ s₃ m₁ m₂ m₃ rs r b₁ b₂ b₃ = rw (b₁, b₂, b₃) (simp append_assoc)

-- the parts of a reference
no_parts : (r : List ℕ) → halts r ≡ true → parts r ≡ 1
unfolding parts starts_by in_word halts
no_parts [] h = refl
no_parts (x ∷ r) h = rw h

all_parts : (l₂ l₃ : Lead) {s₂ s₃ : List ℕ} → Named l₂.kind l₂.arg s₂ → Named l₃.kind l₃.arg s₃ → (z : List ℕ) → halts z ≡ true
    → parts (name_text l₂ s₂ ++ (47 ∷ (name_text l₃ s₃ ++ z))) ≡ cond (starts 40 z) 4 3
unfolding parts
all_parts l₂ l₃ {s₂} {s₃} n₂ n₃ z h =
    let (p, q) = word_at (name_text l₂ s₂) (47 ∷ (name_text l₃ s₃ ++ z)) (named_word l₂.info n₂) (unfold halts ends in refl) in
    let (x, y) = word_at (name_text l₃ s₃) z (named_word l₃.info n₃) h in
    rw (starts_more in_word (name_text l₂ s₂) (47 ∷ (name_text l₃ s₃ ++ z)) (named_starts l₂.info n₂), q, y)

-- What is read of an ARI's text: its head, and what stands inside; it starts with no parenthesis, and its first word is no key.
pub record Seen (h : Headed) (inside text : List ℕ) : Type 0 where
  pub taken : take_ari text ≡ record { head = h; rest = inside }
  pub end_not : starts 41 text ≡ false
  pub key_not : starts 61 (past in_word text) ≡ false

literal_seen : {l : Lead} {s : List ℕ} (r : List ℕ) → Literal l.kind l.arg s → Sound l → is_float l ≡ false → all is_byte s ≡ true → stops r ≡ true
    → Seen (record { lead = short_lead l; str = s }) r (literal_text l s ++ r)
unfolding take_ari starts_literal starts_number
literal_seen {l} {s} r n h f b z =
    let w = literal_spelled n h f b in
    let o : (c : ℕ) → starts_literal c ≡ false → starts c (literal_text l s ++ r) ≡ false
    = λ c e. begins starts_literal c (literal_text l s ++ r) (starts_more starts_literal (literal_text l s) r (literal_starts l.info n)) e in
    record {
      taken = rw (o 47 refl, o 46 refl, take_word_lem w r (stop_halt r z));
      end_not = o 41 refl;
      key_not = rw (word_at (literal_text l s) r w.letters (stop_halt r z)).1 (stop_not 61 refl r z);
    }

namespace_seen : (l : Lead) {s : List ℕ} (r : List ℕ) → Named l.kind l.arg s → halts r ≡ true
    → Seen (head_of array 1 []) (47 ∷ 47 ∷ (name_text l s ++ (47 ∷ r))) (47 ∷ 47 ∷ (name_text l s ++ (47 ∷ r)))
unfolding take_ari starts_by past in_word ends
namespace_seen l {s} r m h =
    let (p, q) = word_at (name_text l s) (47 ∷ r) (named_word l.info m) (unfold halts in refl) in
    record { taken = rw (q, no_parts r h); end_not = refl; key_not = refl }

typed_seen : {t : ℕ} → TypeWord t → (v : List ℕ) → Seen (head_of array 2 []) (type_name t ++ (47 ∷ v)) (47 ∷ (type_name t ++ (47 ∷ v)))
unfolding take_ari starts_by past in_word ends
typed_seen {t} w v =
    let o : starts 47 (type_name t ++ (47 ∷ v)) ≡ false
    = begins in_word 47 (type_name t ++ (47 ∷ v)) (starts_more in_word (type_name t) (47 ∷ v) w.begins) (unfold in_word in refl) in
    record { taken = rw o; end_not = refl; key_not = refl }

object_seen : {l₁ : Lead} {s₁ : List ℕ} (l₂ l₃ : Lead) {s₂ s₃ : List ℕ} → Space l₁ s₁ → Named l₂.kind l₂.arg s₂ → Named l₃.kind l₃.arg s₃
    → (z : List ℕ) → halts z ≡ true
    → Seen (head_of array (cond (starts 40 z) 4 3) []) (space l₁ s₁ ++ (47 ∷ (name_text l₂ s₂ ++ (47 ∷ (name_text l₃ s₃ ++ z)))))
    (space l₁ s₁ ++ (47 ∷ (name_text l₂ s₂ ++ (47 ∷ (name_text l₃ s₃ ++ z)))))
unfolding take_ari starts_by past in_word ends space
object_seen l₂ l₃ (relative k a e) n₂ n₃ z h = rw k (record { taken = rw (all_parts l₂ l₃ n₂ n₃ z h); end_not = refl; key_not = refl })
object_seen {l₁} {s₁} l₂ l₃ {s₂} {s₃} (from k m) n₂ n₃ z h =
    let u : List ℕ = name_text l₂ s₂ ++ (47 ∷ (name_text l₃ s₃ ++ z)) in
    let (p, q) = word_at (name_text l₁ s₁) (47 ∷ u) (named_word l₁.info m) (unfold halts in refl) in
    rw k (record { taken = rw (q, all_parts l₂ l₃ n₂ n₃ z h); end_not = refl; key_not = refl })

-- the head of an array
held_head : {n : ℕ} {l : Lead} {s : List ℕ} → Holds array n l s → head_of array n [] ≡ record { lead = short_lead l; str = s }
unfolding is_float
held_head {n} {l} {s} h =
    ap (λ (k : ℕ). head_of k n []) (sym h.kind_is) ∙ ap (λ (a : ℕ). head_of l.kind a []) (sym h.arg_is)
    ∙ ap (head_of l.kind l.arg) (sym h.bare) ∙ head_is s h.head (rw h.kind_is)

pub held_text : (w : Place) {n : ℕ} {l : Lead} {s : List ℕ} → Holds array n l s
    → (an_ari.before l s ≡ cond (eqb n 2) (47 ∷ []) []) × (members (ari w) l ≡ ari_level w n)
unfolding members rule
held_text w h = (rw (h.kind_is, h.arg_is), rw (h.kind_is, h.arg_is))

params_seen : {l₁ : Lead} {s₁ : List ℕ} (l₂ l₃ : Lead) {s₂ s₃ : List ℕ} → Space l₁ s₁ → Named l₂.kind l₂.arg s₂ → Named l₃.kind l₃.arg s₃
    → (l₄ : Lead) (s₄ : List ℕ) (m₄ : Items) (r : List ℕ) → let z : List ℕ = texts (item l₄ s₄ m₄ none) (due params 0) ++ r in
    Seen (head_of array 4 []) (space l₁ s₁ ++ (47 ∷ (name_text l₂ s₂ ++ (47 ∷ (name_text l₃ s₃ ++ z)))))
    (space l₁ s₁ ++ (47 ∷ (name_text l₂ s₂ ++ (47 ∷ (name_text l₃ s₃ ++ z)))))
unfolding spell starts_by halts ends
params_seen l₂ l₃ x n₂ n₃ l₄ s₄ m₄ r = object_seen l₂ l₃ x n₂ n₃ (texts (item l₄ s₄ m₄ none) (due params 0) ++ r) refl

pub ari_seen : {w : Place} {l : Lead} {s : List ℕ} {ms : Items} → Ari w l s ms → is_float l ≡ false → all is_byte s ≡ true → (r : List ℕ) → stops r ≡ true
    → Seen (record { lead = short_lead l; str = s }) (texts ms (members (ari w) l) ++ r) (an_ari.before l s ++ (texts ms (members (ari w) l) ++ r))
ari_seen {w} {l} {s} (literal {ms = ms} e p) f b r z =
    let c = literal_leaf p in
    let n : eqb l.kind array ≡ false = ne_eqb l.kind array (λ q. true≢false (unfold is_container in (rw q at c))) in
    rw (n, p.bare) (literal_seen r (literal_case p refl c f) p.head f b z)
ari_seen {w} {l} {s} (namespace_ref {l₁ = l₁} {s₁ = s₁} {m₁ = m₁} e h p) f b r z =
    let (x, y) = held_text w h in
    rw (x, y, ← held_head h, namespace_shape l₁ s₁ m₁ none r p.bare) (namespace_seen l₁ r (namespace_named p) (stop_halt r z))
ari_seen {w} {l} {s} (typed {l₁ = l₁} {l₂ = l₂} {s₁ = s₁} {s₂ = s₂} {m₁ = m₁} {m₂ = m₂} h p v) f b r z =
    let (x, y) = held_text w h in
    rw (x, y, ← held_head h, typed_shape l₁ s₁ m₁ (item l₂ s₂ m₂ none) r p.bare w)
    (typed_seen (type_word w l₁.kind l₁.arg p.fitting).1 (texts (item l₂ s₂ m₂ none) (due (value l₁.arg (inner w)) 0) ++ r))
ari_seen {w} {l} {s} (object_ref e (plain {l₁ = l₁} {l₂ = l₂} {l₃ = l₃} {s₁ = s₁} {s₂ = s₂} {s₃ = s₃} {m₁ = m₁} {m₂ = m₂} {m₃ = m₃} h p₁ p₂ p₃)) f b r z =
    let (x, y) = held_text w h in
    rw (x, y, ← held_head h, object_shape false l₁ l₂ l₃ s₁ s₂ s₃ m₁ m₂ m₃ none r p₁.bare p₂.bare p₃.bare)
    (rw (stop_not 40 refl r z) at (object_seen l₂ l₃ (space_case p₁) (type_named p₂) (id_named p₃) r (stop_halt r z)))
ari_seen {w} {l} {s} (object_ref e (with_params {l₁ = l₁} {l₂ = l₂} {l₃ = l₃} {l₄ = l₄} {s₁ = s₁} {s₂ = s₂} {s₃ = s₃} {s₄ = s₄} {m₁ = m₁} {m₂ = m₂}
    {m₃ = m₃} {m₄ = m₄} h p₁ p₂ p₃ u)) f b r z =
    let (x, y) = held_text w h in
    rw (x, y, ← held_head h, object_shape true l₁ l₂ l₃ s₁ s₂ s₃ m₁ m₂ m₃ (item l₄ s₄ m₄ none) r p₁.bare p₂.bare p₃.bare)
    (params_seen l₂ l₃ (space_case p₁) (type_named p₂) (id_named p₃) l₄ s₄ m₄ r)
