-- The words of heads, by the slots that they stand at.
use Prim.Native.Nat.{ℕ}
use mathlib.Core.Path.{◌≡◌, refl, sym, ◌∙◌, ap}
use mathlib.Core.Bool.{Bool, true, false, true≢false}
use lib.Dec.{eqb}
use mathlib.Core.List.{List, []}
use Rattle.buffer.specs.Bytes.{all, is_byte}
use Rattle.cbor.specs.Head.{unsigned, array, Lead, Sound, is_container}
use Rattle.ari.specs.Table.{Place, Slot, ari, type, value, namespace, object_namespace, object_type, object_id, key, entry, literals, types, value_rows, value_spelling, done, rule}
use Rattle.ari.specs.Shortened.{short_lead}
use Rattle.ari.specs.Items.{Items, none, item}
use Rattle.ari.specs.Rules
use Rattle.ari.specs.Rules.{Plain, Holds, Ari, literal, namespace_ref, typed, object_ref, plain, with_params}
use Rattle.ari.proofs.Due.{Fit, members_leaf}
use Rattle.ari.proofs.Rows.{no_container, type_leaf}
use Rattle.ari.proofs.RulesFit.{Here, here_as, alike_sym, entry_alike}
use Rattle.ari.proofs.FitRules.{of_plain, of_ari, of_array}
use Rattle.text.specs.Chars.{literal_text, name_text}
use Rattle.text.specs.Text.{type_name, is_float}
use Rattle.text.specs.Parse.{head_of, literal_of, name_of, value_of, type_of}
use Rattle.text.proofs.Words.{Literal}
use Rattle.text.proofs.Leads.{head_is, literal_case, namespace_named, type_named, id_named, Space, space_case, Word, literal_spelled, name_spelled, type_word, value_text, value_spelled, no_string, sized_as}

nothing : (g : Items) → Fit g false done [] → g ≡ none
nothing none f = refl
nothing (item l s ms rs) f = absurd f

-- no members but in arrays and maps
pub leaf_none : {t : Slot} {prev : List ℕ} {l : Lead} {s : List ℕ} {ms : Items} → Here t prev l s ms → is_container l.kind ≡ false → ms ≡ none
leaf_none {t} {l = l} {ms = ms} h c = nothing ms (rw (members_leaf t l c) at h.holds)

pub literal_leaf : {l : Lead} {s : List ℕ} {ms : Items} → Rules.Literal l s ms → is_container l.kind ≡ false
unfolding is_container
literal_leaf {l} p = no_container l.kind l.arg literals refl p.fitting

-- an ARI that is no array is a literal
not_held : {n : ℕ} {l : Lead} {s : List ℕ} → Holds array n l s → eqb l.kind array ≡ false → ⊥
not_held h n = true≢false (rw h.kind_is at n)

pub literal_here : {w : Place} {l : Lead} {s : List ℕ} {ms : Items} → Ari w l s ms → eqb l.kind array ≡ false → is_float l ≡ false → all is_byte s ≡ true
    → Literal l.kind l.arg s × (Sound l) × (ms ≡ none)
literal_here (literal r p) n f b = (literal_case p refl (literal_leaf p) f, p.head, p.bare)
literal_here (namespace_ref r h p) n f b = absurd (not_held h n)
literal_here (typed h t v) n f b = absurd (not_held h n)
literal_here (object_ref r (plain h x y z)) n f b = absurd (not_held h n)
literal_here (object_ref r (with_params h x y z u)) n f b = absurd (not_held h n)

module _ {prev : List ℕ} {l : Lead} {s : List ℕ} {ms : Items} where
  -- where an ARI is due
  pub ari_here : {w : Place} → Here (ari w) prev l s ms → Ari w l s ms
  ari_here h = of_ari h (λ w l s x. of_array ms w l s x)

  pub entry_here : {w : Place} → Here (entry w) prev l s ms → Ari w l s ms
  entry_here {w} h = ari_here (here_as prev (alike_sym (entry_alike w)) h)

  pub space_here : {p : Bool} → Here (object_namespace p) prev l s ms → Space l s × (ms ≡ none)
  unfolding rule is_container
  space_here h = let q = of_plain h refl in (space_case q, q.bare)

  module _ (f : is_float l ≡ false) where
    pub type_here : {w : Place} → Here (type w) prev l s ms → Word type_of (type_name l.arg) l s × (ms ≡ none)
    unfolding rule is_container type_of
    type_here {w} h =
        let q = of_plain h (type_leaf w) in
        let (z, t) = type_word w l.kind l.arg q.fitting in
        let y = no_string s (sized_as q unsigned z) in
        let e : head_of unsigned l.arg [] ≡ record { lead = short_lead l; str = s }
        = ap (λ (k : ℕ). head_of k l.arg []) (sym z) ∙ ap (head_of l.kind l.arg) (sym y) ∙ head_is s q.head f in
        (record { letters = t.letters; begins = t.begins; back = rw t.known e }, q.bare)

    pub namespace_here : Here namespace prev l s ms → Word name_of (name_text l s) l s × (ms ≡ none)
    unfolding rule is_container
    namespace_here h = let q = of_plain h refl in (name_spelled (namespace_named q) q.head f, q.bare)

    pub object_type_here : {p : Bool} → Here (object_type p) prev l s ms → Word name_of (name_text l s) l s × (ms ≡ none)
    unfolding rule is_container
    object_type_here h = let q = of_plain h refl in (name_spelled (type_named q) q.head f, q.bare)

    pub object_id_here : {p : Bool} → Here (object_id p) prev l s ms → Word name_of (name_text l s) l s × (ms ≡ none)
    unfolding rule is_container
    object_id_here h = let q = of_plain h refl in (name_spelled (id_named q) q.head f, q.bare)

    pub key_here : {w : Place} → all is_byte s ≡ true → Here (key w) prev l s ms → Word literal_of (literal_text l s) l s × (ms ≡ none)
    unfolding rule is_container
    key_here {w} b h =
        let q = of_plain h refl in
        (literal_spelled (literal_case q refl (no_container l.kind l.arg (rule (key w)).rows refl q.fitting) f) q.head f b, q.bare)

    pub value_here : {t : ℕ} {w : Place} → is_container l.kind ≡ false → all is_byte s ≡ true → Here (value t w) prev l s ms
        → Word (value_of t) (value_text t l s) l s × (ms ≡ none)
    unfolding rule
    value_here {t} c b h =
        let z = leaf_none h c in
        let q : Plain (value_rows t types) (value_spelling t) l s ms
        = record { head = h.good.head; fitting = h.good.fitting; sized = h.good.sized; spelling = h.good.spelled; bare = z } in
        (value_spelled t q c f b, z)
