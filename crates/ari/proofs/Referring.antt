-- The listing's filter of the spots finds what the rules make references.
use Prim.Native.Nat.{ℕ, suc}
use mathlib.Core.Path.{◌≡◌, refl, ◌∙◌, ap}
use mathlib.Core.Bool.{Bool, true, false, not, cond, and-false, true≢false}
use mathlib.Core.List.{List, [], ◌∷◌, ◌++◌, append-nil, append_assoc, map, map-append}
use lib.Dec.{eqb}
use borrow.Author.Tests.{ne_eqb}
use Rattle.cbor.specs.Head.{array, Lead, is_container}
use Rattle.ari.specs.Table.{Place, inner, alone, message, Slot, version, ari, type, value, namespace, object_namespace, object_type, object_id, params, key, entry, nonce, set_time, target, report, report_time, report_source, Row, Level, done, due, many, reference_level, ari_level, types, rule, members, is_reference, literals}
use Rattle.ari.specs.declared.Input.{Input}
use Rattle.ari.specs.Items.{Items, none, item, Spot, inside_at, spot_at, spots, spots_of}
use Rattle.ari.specs.Rules.{Plain, Holds, Ari, literal, namespace_ref, typed, object_ref, Object, plain, with_params, Params, list, table, Value, simple_value, ac, am, execset, rptset, Aris, no_aris, aris, Pairs, no_pairs, pairs, Targets, no_targets, targets, Reports, no_reports, reports, Sets, no_more, set, Stands, single_ari, a_message}
use Rattle.ari.specs.Listing.{referring}
use Rattle.ari.specs.References.{Placed, placed, past, in_ari, in_object, in_params, in_value, in_aris, in_pairs, in_targets, in_reports, in_sets, references}
use Rattle.ari.proofs.Due.{members_leaf, member_level, members_held}
use Rattle.ari.proofs.Rows.{no_container}
use Rattle.ari.proofs.RulesFit.{less_one, less_two}

-- an item of the tree without its slot
abbrev pub place_of : Spot → Placed
place_of x = placed x.first x.lead x.str x.inside

abbrev pub found : List Spot → List Placed
found xs = map place_of (referring xs)

pub referring_append : (xs ys : List Spot) → referring (xs ++ ys) ≡ referring xs ++ referring ys
referring_append [] ys = refl
referring_append (x ∷ xs) ys = go (is_reference x.slot x.lead) (referring_append xs ys)
  where
    go : (t : Bool) → referring (xs ++ ys) ≡ referring xs ++ referring ys
        → cond t (x ∷ referring (xs ++ ys)) (referring (xs ++ ys)) ≡ cond t (x ∷ referring xs) (referring xs) ++ referring ys
    go true e = ap (λ (r : List Spot). x ∷ r) e
    go false e = e

found_append : (xs ys : List Spot) → found (xs ++ ys) ≡ found xs ++ found ys
found_append xs ys = ap (map place_of) (referring_append xs ys) ∙ map-append place_of (referring xs) (referring ys)

-- the level inside an array or a map
inside_held : (s : Slot) {k n : ℕ} {l : Lead} {str : List ℕ} → is_container k ≡ true → Holds k n l str → members s l ≡ member_level s k n
inside_held s {l = l} c h = members_held s l (rw h.kind_is c) ∙ rw (h.kind_is, h.arg_is)

-- whether an item is a reference
module _ (s : Slot) where
  not_asked : (l : Lead) → (rule s).takes_reference ≡ false → is_reference s l ≡ false
  unfolding is_reference
  not_asked l a = rw a

  pub not_array : (l : Lead) → is_container l.kind ≡ false → is_reference s l ≡ false
  unfolding is_reference is_container
  not_array l c = rw (ne_eqb l.kind array (λ e. true≢false (rw e at c))) (and-false (rule s).takes_reference)

  an_array : {n : ℕ} {l : Lead} {str : List ℕ} → (rule s).takes_reference ≡ true → Holds array n l str → is_reference s l ≡ not (eqb n 2)
  unfolding is_reference
  an_array a h = rw (a, h.kind_is, h.arg_is)

-- the spots of one item: its own and those within
abbrev within : Slot → ℕ → ℕ → Lead → List ℕ → Items → List Spot
within s p d l str ms = spot_at s p d l str ms ∷ spots ms false (members s l) (inside_at p l str) (suc d)

module _ (s : Slot) (p d : ℕ) (l : Lead) (str : List ℕ) (ms : Items) where
  -- an item, and those behind it
  both : (n : ℕ) (more : Bool) (g : Items) {xs ys : List Placed} → found (within s p d l str ms) ≡ xs
      → found (spots g more ((rule s).next l.arg n) (past p l str ms) d) ≡ ys → found (spots (item l str ms g) more (due s n) p d) ≡ xs ++ ys
  both n more g e f = found_append (within s p d l str ms) (spots g more ((rule s).next l.arg n) (past p l str ms) d) ∙ rw (e, f)

  last_one : (n : ℕ) {xs : List Placed} → found (within s p d l str ms) ≡ xs → found (spots (item l str ms none) false (due s n) p d) ≡ xs
  last_one n {xs} e = both n false none e refl ∙ append-nil xs

-- a reference, with those inside
reference : (s : Slot) (p d : ℕ) {n : ℕ} {l : Lead} {str : List ℕ} {ms : Items} {v : Level} {xs : List Placed} → (rule s).takes_reference ≡ true → Holds array n l str → eqb n 2 ≡ false
    → (rule s).in_array n ≡ v → found (spots ms false v (inside_at p l str) (suc d)) ≡ xs → found (within s p d l str ms) ≡ placed p l str ms ∷ xs
unfolding is_container
reference s p d a h e i f = rw (an_array s a h, e, inside_held s refl h, i, f)

-- a container that is none, with those inside
container : (s : Slot) (p d : ℕ) (ms : Items) {k n : ℕ} {l : Lead} {str : List ℕ} {v : Level} {xs : List Placed} → is_container k ≡ true → is_reference s l ≡ false → Holds k n l str
    → member_level s k n ≡ v → found (spots ms false v (inside_at p l str) (suc d)) ≡ xs → found (within s p d l str ms) ≡ xs
container s p d ms c e h i f = rw (e, inside_held s c h, i, f)

-- a leaf, where no reference is asked for
skip : (s : Slot) (n : ℕ) (more : Bool) (p d : ℕ) {rs : List Row} {sp : List ℕ → Bool} {l : Lead} {str : List ℕ} {ms : Items} (g : Items)
    → (rule s).takes_reference ≡ false → Plain rs sp l str ms
    → found (spots (item l str ms g) more (due s n) p d) ≡ found (spots g more ((rule s).next l.arg n) (past p l str ms) d)
skip s n more p d {l = l} g a x = rw (not_asked s l a, x.bare)

-- a leaf that is one of the literals, or a value
literal_none : (s : Slot) (p d : ℕ) {rs : List Row} {sp : List ℕ → Bool} {l : Lead} {str : List ℕ} {ms : Items} → is_container l.kind ≡ false → Plain rs sp l str ms
    → found (within s p d l str ms) ≡ []
literal_none s p d {l = l} c x = rw (not_array s l c, members_leaf s l c, x.bare)

mutual
  unfolding rule types is_container

  found_ari : {w : Place} {l : Lead} {str : List ℕ} {ms : Items} (a : Ari w l str ms) (s : Slot) (p d : ℕ) → (rule s).takes_reference ≡ true → (rule s).in_array ≡ ari_level w
      → found (within s p d l str ms) ≡ in_ari a p
  found_ari (literal {l = l} f x) s p d a i = literal_none s p d (no_container l.kind l.arg literals refl x.fitting) x
  found_ari (namespace_ref {l = l} {s = str} f h n) s p d a i =
      reference s p d {v = due namespace 0} a h refl (rw i) (skip namespace 0 false (inside_at p l str) (suc d) none refl n)
  found_ari (typed {w = w} {l = l} {l₁ = l₁} {l₂ = l₂} {s = str} {s₁ = s₁} {s₂ = s₂} {m₁ = m₁} {m₂ = m₂} h t v) s p d a i =
      let q : ℕ = inside_at p l str in
      container s p d (item l₁ s₁ m₁ (item l₂ s₂ m₂ none)) {v = due (type w) 0} refl (an_array s a h) h (rw i)
      (skip (type w) 0 false q (suc d) (item l₂ s₂ m₂ none) refl t ∙ last_one (value l₁.arg (inner w)) (past q l₁ s₁ m₁) (suc d) l₂ s₂ m₂ 0 (found_value v (past q l₁ s₁ m₁) (suc d)))
  found_ari (object_ref f o) s p d a i = found_object o s p d a (rw i) (rw i)

  found_object : {l : Lead} {str : List ℕ} {ms : Items} (o : Object l str ms) (s : Slot) (p d : ℕ) → (rule s).takes_reference ≡ true
      → (rule s).in_array 3 ≡ reference_level 3 → (rule s).in_array 4 ≡ reference_level 4 → found (within s p d l str ms) ≡ in_object o p
  found_object (plain {l = l} {l₁ = l₁} {l₂ = l₂} {l₃ = l₃} {s = str} {s₁ = s₁} {s₂ = s₂} {s₃ = s₃} {m₁ = m₁} {m₂ = m₂} {m₃ = m₃} h n t i) s p d a e f =
      let q : ℕ = inside_at p l str in
      let q₁ : ℕ = past q l₁ s₁ m₁ in
      reference s p d a h refl e
      (skip (object_namespace false) 0 false q (suc d) (item l₂ s₂ m₂ (item l₃ s₃ m₃ none)) refl n
      ∙ skip (object_type false) 0 false q₁ (suc d) (item l₃ s₃ m₃ none) refl t
      ∙ skip (object_id false) 0 false (past q₁ l₂ s₂ m₂) (suc d) none refl i)
  found_object (with_params {l = l} {l₁ = l₁} {l₂ = l₂} {l₃ = l₃} {l₄ = l₄} {s = str} {s₁ = s₁} {s₂ = s₂} {s₃ = s₃} {s₄ = s₄} {m₁ = m₁} {m₂ = m₂} {m₃ = m₃} {m₄ = m₄} h n t i u) s p d a e f =
      let q : ℕ = inside_at p l str in
      let q₁ : ℕ = past q l₁ s₁ m₁ in
      let q₂ : ℕ = past q₁ l₂ s₂ m₂ in
      let q₃ : ℕ = past q₂ l₃ s₃ m₃ in
      reference s p d a h refl f
      (skip (object_namespace true) 0 false q (suc d) (item l₂ s₂ m₂ (item l₃ s₃ m₃ (item l₄ s₄ m₄ none))) refl n
      ∙ skip (object_type true) 0 false q₁ (suc d) (item l₃ s₃ m₃ (item l₄ s₄ m₄ none)) refl t
      ∙ skip (object_id true) 0 false q₂ (suc d) (item l₄ s₄ m₄ none) refl i
      ∙ last_one params q₃ (suc d) l₄ s₄ m₄ 0 (found_params u q₃ (suc d)))

  found_params : {l : Lead} {str : List ℕ} {ms : Items} (u : Params l str ms) (p d : ℕ) → found (within params p d l str ms) ≡ in_params u p
  found_params (list {l = l} {s = str} {ms = ms} h r) p d = container params p d ms refl (not_asked params l refl) h refl (found_aris r (inside_at p l str) (suc d))
  found_params (table {l = l} {s = str} {ms = ms} h r) p d = container params p d ms refl (not_asked params l refl) h refl (found_pairs r (inside_at p l str) (suc d))

  found_value : {t : ℕ} {w : Place} {l : Lead} {str : List ℕ} {ms : Items} (v : Value t w l str ms) (p d : ℕ) → found (within (value t w) p d l str ms) ≡ in_value v p
  found_value (simple_value {t = t} {w = w} c x) p d = literal_none (value t w) p d c x
  found_value (ac {w = w} {l = l} {s = str} {ms = ms} h r) p d =
      container (value 17 w) p d ms refl (not_asked (value 17 w) l refl) h refl (found_aris r (inside_at p l str) (suc d))
  found_value (am {w = w} {l = l} {s = str} {ms = ms} h r) p d =
      container (value 18 w) p d ms refl (not_asked (value 18 w) l refl) h refl (found_pairs r (inside_at p l str) (suc d))
  found_value (execset {w = w} {n = n} {l = l} {l₁ = l₁} {s = str} {s₁ = s₁} {m₁ = m₁} {rs = g} h x r) p d =
      let q : ℕ = inside_at p l str in
      container (value 20 w) p d (item l₁ s₁ m₁ g) {v = due (nonce 20) n} refl (not_asked (value 20 w) l refl) h (rw (less_one n))
      (skip (nonce 20) n false q (suc d) g refl x ∙ found_targets r (past q l₁ s₁ m₁) (suc d))
  found_value (rptset {w = w} {n = n} {l = l} {l₁ = l₁} {l₂ = l₂} {s = str} {s₁ = s₁} {s₂ = s₂} {m₁ = m₁} {m₂ = m₂} {rs = g} h x t r) p d =
      let q : ℕ = inside_at p l str in
      let q₁ : ℕ = past q l₁ s₁ m₁ in
      container (value 21 w) p d (item l₁ s₁ m₁ (item l₂ s₂ m₂ g)) {v = due (nonce 21) n} refl (not_asked (value 21 w) l refl) h (rw (less_two n))
      (skip (nonce 21) n false q (suc d) (item l₂ s₂ m₂ g) refl x ∙ skip set_time n false q₁ (suc d) g refl t ∙ found_reports r (past q₁ l₂ s₂ m₂) (suc d))

  found_aris : {w : Place} {n : ℕ} {g : Items} (r : Aris w n g) (p d : ℕ) → found (spots g false (many (ari w) n) p d) ≡ in_aris r p
  found_aris no_aris p d = refl
  found_aris (aris {w = w} {n = n} {l = l} {s = str} {ms = ms} {rs = g} a r) p d =
      both (ari w) p d l str ms n false g (found_ari a (ari w) p d refl refl) (found_aris r (past p l str ms) d)

  found_pairs : {prev : List ℕ} {w : Place} {n : ℕ} {g : Items} (r : Pairs prev w n g) (p d : ℕ) → found (spots g false (many (key w) n) p d) ≡ in_pairs r p
  found_pairs no_pairs p d = refl
  found_pairs (pairs {w = w} {n = n} {l = l} {l₁ = l₁} {s = s} {s₁ = s₁} {ms = ms} {m₁ = m₁} {rs = g} k b v r) p d =
      let q : ℕ = past p l s ms in
      skip (key w) n false p d (item l₁ s₁ m₁ g) refl k
      ∙ both (entry w) q d l₁ s₁ m₁ n false g (found_ari v (entry w) q d refl refl) (found_pairs r (past q l₁ s₁ m₁) d)

  found_targets : {n : ℕ} {g : Items} (r : Targets n g) (p d : ℕ) → found (spots g false (many target n) p d) ≡ in_targets r p
  found_targets no_targets p d = refl
  found_targets (targets {n = n} {l = l} {s = str} {ms = ms} {rs = g} o r) p d =
      both target p d l str ms n false g (found_object o target p d refl refl refl) (found_targets r (past p l str ms) d)

  found_reports : {n : ℕ} {g : Items} (r : Reports n g) (p d : ℕ) → found (spots g false (many report n) p d) ≡ in_reports r p
  found_reports no_reports p d = refl
  found_reports (reports {n = n} {m = m} {l = l} {l₁ = l₁} {l₂ = l₂} {s = str} {s₁ = s₁} {s₂ = s₂} {m₁ = m₁} {m₂ = m₂} {r = g} {rs = rs} h t o a r) p d =
      let q : ℕ = inside_at p l str in
      let q₁ : ℕ = past q l₁ s₁ m₁ in
      both report p d l str (item l₁ s₁ m₁ (item l₂ s₂ m₂ g)) m false rs
      (container report p d (item l₁ s₁ m₁ (item l₂ s₂ m₂ g)) {v = due report_time n} refl (not_asked report l refl) h (rw (less_two n))
      (skip report_time n false q (suc d) (item l₂ s₂ m₂ g) refl t
      ∙ both report_source q₁ (suc d) l₂ s₂ m₂ n false g (found_object o report_source q₁ (suc d) refl refl refl) (found_aris a (past q₁ l₂ s₂ m₂) (suc d))))
      (found_reports r (past p l str (item l₁ s₁ m₁ (item l₂ s₂ m₂ g))) d)
      ∙ append_assoc (in_object o q₁) (in_aris a (past q₁ l₂ s₂ m₂)) _

found_sets : {g : Items} (r : Sets g) (p d : ℕ) → found (spots g true done p d) ≡ in_sets r p
unfolding rule
found_sets no_more p d = refl
found_sets (set {l = l} {s = str} {ms = ms} {rs = g} a r) p d =
    both (ari message) p d l str ms 0 true g (found_ari a (ari message) p d refl refl) (found_sets r (past p l str ms) d)

-- The references among an input's spots are those that the rules make.
pub found_references : {i : Input} {g : Items} (r : Stands i g) → found (spots_of i g) ≡ references r
unfolding rule
found_references (single_ari {l = l} {s = str} {ms = ms} a) = last_one (ari alone) 0 0 l str ms 0 (found_ari a (ari alone) 0 0 refl refl)
found_references (a_message {l = l} {s = str} {ms = ms} {rs = g} v r) = skip version 0 true 0 0 g refl v ∙ found_sets r (past 0 l str ms) 0
