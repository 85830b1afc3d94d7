-- The references of an input, rule by rule as they stand in Rules, with no slot and no listing in it: the three rules 'namespace reference',
-- 'object reference' and 'the same with parameters' make one each, and every other rule only hands on those of its parts. So what R78
-- names is none, and nothing is looked for in a string. Interface: Placed, references, entry_for.
use Rattle.std.specs.Prelude.{ℕ, ◌+◌, List, [], ◌∷◌, ◌++◌, length}
use Rattle.cbor.specs.Head.{Lead}
use Rattle.ari.specs.Table.{Place}
use Rattle.ari.specs.declared.Input.{Input}
use Rattle.ari.specs.Items.{Items, item, encode, inside_at}
use Rattle.ari.specs.Rules.{Ari, literal, namespace_ref, typed, object_ref, Object, plain, with_params, Params, list, table, Value, simple_value, ac, am, execset, rptset, Aris, no_aris, aris, Pairs, no_pairs, pairs, Targets, no_targets, targets, Reports, no_reports, reports, Sets, no_more, set, Stands, single_ari, a_message}
use Rattle.ari.specs.Listing.{Entry, space_in}

-- An item with its first byte.
pub record Placed : Type 0 where
  pub first : ℕ
  pub lead : Lead
  pub str : List ℕ
  pub inside : Items

abbrev pub placed : ℕ → Lead → List ℕ → Items → Placed
placed p l s ms = record { first = p; lead = l; str = s; inside = ms }

-- the byte after an item that begins at p
abbrev pub past : ℕ → Lead → List ℕ → Items → ℕ
past p l s ms = inside_at p l s + length (encode ms)

-- each takes the first byte of what stands
abbrev mutual
  pub in_ari : {w : Place} {l : Lead} {s : List ℕ} {ms : Items} → Ari w l s ms → ℕ → List Placed
  in_ari (literal f x) p = []
  in_ari {l = l} {s = s} {ms = ms} (namespace_ref f h n) p = placed p l s ms ∷ []
  in_ari (typed {l = l} {l₁ = l₁} {s = s} {s₁ = s₁} {m₁ = m₁} h t v) p = in_value v (past (inside_at p l s) l₁ s₁ m₁)
  in_ari (object_ref f o) p = in_object o p

  pub in_object : {l : Lead} {s : List ℕ} {ms : Items} → Object l s ms → ℕ → List Placed
  in_object {l = l} {s = s} {ms = ms} (plain h n t i) p = placed p l s ms ∷ []
  in_object {l = l} {s = s} {ms = ms} (with_params {l₁ = l₁} {l₂ = l₂} {l₃ = l₃} {s₁ = s₁} {s₂ = s₂} {s₃ = s₃} {m₁ = m₁} {m₂ = m₂} {m₃ = m₃} h n t i u) p =
      placed p l s ms ∷ in_params u (past (past (past (inside_at p l s) l₁ s₁ m₁) l₂ s₂ m₂) l₃ s₃ m₃)

  pub in_params : {l : Lead} {s : List ℕ} {ms : Items} → Params l s ms → ℕ → List Placed
  in_params (list {l = l} {s = s} h a) p = in_aris a (inside_at p l s)
  in_params (table {l = l} {s = s} h a) p = in_pairs a (inside_at p l s)

  pub in_value : {t : ℕ} {w : Place} {l : Lead} {s : List ℕ} {ms : Items} → Value t w l s ms → ℕ → List Placed
  in_value (simple_value c x) p = []
  in_value (ac {l = l} {s = s} h a) p = in_aris a (inside_at p l s)
  in_value (am {l = l} {s = s} h a) p = in_pairs a (inside_at p l s)
  in_value (execset {l = l} {l₁ = l₁} {s = s} {s₁ = s₁} {m₁ = m₁} h n ts) p = in_targets ts (past (inside_at p l s) l₁ s₁ m₁)
  in_value (rptset {l = l} {l₁ = l₁} {l₂ = l₂} {s = s} {s₁ = s₁} {s₂ = s₂} {m₁ = m₁} {m₂ = m₂} h n t rs) p =
      in_reports rs (past (past (inside_at p l s) l₁ s₁ m₁) l₂ s₂ m₂)

  pub in_aris : {w : Place} {n : ℕ} {g : Items} → Aris w n g → ℕ → List Placed
  in_aris no_aris p = []
  in_aris (aris {l = l} {s = s} {ms = ms} a r) p = in_ari a p ++ in_aris r (past p l s ms)

  pub in_pairs : {prev : List ℕ} {w : Place} {n : ℕ} {g : Items} → Pairs prev w n g → ℕ → List Placed
  in_pairs no_pairs p = []
  in_pairs (pairs {l = l} {l₁ = l₁} {s = s} {s₁ = s₁} {ms = ms} {m₁ = m₁} k b v r) p =
      in_ari v (past p l s ms) ++ in_pairs r (past (past p l s ms) l₁ s₁ m₁)

  pub in_targets : {n : ℕ} {g : Items} → Targets n g → ℕ → List Placed
  in_targets no_targets p = []
  in_targets (targets {l = l} {s = s} {ms = ms} o r) p = in_object o p ++ in_targets r (past p l s ms)

  pub in_reports : {n : ℕ} {g : Items} → Reports n g → ℕ → List Placed
  in_reports no_reports p = []
  in_reports (reports {l = l} {l₁ = l₁} {l₂ = l₂} {s = s} {s₁ = s₁} {s₂ = s₂} {m₁ = m₁} {m₂ = m₂} {r = is} h t o a r) p =
      let q : ℕ = past (inside_at p l s) l₁ s₁ m₁ in
      in_object o q ++ (in_aris a (past q l₂ s₂ m₂) ++ in_reports r (past p l s (item l₁ s₁ m₁ (item l₂ s₂ m₂ is))))

abbrev pub in_sets : {g : Items} → Sets g → ℕ → List Placed
in_sets no_more p = []
in_sets (set {l = l} {s = s} {ms = ms} a r) p = in_ari a p ++ in_sets r (past p l s ms)

abbrev pub references : {i : Input} {g : Items} → Stands i g → List Placed
references (single_ari a) = in_ari a 0
references (a_message {l = l} {s = s} {ms = ms} v r) = in_sets r (past 0 l s ms)

-- what the listing is to say of one: its own first byte, the byte after, and the namespace that its first member is
abbrev pub entry_for : Placed → Entry
entry_for r = record {
  first = r.first;
  after = past r.first r.lead r.str r.inside;
  space = space_in (inside_at r.first r.lead r.str) r.inside;
}
