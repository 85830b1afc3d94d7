-- The targets and reports of a message (R168) are those that the rules make, in their order, each with its first byte: `ruled_targets_lem`. The idea: along a
-- derivation every other item stands at a slot that is none of theirs, and inside them no such slot is due (`Targets`).
use Prim.Native.Nat.{ℕ, suc}
use mathlib.Core.Path.{◌≡◌, refl, sym, ◌∙◌, ap, subst}
use mathlib.Core.Bool.{Bool, true, false, cond, true≢false}
use mathlib.Core.List.{List, [], ◌∷◌, ◌++◌, map, map-append, append-nil}
use Rattle.cbor.specs.Head.{array, Lead, is_container}
use Rattle.ari.specs.Table.{Place, message, inside, Slot, version, ari, type, value, nonce, set_time, target, report, Row, Level, done, due, many, rule, members}
use Rattle.ari.specs.declared.Input.TheVariants.{Message}
use Rattle.ari.specs.Items.{Items, none, item, Spot, inside_at, spots, spots_of}
use Rattle.ari.specs.Rules.{Plain, Holds, Ari, literal, namespace_ref, typed, object_ref, Value, simple_value, ac, am, execset, rptset, Targets, no_targets, Reports, no_reports, reports, Sets, no_more, set, Stands, a_message}
use Rattle.ari.specs.Rules as rules
use Rattle.ari.specs.References.{Placed, placed, past}
use Rattle.ari.specs.Targets.{is_target, targets}
use Rattle.ari.proofs.Due.{Fit, members_held}
use Rattle.ari.proofs.Demand.{stands_fit}
use Rattle.ari.proofs.RulesFit.{less_one, less_two}
use Rattle.ari.proofs.Referring.{place_of}
use Rattle.ari.proofs.Targets.{none_inside, inner_members, target_members}

-- rule by rule, each takes the first byte of what stands
abbrev pub each_target : {n : ℕ} {g : Items} → Targets n g → ℕ → List Placed
each_target no_targets p = []
each_target (rules.targets {l = l} {s = s} {ms = ms} o r) p = placed p l s ms ∷ each_target r (past p l s ms)

abbrev pub each_report : {n : ℕ} {g : Items} → Reports n g → ℕ → List Placed
each_report no_reports p = []
each_report (reports {l = l} {l₁ = l₁} {l₂ = l₂} {s = s} {s₁ = s₁} {s₂ = s₂} {m₁ = m₁} {m₂ = m₂} {r = is} h t o a r) p =
    placed p l s (item l₁ s₁ m₁ (item l₂ s₂ m₂ is)) ∷ each_report r (past p l s (item l₁ s₁ m₁ (item l₂ s₂ m₂ is)))

abbrev pub of_value : {t : ℕ} {w : Place} {l : Lead} {s : List ℕ} {ms : Items} → Value t w l s ms → ℕ → List Placed
of_value (simple_value c x) p = []
of_value (ac h a) p = []
of_value (am h a) p = []
of_value (execset {l = l} {l₁ = l₁} {s = s} {s₁ = s₁} {m₁ = m₁} h n ts) p = each_target ts (past (inside_at p l s) l₁ s₁ m₁)
of_value (rptset {l = l} {l₁ = l₁} {l₂ = l₂} {s = s} {s₁ = s₁} {s₂ = s₂} {m₁ = m₁} {m₂ = m₂} h n t rs) p =
    each_report rs (past (past (inside_at p l s) l₁ s₁ m₁) l₂ s₂ m₂)

abbrev pub of_set : {w : Place} {l : Lead} {s : List ℕ} {ms : Items} → Ari w l s ms → ℕ → List Placed
of_set (literal f x) p = []
of_set (namespace_ref f h n) p = []
of_set (typed {l = l} {l₁ = l₁} {s = s} {s₁ = s₁} {m₁ = m₁} h t v) p = of_value v (past (inside_at p l s) l₁ s₁ m₁)
of_set (object_ref f o) p = []

abbrev pub of_sets : {g : Items} → Sets g → ℕ → List Placed
of_sets no_more p = []
of_sets (set {l = l} {s = s} {ms = ms} a r) p = of_set a p ++ of_sets r (past p l s ms)

abbrev pub ruled_targets : {g : Items} → Stands Message g → List Placed
ruled_targets (a_message {l = l} {s = s} {ms = ms} v r) = of_sets r (past 0 l s ms)

-- the targets and reports among items
abbrev pub counted : List Spot → List Placed
counted xs = map place_of (targets xs)

targets_append : (xs ys : List Spot) → targets (xs ++ ys) ≡ targets xs ++ targets ys
targets_append [] ys = refl
targets_append (x ∷ xs) ys = go (is_target x.slot) (targets_append xs ys)
  where
    go : (t : Bool) → targets (xs ++ ys) ≡ targets xs ++ targets ys → cond t (x ∷ targets (xs ++ ys)) (targets (xs ++ ys)) ≡ cond t (x ∷ targets xs) (targets xs) ++ targets ys
    go true e = ap (λ (r : List Spot). x ∷ r) e
    go false e = e

counted_append : (xs ys : List Spot) → counted (xs ++ ys) ≡ counted xs ++ counted ys
counted_append xs ys = ap (map place_of) (targets_append xs ys) ∙ map-append place_of (targets xs) (targets ys)

-- two parts, of which the first, or the second, has none
second_only : {xs ys zs : List Placed} → xs ≡ [] → ys ≡ zs → xs ++ ys ≡ zs
second_only p q = rw (p, q)

inside_held : (s : Slot) {n : ℕ} {l : Lead} {str : List ℕ} → Holds array n l str → members s l ≡ (rule s).in_array n
unfolding is_container
inside_held s {l = l} h = members_held s l (rw h.kind_is) ∙ rw (h.kind_is, h.arg_is)

-- an item at a slot that is none of theirs
module _ (s : Slot) (e : is_target s ≡ false) (n : ℕ) (more : Bool) (p d : ℕ) (l : Lead) (str : List ℕ) (ms rs : Items) where
  pass : counted (spots (item l str ms rs) more (due s n) p d)
      ≡ counted (spots ms false (members s l) (inside_at p l str) (suc d)) ++ counted (spots rs more ((rule s).next l.arg n) (past p l str ms) d)
  pass = rw e (counted_append (spots ms false (members s l) (inside_at p l str) (suc d)) (spots rs more ((rule s).next l.arg n) (past p l str ms) d))

  skip : {rows : List Row} {sp : List ℕ → Bool} → Plain rows sp l str ms
      → counted (spots (item l str ms rs) more (due s n) p d) ≡ counted (spots rs more ((rule s).next l.arg n) (past p l str ms) d)
  skip x = pass ∙ second_only (bare ms x.bare) refl
    where
      bare : (g : Items) → g ≡ none → counted (spots g false (members s l) (inside_at p l str) (suc d)) ≡ []
      bare g q = rw q

each_target_lem : {n : ℕ} {g : Items} (r : Targets n g) (prev : List ℕ) (p d : ℕ) → Fit g false (many target n) prev → counted (spots g false (many target n) p d) ≡ each_target r p
unfolding rule
each_target_lem no_targets prev p d f = refl
each_target_lem (rules.targets {n = n} {l = l} {s = s} {ms = ms} {rs = g} o r) prev p d f =
    ap (λ (z : List Placed). placed p l s ms ∷ z)
    (counted_append (spots ms false (members target l) (inside_at p l s) (suc d)) (spots g false (many target n) (past p l s ms) d)
    ∙ second_only (ap (map place_of) (none_inside ms (members target l) [] (inside_at p l s) (suc d) f.1 (target_members target l refl)))
    (each_target_lem r _ (past p l s ms) d f.2))

each_report_lem : {n : ℕ} {g : Items} (r : Reports n g) (prev : List ℕ) (p d : ℕ) → Fit g false (many report n) prev → counted (spots g false (many report n) p d) ≡ each_report r p
unfolding rule
each_report_lem no_reports prev p d f = refl
each_report_lem (reports {m = m} {l = l} {l₁ = l₁} {l₂ = l₂} {s = s} {s₁ = s₁} {s₂ = s₂} {m₁ = m₁} {m₂ = m₂} {r = is} {rs = g} h t o a r) prev p d f =
    let ms : Items = item l₁ s₁ m₁ (item l₂ s₂ m₂ is) in
    ap (λ (z : List Placed). placed p l s ms ∷ z)
    (counted_append (spots ms false (members report l) (inside_at p l s) (suc d)) (spots g false (many report m) (past p l s ms) d)
    ∙ second_only (ap (map place_of) (none_inside ms (members report l) [] (inside_at p l s) (suc d) f.1 (target_members report l refl)))
    (each_report_lem r _ (past p l s ms) d f.2))

-- the members of a value
in_value_lem : {t : ℕ} {l : Lead} {s : List ℕ} {ms : Items} (v : Value t inside l s ms) (p d : ℕ) → Fit ms false (members (value t inside) l) []
    → counted (spots ms false (members (value t inside) l) (inside_at p l s) d) ≡ of_value v p
unfolding rule
in_value_lem {t} {l} {s} {ms} (simple_value c x) p d f = bare ms x.bare
  where
    bare : (g : Items) → g ≡ none → counted (spots g false (members (value t inside) l) (inside_at p l s) d) ≡ []
    bare g q = rw q
in_value_lem {l = l} {s = s} {ms = ms} (ac h a) p d f =
    ap (map place_of) (none_inside ms (members (value 17 inside) l) [] (inside_at p l s) d f (inner_members (value 17 inside) l refl))
in_value_lem {l = l} {s = s} {ms = ms} (am h a) p d f =
    ap (map place_of) (none_inside ms (members (value 18 inside) l) [] (inside_at p l s) d f (inner_members (value 18 inside) l refl))
in_value_lem (execset {n = n} {l = l} {l₁ = l₁} {s = s} {s₁ = s₁} {m₁ = m₁} {rs = rs} h k ts) p d f =
    let q : ℕ = inside_at p l s in
    let level : members (value 20 inside) l ≡ due (nonce 20) n = inside_held (value 20 inside) h ∙ ap (due (nonce 20)) (less_one n) in
    let g : Fit (item l₁ s₁ m₁ rs) false (due (nonce 20) n) [] = subst (λ (v : Level). Fit (item l₁ s₁ m₁ rs) false v []) level f in
    ap (λ (v : Level). counted (spots (item l₁ s₁ m₁ rs) false v q d)) level
    ∙ skip (nonce 20) refl n false q d l₁ s₁ m₁ rs k ∙ each_target_lem ts _ (past q l₁ s₁ m₁) d g.2
in_value_lem (rptset {n = n} {l = l} {l₁ = l₁} {l₂ = l₂} {s = s} {s₁ = s₁} {s₂ = s₂} {m₁ = m₁} {m₂ = m₂} {rs = rs} h k t r) p d f =
    let q : ℕ = inside_at p l s in
    let q₁ : ℕ = past q l₁ s₁ m₁ in
    let level : members (value 21 inside) l ≡ due (nonce 21) n = inside_held (value 21 inside) h ∙ ap (due (nonce 21)) (less_two n) in
    let g : Fit (item l₁ s₁ m₁ (item l₂ s₂ m₂ rs)) false (due (nonce 21) n) [] = subst (λ (v : Level). Fit (item l₁ s₁ m₁ (item l₂ s₂ m₂ rs)) false v []) level f in
    ap (λ (v : Level). counted (spots (item l₁ s₁ m₁ (item l₂ s₂ m₂ rs)) false v q d)) level
    ∙ skip (nonce 21) refl n false q d l₁ s₁ m₁ (item l₂ s₂ m₂ rs) k ∙ skip set_time refl n false q₁ d l₂ s₂ m₂ rs t ∙ each_report_lem r _ (past q₁ l₂ s₂ m₂) d g.2.2

-- the members of a set
in_set : {l : Lead} {s : List ℕ} {ms : Items} (a : Ari message l s ms) (p d : ℕ) → Fit ms false (members (ari message) l) []
    → counted (spots ms false (members (ari message) l) (inside_at p l s) d) ≡ of_set a p
unfolding rule
in_set (literal f x) p d g = absurd (true≢false (sym f))
in_set (namespace_ref f h n) p d g = absurd (true≢false (sym f))
in_set (object_ref f o) p d g = absurd (true≢false (sym f))
in_set (typed {l = l} {l₁ = l₁} {l₂ = l₂} {s = s} {s₁ = s₁} {s₂ = s₂} {m₁ = m₁} {m₂ = m₂} h t v) p d f =
    let ms : Items = item l₁ s₁ m₁ (item l₂ s₂ m₂ none) in
    let q : ℕ = inside_at p l s in
    let level : members (ari message) l ≡ due (type message) 0 = inside_held (ari message) h in
    let g : Fit ms false (due (type message) 0) [] = subst (λ (v : Level). Fit ms false v []) level f in
    ap (λ (v : Level). counted (spots ms false v q d)) level
    ∙ skip (type message) refl 0 false q d l₁ s₁ m₁ (item l₂ s₂ m₂ none) t
    ∙ pass (value l₁.arg inside) refl 0 false (past q l₁ s₁ m₁) d l₂ s₂ m₂ none
    ∙ append-nil (counted (spots m₂ false (members (value l₁.arg inside) l₂) (inside_at (past q l₁ s₁ m₁) l₂ s₂) (suc d)))
    ∙ in_value_lem v (past q l₁ s₁ m₁) (suc d) g.2.1

in_sets_lem : {g : Items} (r : Sets g) (prev : List ℕ) (p d : ℕ) → Fit g true done prev → counted (spots g true done p d) ≡ of_sets r p
unfolding rule
in_sets_lem no_more prev p d f = refl
in_sets_lem (set {l = l} {s = s} {ms = ms} {rs = g} a r) prev p d f =
    counted_append (spots ms false (members (ari message) l) (inside_at p l s) (suc d)) (spots g true done (past p l s ms) d)
    ∙ both (in_set a p (suc d) f.1) (in_sets_lem r _ (past p l s ms) d f.2)
  where
    both : {xs xs' ys ys' : List Placed} → xs ≡ xs' → ys ≡ ys' → xs ++ ys ≡ xs' ++ ys'
    both p q = rw (p, q)

pub ruled_targets_lem : {g : Items} (r : Stands Message g) → counted (spots_of Message g) ≡ ruled_targets r
unfolding rule
ruled_targets_lem (a_message {l = l} {s = s} {ms = ms} {rs = g} v r) =
    let f = stands_fit (a_message v r) in
    skip version refl 0 true 0 0 l s ms g v ∙ in_sets_lem r _ (past 0 l s ms) 0 f.2
