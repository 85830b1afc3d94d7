-- A message has at most a quarter as many targets and reports as items. The idea: along the rules, a target is a head with three more at least, its
-- namespace, object type and object id, and a report holds such a reference.
use Prim.Native.Nat.{ℕ, suc, ◌*◌, ◌≤◌}
use mathlib.Core.Path.{◌≡◌, sym, ◌∙◌, ap}
use mathlib.Core.List.{List, ◌++◌, map}
use native.Mathlib.Omega.{arith}
use lib.ListN.{length, length-append, length-map}
use Rattle.cbor.specs.Head.{Lead}
use Rattle.ari.specs.Table.{Place}
use Rattle.ari.specs.declared.Input.TheVariants.{Message}
use Rattle.ari.specs.Items.{Items, item, heads, Spot, inside_at, spots_of}
use Rattle.ari.specs.Decode.{decode}
use Rattle.ari.specs.Limits.{gate_limits}
use Rattle.ari.specs.Rules.{Ari, literal, namespace_ref, typed, object_ref, Object, plain, with_params, Value, simple_value, ac, am, execset, rptset, Targets, no_targets, targets, Reports, no_reports, reports, Sets, no_more, set, Stands, a_message, Is}
use Rattle.ari.specs.References.{past}
use Rattle.ari.specs.Targets as among
use Rattle.ari.proofs.Referring.{place_of}
use Rattle.ari.proofs.RuledTargets.{each_target, each_report, of_value, of_set, of_sets, ruled_targets, ruled_targets_lem}
use Rattle.comparison.specs.Comparison.{Part, parts}
use Rattle.comparison.proofs.Demand.{those_are_the_targets}

three_more : {l : Lead} {s : List ℕ} {ms : Items} → Object l s ms → 3 ≤ heads ms
three_more (plain h n t i) = omega arith
three_more (with_params h n t i u) = omega arith

each_target_lem : {n : ℕ} {g : Items} (r : Targets n g) (p : ℕ) → 4 * length (each_target r p) ≤ heads g
each_target_lem no_targets p = omega arith
each_target_lem (targets {l = l} {s = s} {ms = ms} o r) p = omega (arith, three_more o, each_target_lem r (past p l s ms))

each_report_lem : {n : ℕ} {g : Items} (r : Reports n g) (p : ℕ) → 4 * length (each_report r p) ≤ heads g
each_report_lem no_reports p = omega arith
each_report_lem (reports {l = l} {l₁ = l₁} {l₂ = l₂} {s = s} {s₁ = s₁} {s₂ = s₂} {m₁ = m₁} {m₂ = m₂} {r = is} h t o a r) p =
    omega (arith, three_more o, each_report_lem r (past p l s (item l₁ s₁ m₁ (item l₂ s₂ m₂ is))))

of_value_lem : {t : ℕ} {w : Place} {l : Lead} {s : List ℕ} {ms : Items} (v : Value t w l s ms) (p : ℕ) → 4 * length (of_value v p) ≤ heads ms
of_value_lem (simple_value c x) p = omega arith
of_value_lem (ac h r) p = omega arith
of_value_lem (am h r) p = omega arith
of_value_lem (execset {l = l} {l₁ = l₁} {s = s} {s₁ = s₁} {m₁ = m₁} h n r) p = omega (arith, each_target_lem r (past (inside_at p l s) l₁ s₁ m₁))
of_value_lem (rptset {l = l} {l₁ = l₁} {l₂ = l₂} {s = s} {s₁ = s₁} {s₂ = s₂} {m₁ = m₁} {m₂ = m₂} h n t r) p =
    omega (arith, each_report_lem r (past (past (inside_at p l s) l₁ s₁ m₁) l₂ s₂ m₂))

of_set_lem : {w : Place} {l : Lead} {s : List ℕ} {ms : Items} (a : Ari w l s ms) (p : ℕ) → 4 * length (of_set a p) ≤ heads ms
of_set_lem (literal f x) p = omega arith
of_set_lem (namespace_ref f h n) p = omega arith
of_set_lem (typed {l = l} {l₁ = l₁} {s = s} {s₁ = s₁} {m₁ = m₁} h t v) p = omega (arith, of_value_lem v (past (inside_at p l s) l₁ s₁ m₁))
of_set_lem (object_ref f o) p = omega arith

of_sets_lem : {g : Items} (r : Sets g) (p : ℕ) → 4 * length (of_sets r p) ≤ heads g
of_sets_lem no_more p = omega arith
of_sets_lem (set {l = l} {s = s} {ms = ms} a r) p = rw length-append (omega (arith, of_set_lem a p, of_sets_lem r (past p l s ms)))

of_message : {g : Items} (r : Stands Message g) → 4 * length (ruled_targets r) ≤ heads g
of_message (a_message {l = l} {s = s} {ms = ms} v r) = omega (arith, of_sets_lem r (past 0 l s ms))

-- At most 1,024, so that no comparison has more entries.
pub at_most_1024 : {b : List ℕ} {n : ℕ} → Is gate_limits Message b (decode b) n → length (parts b) ≤ 1024
at_most_1024 {b} {n} c =
    let xs : List Spot = spots_of Message (decode b) in
    let e : length (parts b) ≡ length (ruled_targets c.stands) =
    sym (length-map (parts b) (λ (p : Part). p.spot)) ∙ ap length (those_are_the_targets b) ∙ sym (length-map (among.targets xs) place_of)
    ∙ ap length (ruled_targets_lem c.stands) in
    omega (arith, e, of_message c.stands, c.count, c.few)
