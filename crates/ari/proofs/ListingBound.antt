-- A message has at most half as many references as items. The idea: along the rules, each reference is an array with a first member, its
-- namespace, so it has two heads of its own, which no other reference has.
use Prim.Native.Nat.{ℕ, suc, ◌+◌, ◌*◌, ◌≤◌}
use mathlib.Core.List.{List, [], ◌∷◌, ◌++◌}
use native.Mathlib.Omega.{arith}
use lib.ListN.{length, length-append, length-map}
use Rattle.cbor.specs.Head.{Lead}
use Rattle.ari.specs.Table.{Place}
use Rattle.ari.specs.declared.Limits.{Limits}
use Rattle.ari.specs.declared.Input.{Input}
use Rattle.ari.specs.declared.Input.TheVariants.{Message}
use Rattle.ari.specs.Items.{Items, heads}
use Rattle.ari.specs.Rules.{Ari, literal, namespace_ref, typed, object_ref, Object, plain, with_params, Params, list, table, Value, simple_value, ac, am, execset, rptset, Aris, no_aris, aris, Pairs, no_pairs, pairs, Targets, no_targets, targets, Reports, no_reports, reports, Sets, no_more, set, Stands, single_ari, a_message, Is}
use Rattle.ari.specs.Limits.{gate_limits}
use Rattle.ari.specs.Listing.{listing}
use Rattle.ari.specs.References.{Placed, in_ari, in_object, in_params, in_value, in_aris, in_pairs, in_targets, in_reports, in_sets, references}
use Rattle.ari.proofs.Listed.{listing_is}

-- twice the references are no more than the heads
record Fewer (rs : List Placed) (n : ℕ) : Type 0 where
  twice : 2 * length rs ≤ n

none_here : Fewer [] 0
none_here = record { twice = omega arith }

-- among more heads
among : {rs : List Placed} {a b : ℕ} → Fewer rs a → a ≤ b → Fewer rs b
among x h = record { twice = omega (arith, x.twice) }

one_more : {r : Placed} {rs : List Placed} {a : ℕ} → Fewer rs a → Fewer (r ∷ rs) (2 + a)
one_more x = record { twice = omega (arith, x.twice) }

both : {xs ys : List Placed} {a b : ℕ} → Fewer xs a → Fewer ys b → Fewer (xs ++ ys) (a + b)
both x y = record { twice = rw length-append (omega (arith, x.twice, y.twice)) }

mutual
  in_ari_lem : {w : Place} {l : Lead} {s : List ℕ} {ms : Items} (a : Ari w l s ms) (p : ℕ) → Fewer (in_ari a p) (suc (heads ms))
  in_ari_lem (literal f x) p = among none_here (omega arith)
  in_ari_lem (namespace_ref f h n) p = among (one_more none_here) (omega arith)
  in_ari_lem (typed h t v) p = among (in_value_lem v _) (omega arith)
  in_ari_lem (object_ref f o) p = in_object_lem o p

  in_object_lem : {l : Lead} {s : List ℕ} {ms : Items} (o : Object l s ms) (p : ℕ) → Fewer (in_object o p) (suc (heads ms))
  in_object_lem (plain h n t i) p = among (one_more none_here) (omega arith)
  in_object_lem (with_params h n t i u) p = among (one_more (in_params_lem u _)) (omega arith)

  in_params_lem : {l : Lead} {s : List ℕ} {ms : Items} (u : Params l s ms) (p : ℕ) → Fewer (in_params u p) (suc (heads ms))
  in_params_lem (list h r) p = among (in_aris_lem r _) (omega arith)
  in_params_lem (table h r) p = among (in_pairs_lem r _) (omega arith)

  in_value_lem : {t : ℕ} {w : Place} {l : Lead} {s : List ℕ} {ms : Items} (v : Value t w l s ms) (p : ℕ) → Fewer (in_value v p) (suc (heads ms))
  in_value_lem (simple_value c x) p = among none_here (omega arith)
  in_value_lem (ac h r) p = among (in_aris_lem r _) (omega arith)
  in_value_lem (am h r) p = among (in_pairs_lem r _) (omega arith)
  in_value_lem (execset h n r) p = among (in_targets_lem r _) (omega arith)
  in_value_lem (rptset h n t r) p = among (in_reports_lem r _) (omega arith)

  in_aris_lem : {w : Place} {n : ℕ} {g : Items} (r : Aris w n g) (p : ℕ) → Fewer (in_aris r p) (heads g)
  in_aris_lem no_aris p = none_here
  in_aris_lem (aris a r) p = among (both (in_ari_lem a p) (in_aris_lem r _)) (omega arith)

  in_pairs_lem : {prev : List ℕ} {w : Place} {n : ℕ} {g : Items} (r : Pairs prev w n g) (p : ℕ) → Fewer (in_pairs r p) (heads g)
  in_pairs_lem no_pairs p = none_here
  in_pairs_lem (pairs k b v r) p = among (both (in_ari_lem v _) (in_pairs_lem r _)) (omega arith)

  in_targets_lem : {n : ℕ} {g : Items} (r : Targets n g) (p : ℕ) → Fewer (in_targets r p) (heads g)
  in_targets_lem no_targets p = none_here
  in_targets_lem (targets o r) p = among (both (in_object_lem o p) (in_targets_lem r _)) (omega arith)

  in_reports_lem : {n : ℕ} {g : Items} (r : Reports n g) (p : ℕ) → Fewer (in_reports r p) (heads g)
  in_reports_lem no_reports p = none_here
  in_reports_lem (reports h t o a r) p = among (both (in_object_lem o _) (both (in_aris_lem a _) (in_reports_lem r _))) (omega arith)

in_sets_lem : {g : Items} (r : Sets g) (p : ℕ) → Fewer (in_sets r p) (heads g)
in_sets_lem no_more p = none_here
in_sets_lem (set a r) p = among (both (in_ari_lem a p) (in_sets_lem r _)) (omega arith)

in_input : {i : Input} {g : Items} (r : Stands i g) → Fewer (references r) (heads g)
in_input (single_ari a) = among (in_ari_lem a 0) (omega arith)
in_input (a_message v r) = among (in_sets_lem r _) (omega arith)

module _ {m : Limits} {b : List ℕ} {g : Items} {n : ℕ} (c : Is m Message b g n) where
  -- At most half as many entries as items,
  pub at_most_half : 2 * length (listing b) ≤ n
  at_most_half = rw (listing_is c, length-map) (omega (arith, (in_input c.stands).twice, c.count))

-- so no listing has more than 2,048.
pub at_most_2048 : {b : List ℕ} {g : Items} {n : ℕ} → Is gate_limits Message b g n → length (listing b) ≤ 2048
at_most_2048 c = omega (arith, at_most_half c, c.few)
