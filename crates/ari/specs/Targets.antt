-- The targets of EXECSETs and the reports of RPTSETs, counted together from 0 through the whole input (R168), and which of them an item lies in (R169).
-- Interface: all of it.
use Rattle.std.specs.Prelude.{ℕ, suc, Bool, true, false, ◌&&◌, cond, List, [], ◌∷◌, leb}
use Rattle.ari.specs.Table.{Slot, version, ari, type, value, namespace, object_namespace, object_type, object_id, params, key, entry, nonce, set_time, target, report, report_time, report_source}
use Rattle.ari.specs.Items.{Spot}
use Rattle.ari.specs.declared.Target.{Target}
use Rattle.ari.specs.declared.Target.TheVariants.{None, Number}

-- R168: where a target or a report is due
abbrev pub is_target : Slot → Bool
is_target version = false
is_target (ari w) = false
is_target (type w) = false
is_target (value t w) = false
is_target namespace = false
is_target (object_namespace p) = false
is_target (object_type p) = false
is_target (object_id p) = false
is_target params = false
is_target (key w) = false
is_target (entry w) = false
is_target (nonce t) = false
is_target set_time = false
is_target target = true
is_target report = true
is_target report_time = false
is_target report_source = false

-- R168: the targets and reports among the items, in their order
abbrev pub targets : List Spot → List Spot
targets [] = []
targets (x ∷ xs) = let r = targets xs in cond (is_target x.slot) (x ∷ r) r

-- an item's bytes hold those from one byte to another
abbrev pub around : Spot → ℕ → ℕ → Bool
around y first after = leb y.first first && leb after y.after

-- those of another, or are the same
abbrev pub holds : Spot → Spot → Bool
holds y x = around y x.first x.after

-- R169: the number, from n on, of the one that holds an item
abbrev pub number_from : ℕ → List Spot → Spot → Target
number_from n [] x = None
number_from n (y ∷ ys) x = cond (holds y x) (Number n) (number_from (suc n) ys x)

unfoldable pub target_of : List Spot → Spot → Target
target_of xs x = number_from 0 (targets xs) x
