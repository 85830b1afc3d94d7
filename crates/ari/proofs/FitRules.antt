-- The other way: what fits its slot stands by the rules.
use Prim.Native.Nat.{ℕ, zero, suc, ◌-◌, ◌≤◌}
use mathlib.Core.Path.{◌≡◌, refl, sym, ◌∙◌}
use mathlib.Core.Bool.{Bool, true, false, ◌&&◌, ◌||◌, true≢false}
use mathlib.Core.List.{List, [], ◌∷◌, ◌++◌}
use native.Mathlib.Omega.{arith}
use lib.ListN.{length}
use lib.Dec.{eqb}
use borrow.Author.Tests.{eqb-true, eqb-false, ne_eqb}
use Rattle.buffer.specs.Bytes.{within}
use Rattle.cbor.specs.Byte.{below}
use Rattle.cbor.specs.Head.{array, map, Lead, is_container}
use Rattle.buffer.proofs.ByteLaws.{not-false, within_true, within_is}
use Rattle.ari.specs.Table.{Place, alone, message, inside, param, anywhere, Slot, ari, value, params, key, nonce, target, report, report_time, Row, row, max64, arrays, literals, ari_rows, types, done, due, many, ari_level, rule, fits, members}
use Rattle.cbor.specs.Head.{key_bytes}
use Rattle.ari.specs.Items.{Items, none, item}
use Rattle.ari.proofs.Well.{trees}
use Rattle.ari.specs.Rules.{Plain, Holds, Nonce, Vast, Ari, literal, namespace_ref, typed, object_ref, Object, plain, with_params, Params, list, table, Value, simple_value, ac, am, execset, rptset, Aris, no_aris, aris, Pairs, no_pairs, pairs, Targets, no_targets, targets, Reports, no_reports, reports}
use Rattle.ari.specs.Due.{Good}
use Rattle.ari.proofs.Due.{Fit, members_leaf, member_level, members_held, container_string}
use Rattle.ari.proofs.Rows.{every, fits_by, leaf_row, no_container, one_kind, ArrayType, collection, orders, answers, array_type, map_type, array_range, ari_arrays, type_leaf}
use Rattle.ari.proofs.Weight.{weigh_ari, trees_fit}
use Rattle.ari.proofs.RulesFit.{Here, here_as, alike_sym, entry_alike, source_alike}

pub here : {s : Slot} {prev : List ℕ} {l : Lead} {str : List ℕ} {ms : Items} → Good s prev l str → Fit ms false (members s l) [] → Here s prev l str ms
here g f = record { good = g; holds = f }

nothing : (g : Items) → Fit g false done [] → g ≡ none
nothing none f = refl
nothing (item l str ms rs) f = absurd f

no_string : (s : List ℕ) → length s ≡ 0 → s ≡ []
no_string [] e = refl
no_string (x ∷ s) e = absurd (omega arith)

-- an item with no members
module _ {s : Slot} {prev : List ℕ} {l : Lead} {str : List ℕ} {ms : Items} (h : Here s prev l str ms) where
  of_leaf : is_container l.kind ≡ false → Plain (rule s).rows (rule s).spelling l str ms
  of_leaf c = record {
    head = h.good.head;
    fitting = h.good.fitting;
    sized = h.good.sized;
    spelling = h.good.spelled;
    bare = nothing ms (rw (members_leaf s l c) at h.holds);
  }

  pub of_plain : every leaf_row (rule s).rows ≡ true → Plain (rule s).rows (rule s).spelling l str ms
  of_plain n = of_leaf (no_container l.kind l.arg (rule s).rows n h.good.fitting)

  -- an array or a map
  of_held : (k n : ℕ) → is_container k ≡ true → l.kind ≡ k → l.arg ≡ n → Holds k n l str × Fit ms false (member_level s k n) []
  of_held k n c e a =
      let c' : is_container l.kind ≡ true = rw e c in (
        record { head = h.good.head; kind_is = e; arg_is = a; bare = no_string str (h.good.sized ∙ container_string l c') },
        rw (members_held s l c', e, a) at h.holds,
      )

holds_as : {k n m : ℕ} {l : Lead} {str : List ℕ} → Holds k n l str → n ≡ m → Holds k m l str
holds_as h e = record { head = h.head; kind_is = h.kind_is; arg_is = h.arg_is ∙ e; bare = h.bare }

-- ARI rows: arrays of 1 to 4, or the literals
ari_anywhere : (w : Place) (a : ℕ) → fits array a (ari_rows w) ≡ true → (a ≡ 2 → ⊥) → anywhere w ≡ true
ari_anywhere alone a e n = refl
ari_anywhere message a e n = let (l, h) = array_range 2 2 a (arrays 2 2 ∷ []) refl e in absurd (n (omega arith))
ari_anywhere inside a e n = refl
ari_anywhere param a e n = refl

fits_less : (k a lo hi : ℕ) (rs : List Row) → eqb k array ≡ false → fits k a (rs ++ (arrays lo hi ∷ [])) ≡ true → fits k a rs ≡ true
fits_less k a lo hi [] n e = rw n at e
fits_less k a lo hi (row k' l h ∷ rs) n e = go (eqb k k' && within l h a) e (fits_less k a lo hi rs n)
  where
    go : (t : Bool) → t || fits k a (rs ++ (arrays lo hi ∷ [])) ≡ true → (fits k a (rs ++ (arrays lo hi ∷ [])) ≡ true → fits k a rs ≡ true)
        → t || fits k a rs ≡ true
    go true q ih = refl
    go false q ih = ih q

anywhere_literal : (w : Place) (k a : ℕ) → eqb k array ≡ false → fits k a (ari_rows w) ≡ true → (anywhere w ≡ true) × (fits k a literals ≡ true)
anywhere_literal alone k a n e = (refl, fits_less k a 1 4 literals n e)
anywhere_literal message k a n e = absurd (true≢false (sym (rw n at e)))
anywhere_literal inside k a n e = (refl, fits_less k a 1 4 literals n e)
anywhere_literal param k a n e = (refl, fits_less k a 1 4 literals n e)

-- an ARI that is an array: its length is the number of its members
pub record AriArray (w : Place) (n : ℕ) (l : Lead) (str : List ℕ) (ms : Items) : Type 0 where
  holds : Holds array n l str
  low : 1 ≤ n
  high : n ≤ 4
  anywhere_if : (n ≡ 2 → ⊥) → anywhere w ≡ true
  within_it : Fit ms false (ari_level w n) []

ari_array : (w : Place) (n : ℕ) {l : Lead} {str : List ℕ} (ms : Items) → Holds array n l str → fits array n (ari_rows w) ≡ true → Fit ms false (ari_level w n) []
    → AriArray w (trees ms) l str ms
ari_array w n ms h e f =
    let (lo, hi) = array_range 1 4 n (ari_rows w) (ari_arrays w) e in
    let q : trees ms ≡ n = trees_fit ms (ari_level w n) [] f ∙ weigh_ari w n lo hi in
    rw q (record { holds = h; low = lo; high = hi; anywhere_if = ari_anywhere w n e; within_it = f })

-- what becomes of an ARI's members, whatever ARI it is
abbrev OfArray : Items → Type 0
OfArray ms = (w : Place) (l : Lead) (str : List ℕ) → AriArray w (trees ms) l str ms → Ari w l str ms

pub of_ari : {w : Place} {prev : List ℕ} {l : Lead} {str : List ℕ} {ms : Items} → Here (ari w) prev l str ms → OfArray ms → Ari w l str ms
unfolding rule is_container
of_ari {w} {l = l} {str = str} {ms = ms} h cb = go (eqb l.kind array) refl
  where
    go : (t : Bool) → eqb l.kind array ≡ t → Ari w l str ms
    go true e =
        let q : l.kind ≡ array = eqb-true l.kind array e in
        let (x, f) = of_held h array l.arg refl q refl in
        cb w l str (ari_array w l.arg ms x (rw q at h.good.fitting) f)
    go false e =
        let (r, f) = anywhere_literal w l.kind l.arg e h.good.fitting in
        let p = of_leaf h (no_container l.kind l.arg literals refl f) in
        literal r (record { head = p.head; fitting = f; sized = p.sized; spelling = p.spelling; bare = p.bare })

object_of : {w : Place} {n : ℕ} {l : Lead} {str : List ℕ} {ms : Items} → 3 ≤ n → Holds array n l str → Ari w l str ms → Object l str ms
object_of {l = l} h x (literal f p) = absurd (true≢false (sym (rw x.kind_is at p.fitting)))
object_of h x (namespace_ref f y p) = absurd (omega (arith, x.arg_is, y.arg_is))
object_of h x (typed y e v) = absurd (omega (arith, x.arg_is, y.arg_is))
object_of h x (object_ref f o) = o

of_target : {prev : List ℕ} {l : Lead} {str : List ℕ} {ms : Items} → Here target prev l str ms → OfArray ms → Object l str ms
unfolding rule is_container
of_target {l = l} {str = str} {ms = ms} h cb =
    let q : l.kind ≡ array = one_kind array l.kind l.arg (rule target).rows refl h.good.fitting in
    let e : fits array l.arg (rule target).rows ≡ true = rw q at h.good.fitting in
    let (lo, hi) = array_range 3 4 l.arg (rule target).rows refl e in
    let (x, f) = of_held h array l.arg refl q refl in
    object_of lo x (cb inside l str (ari_array inside l.arg ms x (rw (within_is 1 4 l.arg (omega arith) hi)) (rw (ne_eqb l.arg 2 (λ t. omega arith)) f)))

-- what becomes of the members of parameters and of values
data Exec : ℕ → Items → Type 0 where
  exec : {n : ℕ} {l : Lead} {s : List ℕ} {ms rs : Items} → Nonce l s ms → Targets n rs → Exec n (item l s ms rs)

data Rpt : ℕ → Items → Type 0 where
  rpt : {n : ℕ} {l l₁ : Lead} {s s₁ : List ℕ} {ms m₁ rs : Items} → Nonce l s ms → Vast l₁ s₁ m₁ → Reports n rs → Rpt n (item l s ms (item l₁ s₁ m₁ rs))

execset_of : {w : Place} {n : ℕ} {l : Lead} {str : List ℕ} {ms : Items} → Holds array (suc n) l str → Exec n ms → Value 20 w l str ms
execset_of h (exec p l) = execset h p l

rptset_of : {w : Place} {n : ℕ} {l : Lead} {str : List ℕ} {ms : Items} → Holds array (suc (suc n)) l str → Rpt n ms → Value 21 w l str ms
rptset_of h (rpt p v l) = rptset h p v l

abbrev container_row : Row → Bool
container_row (row k lo hi) = is_container k

other_container : (k : ℕ) → is_container k ≡ true → eqb k array ≡ false → k ≡ map
unfolding is_container
other_container k c e =
    let (p, q) = within_true 4 5 k c in
    let n : k ≡ 4 → ⊥ = eqb-false k 4 e in
    omega arith

no_other : (k : ℕ) → eqb k array ≡ false → eqb k map ≡ false → is_container k ≡ false
no_other k a m = go (is_container k) refl
  where
    go : (t : Bool) → is_container k ≡ t → t ≡ false
    go true c = absurd (eqb-false k map m (other_container k c a))
    go false c = refl

module _ (ms : Items) (of_aris : (w : Place) (n : ℕ) → Fit ms false (many (ari w) n) [] → Aris w n ms)
    (of_pairs : (w : Place) (n : ℕ) → Fit ms false (many (key w) n) [] → Pairs [] w n ms) where
  of_params : {prev : List ℕ} {l : Lead} {str : List ℕ} → Here params prev l str ms → Params l str ms
  unfolding rule is_container
  of_params {l = l} {str = str} h =
      let c : is_container l.kind ≡ true = (fits_by container_row l.kind l.arg (rule params).rows refl h.good.fitting).holds in
      let n : l.arg ≡ 0 → ⊥ = eqb-false l.arg 0 h.good.filled in
      go (eqb l.kind array) refl c (omega arith)
    where
      go : (t : Bool) → eqb l.kind array ≡ t → is_container l.kind ≡ true → l.arg ≡ suc (l.arg - 1) → Params l str ms
      go true e c a = let (x, f) = of_held h array (suc (l.arg - 1)) refl (eqb-true l.kind array e) a in list x (of_aris param (suc (l.arg - 1)) f)
      go false e c a = let (x, f) = of_held h map (suc (l.arg - 1)) refl (other_container l.kind c e) a in table x (of_pairs param (suc (l.arg - 1)) f)

  of_value_lem : (of_exec : (n : ℕ) → Fit ms false (due (nonce 20) n) [] → Exec n ms) (of_rpt : (n : ℕ) → Fit ms false (due (nonce 21) n) [] → Rpt n ms)
      {t : ℕ} {w : Place} {prev : List ℕ} {l : Lead} {str : List ℕ} → Here (value t w) prev l str ms → Value t w l str ms
  unfolding rule is_container
  of_value_lem of_exec of_rpt {t} {w} {l = l} {str = str} h = go (eqb l.kind array) refl
    where
      in_array : l.kind ≡ array → ArrayType t l.arg → Value t w l str ms
      in_array q (collection e) =
          let (x, f) = of_held h array l.arg refl q refl in
          rw e (ac x (of_aris w l.arg (rw e at f)))
      in_array q (orders e a) =
          let (x, f) = of_held h array l.arg refl q refl in
          rw e (execset_of (holds_as x (omega arith)) (of_exec (l.arg - 1) (rw e at f)))
      in_array q (answers e a) =
          let (x, f) = of_held h array l.arg refl q refl in
          rw e (rptset_of (holds_as x (omega arith)) (of_rpt (l.arg - 2) (rw e at f)))

      in_map : (b : Bool) → eqb l.kind map ≡ b → eqb l.kind array ≡ false → Value t w l str ms
      in_map true e n =
          let q : l.kind ≡ map = eqb-true l.kind map e in
          let y : t ≡ 18 = map_type t l.arg (rw q at h.good.fitting) in
          let (x, f) = of_held h map l.arg refl q refl in
          rw y (am x (of_pairs w l.arg f))
      in_map false e n = simple_value (no_other l.kind n e) (of_leaf h (no_other l.kind n e))

      go : (b : Bool) → eqb l.kind array ≡ b → Value t w l str ms
      go true e = let q : l.kind ≡ array = eqb-true l.kind array e in in_array q (array_type t l.arg (rw q at h.good.fitting))
      go false e = in_map (eqb l.kind map) refl e

key_order : {w : Place} {prev : List ℕ} {l : Lead} {str : List ℕ} → Good (key w) prev l str → below prev (key_bytes l str) ≡ true
unfolding rule
key_order {prev = prev} {l = l} {str = str} g = not-false (below prev (key_bytes l str)) g.rising

-- a report's array
of_report : {prev : List ℕ} {l : Lead} {str : List ℕ} {ms : Items} → Here report prev l str ms
    → Holds array (suc (suc (l.arg - 2))) l str × Fit ms false (due report_time (l.arg - 2)) []
unfolding rule is_container
of_report {l = l} h =
    let q : l.kind ≡ array = one_kind array l.kind l.arg (rule report).rows refl h.good.fitting in
    let e : fits array l.arg (rule report).rows ≡ true = rw q at h.good.fitting in
    let (lo, hi) = array_range 2 max64 l.arg (rule report).rows refl e in
    let (x, f) = of_held h array l.arg refl q refl in
    (holds_as x (omega arith), f)

mutual
  unfolding rule types is_container

  pub of_array : (ms : Items) → OfArray ms
  of_array none w l str x = absurd (omega (arith, x.low))
  of_array (item l₁ s₁ m₁ none) w l str x =
      let f = x.within_it in
      namespace_ref (x.anywhere_if (λ t. omega arith)) x.holds (of_plain (here f.0 f.1) refl)
  of_array (item l₁ s₁ m₁ (item l₂ s₂ m₂ none)) w l str x =
      let f = x.within_it in
      typed x.holds (of_plain (here f.0 f.1) (type_leaf w))
      (of_value_lem m₂ (λ w n f. of_aris m₂ w n [] f) (λ w n f. of_pairs m₂ [] w n f) (λ n f. of_exec m₂ n f) (λ n f. of_rpt m₂ n f) (here f.2.0 f.2.1))
  of_array (item l₁ s₁ m₁ (item l₂ s₂ m₂ (item l₃ s₃ m₃ none))) w l str x =
      let f = x.within_it in
      object_ref (x.anywhere_if (λ t. omega arith))
      (plain x.holds (of_plain (here f.0 f.1) refl) (of_plain (here f.2.0 f.2.1) refl) (of_plain (here f.2.2.0 f.2.2.1) refl))
  of_array (item l₁ s₁ m₁ (item l₂ s₂ m₂ (item l₃ s₃ m₃ (item l₄ s₄ m₄ none)))) w l str x =
      let f = x.within_it in
      object_ref (x.anywhere_if (λ t. omega arith))
      (with_params x.holds (of_plain (here f.0 f.1) refl) (of_plain (here f.2.0 f.2.1) refl) (of_plain (here f.2.2.0 f.2.2.1) refl)
      (of_params m₄ (λ w n f. of_aris m₄ w n [] f) (λ w n f. of_pairs m₄ [] w n f) (here f.2.2.2.0 f.2.2.2.1)))
  of_array (item l₁ s₁ m₁ (item l₂ s₂ m₂ (item l₃ s₃ m₃ (item l₄ s₄ m₄ (item l₅ s₅ m₅ r))))) w l str x = absurd (omega (arith, x.high))

  of_aris : (g : Items) (w : Place) (n : ℕ) (prev : List ℕ) → Fit g false (many (ari w) n) prev → Aris w n g
  of_aris none w zero prev f = no_aris
  of_aris none w (suc n) prev f = absurd f
  of_aris (item l s m rs) w zero prev f = absurd f
  of_aris (item l s m rs) w (suc n) prev f = aris (of_ari (here {prev = prev} f.0 f.1) (λ w l s x. of_array m w l s x)) (of_aris rs w n prev f.2)

  of_pairs : (g : Items) (prev : List ℕ) (w : Place) (n : ℕ) → Fit g false (many (key w) n) prev → Pairs prev w n g
  of_pairs none prev w zero f = no_pairs
  of_pairs none prev w (suc n) f = absurd f
  of_pairs (item l s m rs) prev w zero f = absurd f
  of_pairs (item l s m none) prev w (suc n) f = absurd f.2
  of_pairs (item l s m (item l₁ s₁ m₁ rs)) prev w (suc n) f =
      pairs (of_plain (here f.0 f.1) refl) (key_order f.0)
      (of_ari (here_as (key_bytes l s) (alike_sym (entry_alike w)) (here f.2.0 f.2.1)) (λ w l s x. of_array m₁ w l s x))
      (of_pairs rs (key_bytes l s) w n f.2.2)

  of_exec : (g : Items) (n : ℕ) → Fit g false (due (nonce 20) n) [] → Exec n g
  of_exec none n f = absurd f
  of_exec (item l s m rs) n f = exec (of_plain (here f.0 f.1) refl) (of_targets rs n [] f.2)

  of_rpt : (g : Items) (n : ℕ) → Fit g false (due (nonce 21) n) [] → Rpt n g
  of_rpt none n f = absurd f
  of_rpt (item l s m none) n f = absurd f.2
  of_rpt (item l s m (item l₁ s₁ m₁ rs)) n f =
      rpt (of_plain (here f.0 f.1) refl) (of_plain (here f.2.0 f.2.1) refl) (of_reports rs n [] f.2.2)

  of_targets : (g : Items) (n : ℕ) (prev : List ℕ) → Fit g false (many target n) prev → Targets n g
  of_targets none zero prev f = no_targets
  of_targets none (suc n) prev f = absurd f
  of_targets (item l s m rs) zero prev f = absurd f
  of_targets (item l s m rs) (suc n) prev f = targets (of_target (here {prev = prev} f.0 f.1) (λ w l s x. of_array m w l s x)) (of_targets rs n prev f.2)

  of_reports : (g : Items) (n : ℕ) (prev : List ℕ) → Fit g false (many report n) prev → Reports n g
  of_reports none zero prev f = no_reports
  of_reports none (suc n) prev f = absurd f
  of_reports (item l s m rs) zero prev f = absurd f
  of_reports (item l s none rs) (suc n) prev f = absurd (of_report (here {prev = prev} {ms = none} f.0 f.1)).1
  of_reports (item l s (item l₁ s₁ m₁ none) rs) (suc n) prev f =
      absurd (of_report (here {prev = prev} {ms = item l₁ s₁ m₁ none} f.0 f.1)).1.2
  of_reports (item l s (item l₁ s₁ m₁ (item l₂ s₂ m₂ r)) rs) (suc n) prev f =
      let (x, h) = of_report (here {prev = prev} {ms = item l₁ s₁ m₁ (item l₂ s₂ m₂ r)} f.0 f.1) in
      reports x (of_plain (here h.0 h.1) refl) (of_target (here_as [] (alike_sym source_alike) (here h.2.0 h.2.1)) (λ w l s x. of_array m₂ w l s x))
      (of_aris r inside (l.arg - 2) [] h.2.2) (of_reports rs n prev f.2)
