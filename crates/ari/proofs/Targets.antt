-- Which target or report an item lies in: it has a number exactly if it is one's own head or stands inside one; the heads around them have none; the
-- numbers rise with the items. The idea: no slot that may stand inside a target or report is a target, a report, or one of those around them.
use Prim.Native.Nat.{ℕ, zero, suc, ◌+◌, ◌-◌, ◌≤◌, ◌<◌}
use mathlib.Core.Logic.{◌⊎◌, inl, inr}
use mathlib.Core.Path.{◌≡◌, refl, sym, ◌∙◌, ap}
use mathlib.Core.Bool.{Bool, true, false, not, ◌&&◌, ◌||◌, cond, true≢false}
use mathlib.Core.List.Memᴰ
use mathlib.Core.List.{List, [], ◌∷◌, Memᴰ}
use native.Mathlib.Omega.{arith}
use native.Mathlib.Nat.{add-zero, zero-add}
use lib.ListN.{length, get_or}
use lib.Dec.{eqb, leb, ltb}
use borrow.Author.Tests.{ne_eqb, leb-true, le-leb, lt-leb, lt-ltb, le-ltb, ltb-true, ltb-false}
use Rattle.buffer.proofs.ByteLaws.{and-true}
use Rattle.cbor.specs.Head.{array, map, Lead}
use Rattle.ari.specs.Table.{Place, alone, message, inside, param, Slot, version, ari, type, value, namespace, object_namespace, object_type, object_id, params, key, entry, nonce, set_time, target, report, report_time, report_source, Row, row, type_rows, types, Level, done, due, many, reference_level, ari_level, value_level, rule, fits, members}
use Rattle.ari.specs.Table.{inner as held}
use Rattle.ari.specs.declared.Limits.{Limits}
use Rattle.ari.specs.declared.Input.{Input}
use Rattle.ari.specs.declared.Input.TheVariants.{Single}
use Rattle.ari.specs.declared.Target.{Target}
use Rattle.ari.specs.declared.Target.TheVariants.{None, Number}
use Rattle.ari.specs.Reader.{first_slot}
use Rattle.ari.specs.Items.{Items, none, item, encode, Spot, inside_at, spot_at, spots, open_ended, spots_of}
use Rattle.ari.specs.Rules.{Is}
use Rattle.ari.specs.Targets.{is_target, targets, holds, number_from, target_of}
use Rattle.ari.proofs.Due.{Fit, prev_after}
use Rattle.ari.proofs.Demand.{stands_fit}
use Rattle.ari.proofs.Rows.{every, fits_by}
use Rattle.ari.proofs.Spots.{All, no_spot_lem, spot_too, all_append, all_map, Later, Rising, spot_count, spot_between, spot_rising}
use Rattle.ari.proofs.Members.{within, Pairs, all_of, Inside, Around, spot_inside, spot_around}

-- The slots that may stand inside a target or report.
abbrev is_in : Place → Bool
is_in alone = false
is_in message = false
is_in inside = true
is_in param = true

abbrev inner : Slot → Bool
inner version = false
inner (ari w) = is_in w
inner (type w) = is_in w
inner (value t w) = is_in w && not (eqb t 20 || eqb t 21)
inner namespace = true
inner (object_namespace p) = true
inner (object_type p) = true
inner (object_id p) = true
inner params = true
inner (key w) = is_in w
inner (entry w) = is_in w
inner (nonce t) = false
inner set_time = false
inner target = false
inner report = false
inner report_time = true
inner report_source = true

abbrev inner_level : Level → Bool
inner_level done = true
inner_level (due s n) = inner s

inner_many : (s : Slot) (n : ℕ) → inner s ≡ true → inner_level (many s n) ≡ true
inner_many s zero e = refl
inner_many s (suc n) e = e

inner_reference : (a : ℕ) → inner_level (reference_level a) ≡ true
inner_reference a = go (eqb a 1)
  where
    go : (t : Bool) → inner_level (cond t (due namespace 0) (due (object_namespace (eqb a 4)) 0)) ≡ true
    go true = refl
    go false = refl

inner_ari : (w : Place) (a : ℕ) → is_in w ≡ true → inner_level (ari_level w a) ≡ true
inner_ari w a e = go (eqb a 2)
  where
    go : (t : Bool) → inner_level (cond t (due (type w) 0) (reference_level a)) ≡ true
    go true = e
    go false = inner_reference a

inner_value : (t : ℕ) (w : Place) (a : ℕ) → is_in w ≡ true → not (eqb t 20 || eqb t 21) ≡ true → inner_level (value_level t w a) ≡ true
inner_value t w a e f = go (eqb t 20) (eqb t 21) f
  where
    go : (u v : Bool) → not (u || v) ≡ true → inner_level (cond u (due (nonce 20) (a - 1)) (cond v (due (nonce 21) (a - 2)) (many (ari w) a))) ≡ true
    go true v h = absurd (true≢false (sym h))
    go false true h = absurd (true≢false (sym h))
    go false false h = inner_many (ari w) a e

-- an inner slot holds inner slots
inner_array : (s : Slot) (a : ℕ) → inner s ≡ true → inner_level ((rule s).in_array a) ≡ true
unfolding rule
inner_array version a e = refl
inner_array (ari w) a e = inner_ari w a e
inner_array (type w) a e = refl
inner_array (value t w) a e = let (p, q) = and-true (is_in w) (not (eqb t 20 || eqb t 21)) e in inner_value t w a p q
inner_array namespace a e = refl
inner_array (object_namespace p) a e = refl
inner_array (object_type p) a e = refl
inner_array (object_id p) a e = refl
inner_array params a e = inner_many (ari param) a refl
inner_array (key w) a e = refl
inner_array (entry w) a e = inner_ari w a e
inner_array (nonce t) a e = refl
inner_array set_time a e = refl
inner_array target a e = absurd (true≢false (sym e))
inner_array report a e = absurd (true≢false (sym e))
inner_array report_time a e = refl
inner_array report_source a e = inner_reference a

inner_map : (s : Slot) (a : ℕ) → inner s ≡ true → inner_level ((rule s).in_map a) ≡ true
unfolding rule
inner_map version a e = refl
inner_map (ari w) a e = refl
inner_map (type w) a e = refl
inner_map (value t w) a e = inner_many (key w) a (and-true (is_in w) (not (eqb t 20 || eqb t 21)) e).0
inner_map namespace a e = refl
inner_map (object_namespace p) a e = refl
inner_map (object_type p) a e = refl
inner_map (object_id p) a e = refl
inner_map params a e = inner_many (key param) a refl
inner_map (key w) a e = refl
inner_map (entry w) a e = refl
inner_map (nonce t) a e = refl
inner_map set_time a e = refl
inner_map target a e = refl
inner_map report a e = refl
inner_map report_time a e = refl
inner_map report_source a e = refl

-- no set stands inside
abbrev no_set : Row → Bool
no_set (row k lo hi) = leb hi 19

no_set_lem : (w : Place) → is_in w ≡ true → every no_set (type_rows w types) ≡ true
unfolding types
no_set_lem alone e = absurd (true≢false (sym e))
no_set_lem message e = absurd (true≢false (sym e))
no_set_lem inside e = refl
no_set_lem param e = refl

few_types : (w : Place) (k a : ℕ) → is_in w ≡ true → fits k a (type_rows w types) ≡ true → not (eqb a 20 || eqb a 21) ≡ true
few_types w k a e f =
    let x = fits_by no_set k a (type_rows w types) (no_set_lem w e) f in
    let h : a ≤ 19 = omega (arith, x.high, leb-true x.hi 19 x.holds) in
    rw (ne_eqb a 20 (λ q. omega arith), ne_eqb a 21 (λ q. omega arith))

inner_type : (w : Place) (k a : ℕ) → is_in w ≡ true → fits k a (type_rows w types) ≡ true → inner (value a (held w)) ≡ true
inner_type alone k a e f = absurd (true≢false (sym e))
inner_type message k a e f = absurd (true≢false (sym e))
inner_type inside k a e f = few_types inside k a e f
inner_type param k a e f = few_types param k a e f

inner_next : (s : Slot) (k a n : ℕ) → inner s ≡ true → fits k a (rule s).rows ≡ true → inner_level ((rule s).next a n) ≡ true
unfolding rule
inner_next version k a n e f = refl
inner_next (ari w) k a n e f = inner_many (ari w) n e
inner_next (type w) k a n e f = inner_type w k a e f
inner_next (value t w) k a n e f = refl
inner_next namespace k a n e f = refl
inner_next (object_namespace p) k a n e f = refl
inner_next (object_type p) k a n e f = refl
inner_next (object_id true) k a n e f = refl
inner_next (object_id false) k a n e f = refl
inner_next params k a n e f = refl
inner_next (key w) k a n e f = e
inner_next (entry w) k a n e f = inner_many (key w) n e
inner_next (nonce t) k a n e f = absurd (true≢false (sym e))
inner_next set_time k a n e f = absurd (true≢false (sym e))
inner_next target k a n e f = absurd (true≢false (sym e))
inner_next report k a n e f = absurd (true≢false (sym e))
inner_next report_time k a n e f = refl
inner_next report_source k a n e f = inner_many (ari inside) n refl

members_by : (P : Level → Type 0) (s : Slot) (l : Lead) → P done → ((a : ℕ) → P ((rule s).in_array a)) → ((a : ℕ) → P ((rule s).in_map a)) → P (members s l)
unfolding members
members_by P s l x y z = go (eqb l.kind array) (eqb l.kind map)
  where
    go : (t u : Bool) → P (cond t ((rule s).in_array l.arg) (cond u ((rule s).in_map l.arg) done))
    go true u = y l.arg
    go false true = z l.arg
    go false false = x

record InnerLevel (v : Level) : Type 0 where
  is : inner_level v ≡ true

pub inner_members : (s : Slot) (l : Lead) → inner s ≡ true → inner_level (members s l) ≡ true
inner_members s l e =
    (members_by InnerLevel s l (record { is = refl }) (λ a. record { is = inner_array s a e }) (λ a. record { is = inner_map s a e })).is

pub target_members : (s : Slot) (l : Lead) → is_target s ≡ true → inner_level (members s l) ≡ true
unfolding rule
target_members version l e = absurd (true≢false (sym e))
target_members (ari w) l e = absurd (true≢false (sym e))
target_members (type w) l e = absurd (true≢false (sym e))
target_members (value t w) l e = absurd (true≢false (sym e))
target_members namespace l e = absurd (true≢false (sym e))
target_members (object_namespace p) l e = absurd (true≢false (sym e))
target_members (object_type p) l e = absurd (true≢false (sym e))
target_members (object_id p) l e = absurd (true≢false (sym e))
target_members params l e = absurd (true≢false (sym e))
target_members (key w) l e = absurd (true≢false (sym e))
target_members (entry w) l e = absurd (true≢false (sym e))
target_members (nonce t) l e = absurd (true≢false (sym e))
target_members set_time l e = absurd (true≢false (sym e))
target_members target l e =
    (members_by InnerLevel target l (record { is = refl }) (λ a. record { is = inner_reference a }) (λ a. record { is = refl })).is
target_members report l e = (members_by InnerLevel report l (record { is = refl }) (λ a. record { is = refl }) (λ a. record { is = refl })).is
target_members report_time l e = absurd (true≢false (sym e))
target_members report_source l e = absurd (true≢false (sym e))

-- all that stands inside a target or report is at inner slots
abbrev Inner : Spot → Type 0
Inner x = inner x.slot ≡ true

inner_all : (g : Items) (v : Level) (prev : List ℕ) (p d : ℕ) → Fit g false v prev → inner_level v ≡ true → All Inner (spots g false v p d)
inner_all none v prev p d f e = no_spot_lem
inner_all (item l str ms rs) done prev p d f e = no_spot_lem
inner_all (item l str ms rs) (due s n) prev p d f e =
    spot_too {x = spot_at s p d l str ms} e
    (all_append (inner_all ms (members s l) [] (inside_at p l str) (suc d) f.1 (inner_members s l e))
    (inner_all rs ((rule s).next l.arg n) _ (inside_at p l str + length (encode ms)) d f.2 (inner_next s l.kind l.arg n e f.0.fitting)))

abbrev Holding : Spot → Type 0
Holding y = is_target y.slot ≡ true → All Inner (within y)

holding_all : (g : Items) (more : Bool) (v : Level) (prev : List ℕ) (p d : ℕ) → Fit g more v prev → All Holding (spots g more v p d)
holding_all none more v prev p d f = no_spot_lem
holding_all (item l str ms rs) false done prev p d f = no_spot_lem
holding_all (item l str ms rs) true done prev p d f =
    let q : ℕ = inside_at p l str in
    spot_too {x = spot_at (ari message) p d l str ms} (λ e. inner_all ms (members (ari message) l) [] q (suc d) f.1 (target_members (ari message) l e))
    (all_append (holding_all ms false (members (ari message) l) [] q (suc d) f.1)
    (holding_all rs true ((rule (ari message)).next l.arg 0) (prev_after (ari message) [] l str) (q + length (encode ms)) d f.2))
holding_all (item l str ms rs) more (due s n) prev p d f =
    let q : ℕ = inside_at p l str in
    spot_too {x = spot_at s p d l str ms} (λ e. inner_all ms (members s l) [] q (suc d) f.1 (target_members s l e))
    (all_append (holding_all ms false (members s l) [] q (suc d) f.1)
    (holding_all rs more ((rule s).next l.arg n) (prev_after s prev l str) (q + length (encode ms)) d f.2))

inner_no_target : (s : Slot) → is_target s && inner s ≡ false
inner_no_target version = refl
inner_no_target (ari w) = refl
inner_no_target (type w) = refl
inner_no_target (value t w) = refl
inner_no_target namespace = refl
inner_no_target (object_namespace p) = refl
inner_no_target (object_type p) = refl
inner_no_target (object_id p) = refl
inner_no_target params = refl
inner_no_target (key w) = refl
inner_no_target (entry w) = refl
inner_no_target (nonce t) = refl
inner_no_target set_time = refl
inner_no_target target = refl
inner_no_target report = refl
inner_no_target report_time = refl
inner_no_target report_source = refl

no_target : (x : Spot) → Inner x → is_target x.slot ≡ true → ⊥
no_target x h e = true≢false (rw (e, h) at (inner_no_target x.slot))

-- An item behind another begins behind its first byte; behind a target or report it lies within, at an inner slot, or behind the end.
pub Behind : Spot → Spot → Type 0
Behind y x = (y.first < x.first) × Inside y x × (is_target y.slot ≡ true → ((x.after ≤ y.after) × Inner x) ⊎ (y.after ≤ x.first))

behind_one : (y x : Spot) → Later y x → Inside y x → Holding y → Behind y x
unfolding Behind
behind_one y x l i h = (l.0, i, λ e. go e l.1)
  where
    go : is_target y.slot ≡ true → (x.after ≤ y.after) ⊎ (y.after ≤ x.first) → ((x.after ≤ y.after) × Inner x) ⊎ (y.after ≤ x.first)
    go e (inl k) = inl (k, all_of (h e) (i k))
    go e (inr k) = inr k

behind_each : (y : Spot) (xs : List Spot) → All (Later y) xs → All (Inside y) xs → Holding y → All (Behind y) xs
behind_each y [] a b h = no_spot_lem
behind_each y (x ∷ xs) (spot_too p a) (spot_too q b) h = spot_too (behind_one y x p q h) (behind_each y xs a b h)

behind_all : (xs : List Spot) → Rising xs → Pairs Inside xs → All Holding xs → Pairs Behind xs
behind_all [] a b h = tt
behind_all (x ∷ xs) a b (spot_too p h) = (behind_each x xs a.0 b.0 p, behind_all xs a.1 b.1 h)

-- The numbers item by item, as a walk over them finds them: the targets and reports so far, and where the last of them ends.
pub record Passed : Type 0 where
  pub count : ℕ
  pub end : ℕ

abbrev pub step : Passed → Bool → ℕ → Passed
step st true after = record { count = suc st.count; end = after }
step st false after = st

-- after so many items
abbrev pub passed : Spot → Passed → List Spot → ℕ → Passed
passed d st xs zero = st
passed d st xs (suc k) = let x = get_or xs k d in step (passed d st xs k) (is_target x.slot) x.after

-- the number of the item that was passed last, by its first byte
abbrev pub number_by : Passed → ℕ → Target
number_by st first = cond (ltb first st.end) (Number (st.count - 1)) None

passed_front : (d : Spot) (st : Passed) (x : Spot) (xs : List Spot) (k : ℕ) → passed d st (x ∷ xs) (suc k) ≡ passed d (step st (is_target x.slot) x.after) xs k
passed_front d st x xs zero = refl
passed_front d st x xs (suc k) = rw (passed_front d st x xs k)

not_held : (n : ℕ) (x : Spot) (xs : List Spot) → All (λ y. x.first < y.first) xs → number_from n (targets xs) x ≡ None
not_held n x [] a = refl
not_held n x (y ∷ ys) (spot_too h a) = go (is_target y.slot) (not_held (suc n) x ys a) (not_held n x ys a)
  where
    go : (t : Bool) → number_from (suc n) (targets ys) x ≡ None → number_from n (targets ys) x ≡ None → number_from n (cond t (y ∷ targets ys) (targets ys)) x ≡ None
    go true e f = rw (lt-leb y.first x.first h) e
    go false e f = f

abbrev Whole : Spot → Type 0
Whole x = x.first < x.after

at_all : {P : Spot → Type 0} (xs : List Spot) (k : ℕ) (d : Spot) → All P xs → k < length xs → P (get_or xs k d)
at_all [] k d a h = absurd (omega arith)
at_all (x ∷ xs) zero d (spot_too p a) h = p
at_all (x ∷ xs) (suc k) d (spot_too p a) h = at_all xs k d a (omega arith)

-- what begins before the end of the last target or report stands inside it
abbrev Open : Passed → Spot → Type 0
Open st y = y.first < st.end → Inner y

-- a target or report and an item behind it: by the item's first byte alone
held_by : (y x : Spot) → is_target y.slot ≡ true → Behind y x → Whole x → holds y x ≡ ltb x.first y.after
unfolding Behind
held_by y x e b w = go (b.2 e)
  where
    go : ((x.after ≤ y.after) × Inner x) ⊎ (y.after ≤ x.first) → holds y x ≡ ltb x.first y.after
    go (inl h) = rw (le-leb y.first x.first (omega (arith, b.0)), le-leb x.after y.after h.0, lt-ltb x.first y.after (omega (arith, h.0)))
    go (inr h) = rw (le-leb y.first x.first (omega (arith, b.0)), lt-leb x.after y.after (omega arith), le-ltb x.first y.after h)

-- a target or report begins behind the end of the one before
begins : (st : Passed) (y : Spot) → Open st y → is_target y.slot ≡ true → st.end ≤ y.first
begins st y o e = go (ltb y.first st.end) refl
  where
    go : (t : Bool) → ltb y.first st.end ≡ t → st.end ≤ y.first
    go true h = absurd (no_target y (o (ltb-true y.first st.end h)) e)
    go false h = ltb-false y.first st.end h

opens : (st : Passed) (y : Spot) (ys : List Spot) (t : Bool) → is_target y.slot ≡ t → All (Behind y) ys → All (Open st) ys → All (Open (step st t y.after)) ys
unfolding Behind
opens st y ys true e b o = all_map (λ x k h. go x (k.2 e) h) b
  where
    go : (x : Spot) → ((x.after ≤ y.after) × Inner x) ⊎ (y.after ≤ x.first) → x.first < y.after → Inner x
    go x (inl k) h = k.1
    go x (inr k) h = absurd (omega arith)
opens st y ys false e b o = o

module _ (d : Spot) where
  abbrev Found : Passed → List Spot → ℕ → Type 0
  Found st xs k =
      let x = get_or xs k d in
      number_by (passed d st xs (suc k)) x.first ≡ cond (ltb x.first st.end) (Number (st.count - 1)) (number_from st.count (targets xs) x)

  found : (st : Passed) (xs : List Spot) (k : ℕ) → k < length xs → Pairs Behind xs → All Whole xs → All (Open st) xs → Found st xs k
  unfolding Behind
  found st [] k h p w o = absurd (omega arith)
  found st (y ∷ ys) zero h p (spot_too u w) (spot_too v o) = go (is_target y.slot) refl
    where
      go : (t : Bool) → is_target y.slot ≡ t
          → number_by (step st t y.after) y.first
          ≡ cond (ltb y.first st.end) (Number (st.count - 1)) (number_from st.count (cond t (y ∷ targets ys) (targets ys)) y)
      go true e =
          let one : (step st true y.after).count - 1 ≡ st.count = omega arith in
          rw (one, lt-ltb y.first y.after u, le-ltb y.first st.end (begins st y v e), le-leb y.first y.first (omega arith), le-leb y.after y.after (omega arith))
      go false e = rw (not_held st.count y ys (all_map (λ x b. b.0) p.0))
  found st (y ∷ ys) (suc k) h p (spot_too u w) (spot_too v o) =
      let st' : Passed = step st (is_target y.slot) y.after in
      let i : Found st' ys k = found st' ys k (omega arith) p.1 w (opens st y ys (is_target y.slot) refl p.0 o) in
      rw (passed_front d st y ys (suc k)) (i ∙ go (get_or ys k d) (at_all ys k d p.0 (omega arith)) (at_all ys k d w (omega arith)) (is_target y.slot) refl)
    where
      go : (x : Spot) → Behind y x → Whole x → (t : Bool) → is_target y.slot ≡ t
          → cond (ltb x.first (step st t y.after).end) (Number ((step st t y.after).count - 1)) (number_from (step st t y.after).count (targets ys) x)
          ≡ cond (ltb x.first st.end) (Number (st.count - 1)) (number_from st.count (cond t (y ∷ targets ys) (targets ys)) x)
      go x b q true e =
          let one : (step st true y.after).count - 1 ≡ st.count = omega arith in
          rw (one, held_by y x e b q, le-ltb x.first st.end (omega (arith, begins st y v e, b.0)))
      go x b q false e = refl

abbrev pub nothing : Passed
nothing = record { count = 0; end = 0 }

-- targets and reports do not overlap
abbrev Disjoint : Spot → Spot → Type 0
Disjoint y x = y.after ≤ x.first

abbrev Counted : Spot → Type 0
Counted x = is_target x.slot ≡ true

all_targets : {P : Spot → Type 0} (xs : List Spot) → All P xs → All (λ x. P x × Counted x) (targets xs)
all_targets [] a = no_spot_lem
all_targets {P} (x ∷ xs) (spot_too h a) = go (is_target x.slot) refl (all_targets xs a)
  where
    go : (t : Bool) → is_target x.slot ≡ t → All (λ x. P x × Counted x) (targets xs) → All (λ x. P x × Counted x) (cond t (x ∷ targets xs) (targets xs))
    go true e r = spot_too (h, e) r
    go false e r = r

behind_target : (y x : Spot) → Counted y → Behind y x × Counted x → Disjoint y x
unfolding Behind
behind_target y x e b = go (b.0.2 e)
  where
    go : ((x.after ≤ y.after) × Inner x) ⊎ (y.after ≤ x.first) → y.after ≤ x.first
    go (inl h) = absurd (no_target x h.1 b.1)
    go (inr h) = h

disjoint_targets : (xs : List Spot) → Pairs Behind xs → Pairs Disjoint (targets xs)
disjoint_targets [] p = tt
disjoint_targets (x ∷ xs) p = go (is_target x.slot) refl (disjoint_targets xs p.1)
  where
    go : (t : Bool) → is_target x.slot ≡ t → Pairs Disjoint (targets xs) → Pairs Disjoint (cond t (x ∷ targets xs) (targets xs))
    go true e r = (all_map (λ y b. behind_target x y e b) (all_targets xs p.0), r)
    go false e r = r

no_and : (t : Bool) → (t && false) ≡ false
no_and true = refl
no_and false = refl

-- so one at most holds an item
holder : (n : ℕ) (ys : List Spot) (a : ℕ) (x : Spot) → Pairs Disjoint ys → a < length ys → holds (get_or ys a x) x ≡ true → Whole x → number_from n ys x ≡ Number (n + a)
holder n [] a x p h e w = absurd (omega arith)
holder n (y ∷ ys) zero x p h e w = rw (e, add-zero n)
holder n (y ∷ ys) (suc a) x p h e w =
    let z = get_or ys a x in
    let d : y.after ≤ z.first = at_all ys a x p.0 (omega arith) in
    let k : z.first ≤ x.first = leb-true z.first x.first (and-true (leb z.first x.first) (leb x.after z.after) e).0 in
    let i : number_from (suc n) ys x ≡ Number (suc n + a) = holder (suc n) ys a x p.1 (omega arith) e w in
    let s : suc n + a ≡ n + suc a = omega arith in
    rw (lt-leb x.after y.after (omega arith), no_and (leb y.first x.first)) (i ∙ ap Number s)

abbrev number_in : Target → ℕ
number_in None = 0
number_in (Number a) = suc a

number_is : {a b : ℕ} → Number a ≡ Number b → a ≡ b
number_is e = let z = ap number_in e in omega arith

no_number : {a : ℕ} → None ≡ Number a → ⊥
no_number e = let z = ap number_in e in omega arith

-- the one that a number names holds the item
record Holder (n : ℕ) (ys : List Spot) (a : ℕ) (x : Spot) : Type 0 where
  from : n ≤ a
  below : a - n < length ys
  holding : holds (get_or ys (a - n) x) x ≡ true

holder_of : (n : ℕ) (ys : List Spot) (a : ℕ) (x : Spot) → number_from n ys x ≡ Number a → Holder n ys a x
holder_of n [] a x e = absurd (no_number e)
holder_of n (y ∷ ys) a x e = go (holds y x) refl e (λ h. holder_of (suc n) ys a x h)
  where
    go : (t : Bool) → holds y x ≡ t → cond t (Number n) (number_from (suc n) ys x) ≡ Number a → (number_from (suc n) ys x ≡ Number a → Holder (suc n) ys a x)
        → Holder n (y ∷ ys) a x
    go true h q r = let s : n ≡ a = number_is q in let z : a - n ≡ 0 = omega arith in record { from = omega arith; below = omega arith; holding = rw z h }
    go false h q r =
        let s = r q in
        let z : a - n ≡ suc (a - suc n) = omega (arith, s.from) in
        record { from = omega (arith, s.from); below = omega (arith, s.from, s.below); holding = rw z s.holding }

-- any two of a list: the same, or one behind the other
two_of : (R : Spot → Spot → Type 0) {x y : Spot} (xs : List Spot) → Pairs R xs → Memᴰ x xs → Memᴰ y xs → (x ≡ y) ⊎ ((R y x) ⊎ (R x y))
two_of R [] p m k = absurd (Memᴰ.not-nil m)
two_of R (z ∷ zs) p (Memᴰ.head e) (Memᴰ.head f) = inl (e ∙ sym f)
two_of R (z ∷ zs) p (Memᴰ.head e) (Memᴰ.tail k) = inr (inr (rw e (all_of p.0 k)))
two_of R (z ∷ zs) p (Memᴰ.tail m) (Memᴰ.head f) = inr (inl (rw f (all_of p.0 m)))
two_of R (z ∷ zs) p (Memᴰ.tail m) (Memᴰ.tail k) = two_of R zs p.1 m k

mem_at : (xs : List Spot) (k : ℕ) (d : Spot) → k < length xs → Memᴰ (get_or xs k d) xs
mem_at [] k d h = absurd (omega arith)
mem_at (x ∷ xs) zero d h = Memᴰ.head refl
mem_at (x ∷ xs) (suc k) d h = Memᴰ.tail (mem_at xs k d (omega arith))

target_mem : {x : Spot} (xs : List Spot) → Memᴰ x (targets xs) → Memᴰ x xs
target_mem [] m = absurd (Memᴰ.not-nil m)
target_mem {x} (y ∷ ys) m = go (is_target y.slot) m (λ k. target_mem ys k)
  where
    go : (t : Bool) → Memᴰ x (cond t (y ∷ targets ys) (targets ys)) → (Memᴰ x (targets ys) → Memᴰ x ys) → Memᴰ x (y ∷ ys)
    go true (Memᴰ.head e) r = Memᴰ.head e
    go true (Memᴰ.tail k) r = Memᴰ.tail (r k)
    go false k r = Memᴰ.tail (r k)

count_rises : (d : Spot) (xs : List Spot) (j k : ℕ) → (passed d nothing xs j).count ≤ (passed d nothing xs (j + k)).count
count_rises d xs j zero = rw (add-zero j) (omega arith)
count_rises d xs j (suc k) =
    let x = get_or xs (j + k) d in
    let e : j + suc k ≡ suc (j + k) = omega arith in
    rw e (go (is_target x.slot) (count_rises d xs j k))
  where
    go : (t : Bool) → (passed d nothing xs j).count ≤ (passed d nothing xs (j + k)).count
        → (passed d nothing xs j).count ≤ (step (passed d nothing xs (j + k)) t (get_or xs (j + k) d).after).count
    go true h = omega (arith, h)
    go false h = h

number_by_lem : (st : Passed) (first a : ℕ) → number_by st first ≡ Number a → a ≡ st.count - 1
number_by_lem st first a e = go (ltb first st.end) e
  where
    go : (t : Bool) → cond t (Number (st.count - 1)) None ≡ Number a → a ≡ st.count - 1
    go true q = sym (number_is q)
    go false q = absurd (no_number q)

-- item x lies in target or report number a: it is that one, or stands inside it
pub record Lies (xs : List Spot) (a : ℕ) (x : Spot) : Type 0 where
  pub below : a < length (targets xs)
  pub there : (x ≡ get_or (targets xs) a x) ⊎ (Memᴰ x (within (get_or (targets xs) a x)))

-- the heads around the targets and reports of an input
pub data Framing : Slot → Type 0 where
  the_version : Framing version
  a_single_ari : Framing (ari alone)
  a_set : Framing (ari message)
  single_type : Framing (type alone)
  set_type : Framing (type message)
  an_execset : {w : Place} → Framing (value 20 w)
  an_rptset : {w : Place} → Framing (value 21 w)
  a_nonce : {t : ℕ} → Framing (nonce t)
  a_set_time : Framing set_time

no_frame : {s : Slot} → Framing s → (is_target s ≡ false) × (inner s ≡ false)
no_frame the_version = (refl, refl)
no_frame a_single_ari = (refl, refl)
no_frame a_set = (refl, refl)
no_frame single_type = (refl, refl)
no_frame set_type = (refl, refl)
no_frame (an_execset {w}) = (refl, no_and (is_in w))
no_frame (an_rptset {w}) = (refl, no_and (is_in w))
no_frame a_nonce = (refl, refl)
no_frame a_set_time = (refl, refl)

module _ {m : Limits} {i : Input} {b : List ℕ} {g : Items} {n : ℕ} (c : Is m i b g n) where
  abbrev xs : List Spot
  xs = spots_of i g

  spot_holding : All Holding xs
  spot_holding = holding_all g (open_ended i) (due (first_slot i) 0) [] 0 0 (stands_fit c.stands)

  spot_behind : Pairs Behind xs
  spot_behind = behind_all xs (spot_rising c) (spot_inside c) spot_holding

  spot_wholes : All Whole xs
  spot_wholes = all_map (λ x h. h.1) (spot_between c)

  -- a walk over the items finds each one's number
  pub walked : (d : Spot) (k : ℕ) → k < n → number_by (passed d nothing xs (suc k)) (get_or xs k d).first ≡ target_of xs (get_or xs k d)
  unfolding target_of
  walked d k h =
      let x = get_or xs k d in
      let s : k < length xs = omega (arith, spot_count c) in
      found d nothing xs k s spot_behind spot_wholes (all_map (λ y w l. absurd (omega arith)) spot_wholes) ∙ rw (le-ltb x.first 0 (omega arith))

  pub numbers_rise : (d : Spot) (j k u v : ℕ) → j ≤ k → k < n → target_of xs (get_or xs j d) ≡ Number u → target_of xs (get_or xs k d) ≡ Number v → u ≤ v
  numbers_rise d j k u v h l e f =
      let a : u ≡ (passed d nothing xs (suc j)).count - 1 = number_by_lem (passed d nothing xs (suc j)) (get_or xs j d).first u (walked d j (omega arith) ∙ e) in
      let z : v ≡ (passed d nothing xs (suc k)).count - 1 = number_by_lem (passed d nothing xs (suc k)) (get_or xs k d).first v (walked d k l ∙ f) in
      let s : suc j + (k - j) ≡ suc k = omega arith in
      let r : (passed d nothing xs (suc j)).count ≤ (passed d nothing xs (suc k)).count = rw s at (count_rises d xs (suc j) (k - j)) in
      omega (arith, a, z, r)

  module _ (x : Spot) (here : Memᴰ x xs) where
    whole : Whole x
    whole = all_of spot_wholes here

    -- the targets' own
    target_at : (a : ℕ) → a < length (targets xs) → Memᴰ (get_or (targets xs) a x) xs × Counted (get_or (targets xs) a x)
    target_at a h = (target_mem xs (mem_at (targets xs) a x h), (at_all (targets xs) a x (all_targets xs spot_wholes) h).1)

    pub lies : (a : ℕ) → target_of xs x ≡ Number a → Lies xs a x
    unfolding target_of Behind
    lies a e =
        let y = holder_of 0 (targets xs) a x e in
        let o : a - 0 ≡ a = omega arith in
        let h : a < length (targets xs) = omega (arith, y.below) in
        let z = get_or (targets xs) a x in
        let k : holds z x ≡ true = rw o at y.holding in
        let (p, q) = and-true (leb z.first x.first) (leb x.after z.after) k in
        record { below = h; there = go z (leb-true z.first x.first p) (leb-true x.after z.after q) (two_of Behind xs spot_behind here (target_at a h).0) }
      where
        go : (z : Spot) → z.first ≤ x.first → x.after ≤ z.after → (x ≡ z) ⊎ ((Behind z x) ⊎ (Behind x z)) → (x ≡ z) ⊎ (Memᴰ x (within z))
        go z p q (inl e) = inl e
        go z p q (inr (inl r)) = inr (r.1 q)
        go z p q (inr (inr r)) = absurd (omega (arith, r.0))

    pub numbered : (a : ℕ) → Lies xs a x → target_of xs x ≡ Number a
    unfolding target_of
    numbered a l =
        let z = get_or (targets xs) a x in
        let y = target_at a l.below in
        rw (zero-add a) at (holder 0 (targets xs) a x (disjoint_targets xs spot_behind) l.below (go z (all_of spot_wholes y.0) (all_of (spot_around c) y.0) l.there) whole)
      where
        go : (z : Spot) → Whole z → Around z → (x ≡ z) ⊎ (Memᴰ x (within z)) → holds z x ≡ true
        go z w r (inl e) = rw (e, le-leb z.first z.first (omega arith), le-leb z.after z.after (omega arith))
        go z w r (inr m) = let k = all_of r m in rw (le-leb z.first x.first (omega (arith, k.0)), le-leb x.after z.after k.2)

    -- at a slot that is neither a target's or report's nor inside one
    outside : is_target x.slot ≡ false → inner x.slot ≡ false → target_of xs x ≡ None
    outside e f = go (target_of xs x) refl
      where
        no : (z : Spot) → Counted z → All Inner (within z) → (x ≡ z) ⊎ (Memᴰ x (within z)) → ⊥
        no z h k (inl q) = true≢false (sym h ∙ rw (← q) e)
        no z h k (inr q) = true≢false (sym (all_of k q) ∙ f)

        go : (t : Target) → target_of xs x ≡ t → target_of xs x ≡ None
        go None q = q
        go (Number a) q =
            let l = lies a q in
            let y = target_at a l.below in
            absurd (no (get_or (targets xs) a x) y.1 (all_of spot_holding y.0 y.1) l.there)

    pub framing_none : Framing x.slot → target_of xs x ≡ None
    framing_none f = outside (no_frame f).0 (no_frame f).1

-- A single ARI of another type: whether a head is a typed literal's, and its first member's argument 20 or 21.
abbrev pub is_set : Lead → Items → Bool
is_set l none = false
is_set l (item l₁ s₁ m₁ rs) = eqb l.kind array && (eqb l.arg 2 && (eqb l₁.arg 20 || eqb l₁.arg 21))

abbrev Uncounted : Spot → Type 0
Uncounted x = is_target x.slot ≡ false

uncounted : (x : Spot) → Inner x → Uncounted x
uncounted x h = go (is_target x.slot) (rw h at (inner_no_target x.slot))
  where
    go : (t : Bool) → t && true ≡ false → t ≡ false
    go true e = e
    go false e = refl

no_targets : (xs : List Spot) → All Uncounted xs → targets xs ≡ []
no_targets [] a = refl
no_targets (x ∷ xs) (spot_too h a) = rw (h, no_targets xs a)

inner_uncounted : (g : Items) (v : Level) (prev : List ℕ) (p d : ℕ) → Fit g false v prev → inner_level v ≡ true → All Uncounted (spots g false v p d)
inner_uncounted g v prev p d f e = all_map uncounted (inner_all g v prev p d f e)

-- no target or report stands where only what may be inside one is due
pub none_inside : (g : Items) (v : Level) (prev : List ℕ) (p d : ℕ) → Fit g false v prev → inner_level v ≡ true → targets (spots g false v p d) ≡ []
none_inside g v prev p d f e = no_targets (spots g false v p d) (inner_uncounted g v prev p d f e)

-- the two members of a typed literal
typed_uncounted : (g : Items) (p d : ℕ) → Fit g false (due (type alone) 0) [] → ((l₁ : Lead) (s₁ : List ℕ) (m₁ rs : Items) → g ≡ item l₁ s₁ m₁ rs → eqb l₁.arg 20 || eqb l₁.arg 21 ≡ false)
    → All Uncounted (spots g false (due (type alone) 0) p d)
unfolding rule
typed_uncounted none p d f h = absurd f
typed_uncounted (item l₁ s₁ m₁ rs) p d f h =
    let q : ℕ = inside_at p l₁ s₁ in
    spot_too {x = spot_at (type alone) p d l₁ s₁ m₁} refl
    (all_append
    (inner_uncounted m₁ (members (type alone) l₁) [] q (suc d) f.1
    (members_by InnerLevel (type alone) l₁ (record { is = refl }) (λ a. record { is = refl }) (λ a. record { is = refl })).is)
    (inner_uncounted rs (due (value l₁.arg inside) 0) _ (q + length (encode m₁)) d f.2 (ap not (h l₁ s₁ m₁ rs refl))))

abbrev outer_level : ℕ → Bool → Bool → Bool → Level
outer_level a t u v = cond t (cond u (due (type alone) 0) (reference_level a)) (cond v done done)

set_free : (l : Lead) (ms : Items) (p d : ℕ) → Fit ms false (members (ari alone) l) [] → is_set l ms ≡ false → All Uncounted (spots ms false (members (ari alone) l) p d)
unfolding members rule
set_free l ms p d f e = go (eqb l.kind array) (eqb l.arg 2) (eqb l.kind map) refl refl f
  where
    go : (t u v : Bool) → eqb l.kind array ≡ t → eqb l.arg 2 ≡ u → Fit ms false (outer_level l.arg t u v) [] → All Uncounted (spots ms false (outer_level l.arg t u v) p d)
    go true true v h k x = typed_uncounted ms p d x (λ l₁ s₁ m₁ rs q. rw (h, k) at (rw q at e))
    go true false v h k x = inner_uncounted ms (reference_level l.arg) [] p d x (inner_reference l.arg)
    go false u true h k x = inner_uncounted ms done [] p d x refl
    go false u false h k x = inner_uncounted ms done [] p d x refl

pub another_type : {m : Limits} {b : List ℕ} {l : Lead} {s : List ℕ} {ms rs : Items} {n : ℕ} → Is m Single b (item l s ms rs) n → is_set l ms ≡ false
    → (x : Spot) → target_of (spots_of Single (item l s ms rs)) x ≡ None
unfolding target_of rule
another_type {l = l} {s = s} {ms = ms} {rs = rs} c e x =
    let f : Fit (item l s ms rs) false (due (ari alone) 0) [] = stands_fit c.stands in
    rw (no_targets (spots_of Single (item l s ms rs)) (spot_too {x = spot_at (ari alone) 0 0 l s ms} refl (all_append (set_free l ms (inside_at 0 l s) 1 f.1 e) (inner_uncounted rs done _ (inside_at 0 l s + length (encode ms)) 0 f.2 refl))))
