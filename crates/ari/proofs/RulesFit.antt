-- The rules and the slots say the same: what stands by the rules fits its slot.
use Prim.Native.Nat.{ℕ, suc, ◌-◌, ◌≤◌}
use mathlib.Core.Path.{◌≡◌, refl, sym}
use mathlib.Core.Bool.{Bool, true, false, ◌&&◌, ◌||◌, true≢false}
use mathlib.Core.List.{List, [], ◌∷◌, ◌++◌}
use native.Mathlib.Omega.{arith}
use lib.Dec.{eqb}
use borrow.Author.Tests.{eq-eqb, ne_eqb}
use Rattle.buffer.specs.Bytes.{within}
use Rattle.cbor.specs.Byte.{below}
use Rattle.cbor.specs.Head.{array, Lead, is_container}
use Rattle.buffer.proofs.ByteLaws.{or_right, within_true, within_is}
use Rattle.cbor.proofs.HeadLaws.{sound_64}
use Rattle.ari.specs.Table.{Place, alone, message, inside, param, anywhere, Slot, ari, type, value, namespace, object_namespace, object_type, object_id, params, key, entry, nonce, set_time, target, report, report_time, report_source, Row, row, max64, arrays, literals, ari_rows, types, ExtraTest, none, one, many, reference_level, rule, fits, members}
use Rattle.cbor.specs.Head.{key_bytes}
use Rattle.ari.specs.Reader.{wrong_version, not_greater, is_empty}
use Rattle.ari.specs.Items.{Items, item}
use Rattle.ari.specs.Rules.{Plain, Holds, Ari, literal, namespace_ref, typed, object_ref, Object, plain, with_params, Params, list, table, Value, simple_value, ac, am, execset, rptset, Aris, no_aris, aris, Pairs, no_pairs, pairs, Targets, no_targets, targets, Reports, no_reports, reports}
use Rattle.ari.specs.Due.{Good}
use Rattle.ari.proofs.Due.{Fit, members_leaf, member_level, members_held, container_string}
use Rattle.ari.proofs.Rows.{every, leaf_row, no_container, type_leaf}

-- what an item owes its slot: to be good there, and its members
pub record Here (s : Slot) (prev : List ℕ) (l : Lead) (str : List ℕ) (ms : Items) : Type 0 where
  pub good : Good s prev l str
  pub holds : Fit ms false (members s l) []

-- a slot's own test is passed
pub record Passes (o : ExtraTest) (prev kb : List ℕ) (a : ℕ) : Type 0 where
  versioned : wrong_version o a ≡ false
  rising : not_greater o prev kb ≡ false
  filled : is_empty o a ≡ false

no_test : {prev kb : List ℕ} {a : ℕ} → Passes none prev kb a
no_test = record { versioned = refl; rising = refl; filled = refl }

pub is_one : {prev kb : List ℕ} {a : ℕ} → a ≡ 1 → Passes one prev kb a
is_one {a = a} e = record { versioned = rw (eq-eqb a 1 e); rising = refl; filled = refl }

is_rising : {prev kb : List ℕ} {a : ℕ} → below prev kb ≡ true → Passes ExtraTest.rising prev kb a
is_rising h = record { versioned = refl; rising = rw h; filled = refl }

is_filled : {prev kb : List ℕ} {n : ℕ} → Passes ExtraTest.filled prev kb (suc n)
is_filled {n = n} = record { versioned = refl; rising = refl; filled = ne_eqb (suc n) 0 (λ e. omega arith) }

-- slots that ask the same of an item, and differ in what follows it
pub record Alike (s t : Slot) : Type 0 where
  pub rows : (rule s).rows ≡ (rule t).rows
  pub spelling : (rule s).spelling ≡ (rule t).spelling
  pub extra : (rule s).extra ≡ (rule t).extra
  pub in_array : (rule s).in_array ≡ (rule t).in_array
  pub in_map : (rule s).in_map ≡ (rule t).in_map

pub here_as : {s t : Slot} (prev : List ℕ) {l : Lead} {str : List ℕ} {ms : Items} → Alike s t → Here s prev l str ms → Here t prev l str ms
unfolding members
here_as prev a h =
    let g = h.good in
    record {
      good = record {
        head = g.head;
        fitting = rw (← a.rows) g.fitting;
        versioned = rw (← a.extra) g.versioned;
        sized = g.sized;
        spelled = rw (← a.spelling) g.spelled;
        rising = rw (← a.extra) g.rising;
        filled = rw (← a.extra) g.filled;
      };
      holds = rw (← a.in_array, ← a.in_map) h.holds;
    }

pub alike_sym : {s t : Slot} → Alike s t → Alike t s
alike_sym a = record { rows = sym a.rows; spelling = sym a.spelling; extra = sym a.extra; in_array = sym a.in_array; in_map = sym a.in_map }

pub entry_alike : (w : Place) → Alike (ari w) (entry w)
unfolding rule
entry_alike w = record { rows = refl; spelling = refl; extra = refl; in_array = refl; in_map = refl }

pub source_alike : Alike target report_source
unfolding rule
source_alike = record { rows = refl; spelling = refl; extra = refl; in_array = refl; in_map = refl }

-- an item with no members
module _ (s : Slot) (prev : List ℕ) {l : Lead} {str : List ℕ} {ms : Items} (o : Passes (rule s).extra prev (key_bytes l str) l.arg)
    (p : Plain (rule s).rows (rule s).spelling l str ms) where
  here_leaf : is_container l.kind ≡ false → Here s prev l str ms
  here_leaf c = record {
    good = record { head = p.head; fitting = p.fitting; versioned = o.versioned; sized = p.sized; spelled = p.spelling; rising = o.rising; filled = o.filled };
    holds = rw (members_leaf s l c, p.bare) tt;
  }

  pub here_plain : every leaf_row (rule s).rows ≡ true → Here s prev l str ms
  here_plain n = here_leaf (no_container l.kind l.arg (rule s).rows n p.fitting)

-- an array or a map
here_held : (s : Slot) (prev : List ℕ) {k n : ℕ} {l : Lead} {str : List ℕ} {ms : Items} → is_container k ≡ true → Holds k n l str
    → Passes (rule s).extra prev (key_bytes l str) n → fits k n (rule s).rows ≡ true → Fit ms false (member_level s k n) [] → Here s prev l str ms
unfolding is_container
here_held s prev {k} {l = l} c h o f g =
    let c' : is_container l.kind ≡ true = rw h.kind_is c in
    let (p, q) = within_true 4 5 k c in
    record {
      good = record {
        head = h.head;
        fitting = rw (h.kind_is, h.arg_is) f;
        versioned = rw h.arg_is o.versioned;
        sized = rw (h.bare, container_string l c');
        spelled = rw (h.kind_is, ne_eqb k 3 (λ e. omega arith));
        rising = o.rising;
        filled = rw h.arg_is o.filled;
      };
      holds = rw (members_held s l c', h.kind_is, h.arg_is) g;
    }

-- rows that an array, a map fits
array_fits : (lo hi a : ℕ) → lo ≤ a → a ≤ hi → fits array a (arrays lo hi ∷ []) ≡ true
array_fits lo hi a l h = rw (within_is lo hi a l h)

module _ {k n : ℕ} {l : Lead} {str : List ℕ} (h : Holds k n l str) where
  held_64 : n ≤ max64
  held_64 = omega (arith, sound_64 h.head, h.arg_is)

  any_fits : within 0 max64 n || false ≡ true
  any_fits = rw (within_is 0 max64 n (omega arith) held_64)

pub fits_more : (k a : ℕ) (rs qs : List Row) → fits k a rs ≡ true → fits k a (rs ++ qs) ≡ true
fits_more k a [] qs e = cc
fits_more k a (row k' lo hi ∷ rs) qs e = go (eqb k k' && within lo hi a) e (fits_more k a rs qs)
  where
    go : (t : Bool) → t || fits k a rs ≡ true → (fits k a rs ≡ true → fits k a (rs ++ qs) ≡ true) → t || fits k a (rs ++ qs) ≡ true
    go true q ih = refl
    go false q ih = ih q

fits_behind : (k a : ℕ) (rs qs : List Row) → fits k a qs ≡ true → fits k a (rs ++ qs) ≡ true
fits_behind k a [] qs e = e
fits_behind k a (row k' lo hi ∷ rs) qs e = or_right (eqb k k' && within lo hi a) _ (fits_behind k a rs qs e)

pub anywhere_rows : (w : Place) → anywhere w ≡ true → ari_rows w ≡ literals ++ (arrays 1 4 ∷ [])
anywhere_rows alone f = refl
anywhere_rows message f = absurd (true≢false (sym f))
anywhere_rows inside f = refl
anywhere_rows param f = refl

anywhere_array : (w : Place) (a : ℕ) → anywhere w ≡ true → 1 ≤ a → a ≤ 4 → fits array a (ari_rows w) ≡ true
anywhere_array w a f l h = rw (anywhere_rows w f) (fits_behind array a literals (arrays 1 4 ∷ []) (array_fits 1 4 a l h))

two_array : (w : Place) → fits array 2 (ari_rows w) ≡ true
two_array alone = refl
two_array message = refl
two_array inside = refl
two_array param = refl

literal_plain : (w : Place) {l : Lead} {str : List ℕ} {ms : Items} {sp : List ℕ → Bool} → anywhere w ≡ true → Plain literals sp l str ms → Plain (ari_rows w) sp l str ms
literal_plain w {l} f p = record {
  head = p.head;
  fitting = rw (anywhere_rows w f) (fits_more l.kind l.arg literals (arrays 1 4 ∷ []) p.fitting);
  sized = p.sized;
  spelling = p.spelling;
  bare = p.bare;
}

-- an object reference: an array of 3 or 4 with its members
record Refers (l : Lead) (str : List ℕ) (ms : Items) : Type 0 where
  count : ℕ
  holds : Holds array count l str
  low : 3 ≤ count
  high : count ≤ 4
  inner_fit : Fit ms false (reference_level count) []

here_reference : (w : Place) (prev : List ℕ) {l : Lead} {str : List ℕ} {ms : Items} → anywhere w ≡ true → Refers l str ms → Here (ari w) prev l str ms
unfolding rule is_container
here_reference w prev f r =
    let lo = r.low in
    here_held (ari w) prev refl r.holds no_test (anywhere_array w r.count f (omega arith) r.high) (rw (ne_eqb r.count 2 (λ e. omega arith)) r.inner_fit)

here_target : (prev : List ℕ) {l : Lead} {str : List ℕ} {ms : Items} → Refers l str ms → Here target prev l str ms
unfolding rule is_container
here_target prev r = here_held target prev refl r.holds no_test (array_fits 3 4 r.count r.low r.high) r.inner_fit

pub less_one : (n : ℕ) → suc n - 1 ≡ n
less_one n = omega arith

pub less_two : (n : ℕ) → suc (suc n) - 2 ≡ n
less_two n = omega arith

mutual
  unfolding rule types members is_container

  pub here_ari : {w : Place} {l : Lead} {s : List ℕ} {ms : Items} (prev : List ℕ) → Ari w l s ms → Here (ari w) prev l s ms
  here_ari prev (literal {w = w} {l = l} f p) =
      here_leaf (ari w) prev no_test (literal_plain w f p) (no_container l.kind l.arg literals refl p.fitting)
  here_ari prev (namespace_ref {w = w} f h p) =
      let x = here_plain namespace [] no_test p refl in
      here_held (ari w) prev refl h no_test (anywhere_array w 1 f (omega arith) (omega arith)) (x.good, x.holds, tt)
  here_ari prev (typed {w = w} h t v) =
      let x = here_plain (type w) [] no_test t (type_leaf w) in
      let y = here_value [] v in
      here_held (ari w) prev refl h no_test (two_array w) (x.good, x.holds, (y.good, y.holds, tt))
  here_ari prev (object_ref {w = w} f o) = here_reference w prev f (here_object o)

  here_object : {l : Lead} {s : List ℕ} {ms : Items} → Object l s ms → Refers l s ms
  here_object (plain h p q r) =
      let x = here_plain (object_namespace false) [] no_test p refl in
      let y = here_plain (object_type false) [] no_test q refl in
      let z = here_plain (object_id false) [] no_test r refl in
      record { count = 3; holds = h; low = omega arith; high = omega arith; inner_fit = (x.good, x.holds, (y.good, y.holds, (z.good, z.holds, tt))) }
  here_object (with_params h p q r u) =
      let x = here_plain (object_namespace true) [] no_test p refl in
      let y = here_plain (object_type true) [] no_test q refl in
      let z = here_plain (object_id true) [] no_test r refl in
      let v = here_params [] u in
      record { count = 4; holds = h; low = omega arith; high = omega arith; inner_fit = (x.good, x.holds, (y.good, y.holds, (z.good, z.holds, (v.good, v.holds, tt)))) }

  here_params : {l : Lead} {s : List ℕ} {ms : Items} (prev : List ℕ) → Params l s ms → Here params prev l s ms
  here_params prev (list h l) = here_held params prev refl h is_filled (any_fits h) (here_aris [] l)
  here_params prev (table h l) = here_held params prev refl h is_filled (any_fits h) (here_pairs l)

  here_value : {t : ℕ} {w : Place} {l : Lead} {s : List ℕ} {ms : Items} (prev : List ℕ) → Value t w l s ms → Here (value t w) prev l s ms
  here_value prev (simple_value {t = t} {w = w} c p) = here_leaf (value t w) prev no_test p c
  here_value prev (ac {w = w} h l) = here_held (value 17 w) prev refl h no_test (any_fits h) (here_aris [] l)
  here_value prev (am {w = w} h l) = here_held (value 18 w) prev refl h no_test (any_fits h) (here_pairs l)
  here_value prev (execset {w = w} {n = n} h k l) =
      let x = here_plain (nonce 20) [] no_test k refl in
      here_held (value 20 w) prev refl h no_test (array_fits 1 max64 (suc n) (omega arith) (held_64 h)) (x.good, x.holds, rw (less_one n) (here_targets [] l))
  here_value prev (rptset {w = w} {n = n} h k v l) =
      let x = here_plain (nonce 21) [] no_test k refl in
      let y = here_plain set_time [] no_test v refl in
      here_held (value 21 w) prev refl h no_test (array_fits 2 max64 (suc (suc n)) (omega arith) (held_64 h))
      (x.good, x.holds, (y.good, y.holds, rw (less_two n) (here_reports [] l)))

  here_aris : {w : Place} {n : ℕ} {g : Items} (prev : List ℕ) → Aris w n g → Fit g false (many (ari w) n) prev
  here_aris prev no_aris = tt
  here_aris prev (aris a l) = let h = here_ari prev a in (h.good, h.holds, here_aris prev l)

  here_pairs : {prev : List ℕ} {w : Place} {n : ℕ} {g : Items} → Pairs prev w n g → Fit g false (many (key w) n) prev
  here_pairs no_pairs = tt
  here_pairs (pairs {prev = prev} {w = w} {l = l} {s = s} p o v r) =
      let x = here_plain (key w) prev (is_rising o) p refl in
      let y = here_as (key_bytes l s) (entry_alike w) (here_ari (key_bytes l s) v) in
      (x.good, x.holds, (y.good, y.holds, here_pairs r))

  here_targets : {n : ℕ} {g : Items} (prev : List ℕ) → Targets n g → Fit g false (many target n) prev
  here_targets prev no_targets = tt
  here_targets prev (targets o l) = let h = here_target prev (here_object o) in (h.good, h.holds, here_targets prev l)

  here_reports : {n : ℕ} {g : Items} (prev : List ℕ) → Reports n g → Fit g false (many report n) prev
  here_reports prev no_reports = tt
  here_reports prev (reports {n = n} {l₁ = l₁} {l₂ = l₂} {s₁ = s₁} {s₂ = s₂} {m₁ = m₁} {m₂ = m₂} {r = r} h v o a l) =
      let y = here_plain report_time [] no_test v refl in
      let t = here_as [] source_alike (here_target [] (here_object o)) in
      let x = here_held report prev {ms = item l₁ s₁ m₁ (item l₂ s₂ m₂ r)} refl h no_test (array_fits 2 max64 (suc (suc n)) (omega arith) (held_64 h))
      (y.good, y.holds, (t.good, t.holds, rw (less_two n) (here_aris [] a))) in
      (x.good, x.holds, here_reports prev l)
