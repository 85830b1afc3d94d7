-- Two targets or reports: either their folded forms have the same bytes and their items are alike pair by pair, or their folded forms differ and so do two
-- items of one number. The idea: items that are alike announce the same members, so that both run side by side up to the first that differ, or to the end.
-- A target and a report differ at their third items at the latest: there the one has an object type, the other an array.
use Prim.Native.Nat.{ℕ, zero, suc, ◌+◌, ◌-◌, ◌≤◌, ◌<◌}
use mathlib.Core.Path.{◌≡◌, refl, sym, ◌∙◌, ap}
use mathlib.Core.Bool.{Bool, true, false, ◌&&◌, ◌||◌, cond, true≢false}
use mathlib.Core.List.{List, [], ◌∷◌, ◌++◌, append-nil}
use native.Mathlib.Omega.{arith}
use lib.ListN.{length, get_or, length-map}
use lib.Dec.{eqb, ltb}
use borrow.Author.Tests.{eqb-true, eqb-false, eq-eqb, ne_eqb, ltb-true, ltb-false}
use Rattle.buffer.specs.Bytes.{within as between, same as sameBytes}
use Rattle.buffer.proofs.ByteLaws.{and-true, within_true, same_is, same_self}
use Rattle.cbor.specs.Head.{bytes, text, array, Lead, Sound, string_size, is_container, arity}
use Rattle.ari.specs.Name.{lower, folded_name}
use Rattle.ari.specs.Table.{Slot, version, ari, type, value, namespace, object_namespace, object_type, object_id, params, key, entry, nonce, set_time, target, report, report_time, report_source, Row, arrays, max64, Level, done, due, rule, fits, members}
use Rattle.ari.specs.Items.{Items, none, item, encode, Spot, inside_at, spot_at, spots}
use Rattle.ari.specs.Decode.{decode}
use Rattle.ari.specs.Shortened.{short_lead}
use Rattle.ari.specs.Targets.{is_target}
use Rattle.ari.specs.Same.{takes_name, folded_at, folded, Seen, seen}
use Rattle.ari.proofs.Due.{Fit, prev_after, members_leaf}
use Rattle.ari.proofs.Members.{within}
use Rattle.ari.proofs.Well.{trees, Well}
use Rattle.ari.proofs.Weight.{well_fit}
use Rattle.ari.proofs.Decoded.{decode_encode}
use Rattle.ari.proofs.Shortened.{short_kind, short_arg, short_sound}
use Rattle.ari.proofs.Same.{seen_kind, seen_arg, seen_from}
use Rattle.grammar.specs.Code.{slot_number}
use Rattle.item_table.specs.Entries.{no_spot}
use Rattle.comparison.specs.Comparison.{folded_part, is_same_part, alike, items_of, alike_for}
use Rattle.comparison.proofs.Runs.{Fitting}

-- Items at one slot are alike exactly if what is compared of them is the same.
alike_seen : (x y : Spot) → Sound x.lead → Sound y.lead → x.slot ≡ y.slot → alike x y ≡ true → seen x ≡ seen y
unfolding alike
alike_seen x y s t e a =
    let (k, r) = and-true (eqb x.lead.kind y.lead.kind) _ a in
    let (g, z) = and-true (eqb x.lead.arg y.lead.arg) _ r in
    seen_from x y s t e (eqb-true x.lead.kind y.lead.kind k) (eqb-true x.lead.arg y.lead.arg g)
    (same_is (folded_at x.slot x.str) (folded_at y.slot y.str) z ∙ ap (λ (w : Slot). folded_at w y.str) (sym e))

seen_alike : (x y : Spot) → seen x ≡ seen y → alike x y ≡ true
unfolding alike
seen_alike x y e =
    let z : folded_at x.slot x.str ≡ folded_at y.slot y.str = ap (λ (w : Seen). w.str) e in
    rw (eq-eqb x.lead.kind y.lead.kind (seen_kind x y e), eq-eqb x.lead.arg y.lead.arg (seen_arg x y e), z)
    (same_self (folded_at y.slot y.str))

-- Two items whose strings may be compared as the first's slot has them: the same is due there, or they are not both strings.
pub data Comparable (x y : Spot) : Type 0 where
  same_due : x.slot ≡ y.slot → Comparable x y
  no_strings : (x.lead.kind ≡ y.lead.kind → between bytes text x.lead.kind ≡ false) → Comparable x y

-- alike to the end, or up to two that are not
pub data Likes : List Spot → List Spot → Type 0 where
  no_pair : Likes [] []
  pair_too : {x y : Spot} {xs ys : List Spot} → Comparable x y → alike x y ≡ true → Likes xs ys → Likes (x ∷ xs) (y ∷ ys)

pub data Unlike : List Spot → List Spot → Type 0 where
  here : {x y : Spot} {xs ys : List Spot} → Comparable x y → alike x y ≡ false → Unlike (x ∷ xs) (y ∷ ys)
  later : {x y : Spot} {xs ys : List Spot} → Comparable x y → alike x y ≡ true → Unlike xs ys → Unlike (x ∷ xs) (y ∷ ys)

likes_append : {xs ys us vs : List Spot} → Likes xs ys → Likes us vs → Likes (xs ++ us) (ys ++ vs)
likes_append no_pair q = q
likes_append (pair_too c a p) q = pair_too c a (likes_append p q)

unlike_behind : {xs ys us vs : List Spot} → Likes xs ys → Unlike us vs → Unlike (xs ++ us) (ys ++ vs)
unlike_behind no_pair q = q
unlike_behind (pair_too c a p) q = later c a (unlike_behind p q)

unlike_before : {xs ys : List Spot} (us vs : List Spot) → Unlike xs ys → Unlike (xs ++ us) (ys ++ vs)
unlike_before us vs (here c a) = here c a
unlike_before us vs (later c a p) = later c a (unlike_before us vs p)

-- two trees with the items that they are
data Against (s t : Items) (xs ys : List Spot) : Type 0 where
  agree : s ≡ t → Likes xs ys → Against s t xs ys
  differ : (s ≡ t → ⊥) → Unlike xs ys → Against s t xs ys

-- the folded form of an item with folded members and others behind it
abbrev folded_item : Spot → Items → Items → Items
folded_item x ms rs = item (short_lead x.lead) (folded_at x.slot x.str) ms rs

abbrev seen_as : Slot → Lead → List ℕ → Seen
seen_as s l str = record { slot = s; lead = l; str = str }

folded_seen : (x y : Spot) (ms rs os ts : Items) → x.slot ≡ y.slot → folded_item x ms rs ≡ folded_item y os ts → seen x ≡ seen y
folded_seen x y ms rs os ts e f =
    let l : short_lead x.lead ≡ short_lead y.lead = cc in
    let s : folded_at x.slot x.str ≡ folded_at y.slot y.str = cc in
    ap (λ (z : Slot). seen_as z (short_lead x.lead) (folded_at x.slot x.str)) e
    ∙ ap (λ (z : Lead). seen_as y.slot z (folded_at x.slot x.str)) l
    ∙ ap (seen_as y.slot (short_lead y.lead)) s

-- an item, its members and what follows
module _ (x y : Spot) (sx : Sound x.lead) (sy : Sound y.lead) (e : x.slot ≡ y.slot) {ms os rs ts : Items} {xs ys us vs : List Spot} where
  against_item : (seen x ≡ seen y → Against ms os xs ys) → (seen x ≡ seen y → Against rs ts us vs)
      → Against (folded_item x ms rs) (folded_item y os ts) (x ∷ (xs ++ us)) (y ∷ (ys ++ vs))
  against_item p q = go (alike x y) refl
    where
      both : seen x ≡ seen y → ms ≡ os → rs ≡ ts → folded_item x ms rs ≡ folded_item y os ts
      both s f g =
          let l : short_lead x.lead ≡ short_lead y.lead = ap (λ (z : Seen). z.lead) s in
          let z : folded_at x.slot x.str ≡ folded_at y.slot y.str = ap (λ (z : Seen). z.str) s in
          cc

      inner : folded_item x ms rs ≡ folded_item y os ts → ms ≡ os
      inner f = cc

      outer : folded_item x ms rs ≡ folded_item y os ts → rs ≡ ts
      outer f = cc

      on : seen x ≡ seen y → alike x y ≡ true → Against ms os xs ys → Against rs ts us vs → Against (folded_item x ms rs) (folded_item y os ts) (x ∷ (xs ++ us)) (y ∷ (ys ++ vs))
      on s a (agree f h) (agree g k) = agree (both s f g) (pair_too (same_due e) a (likes_append h k))
      on s a (agree f h) (differ g k) = differ (λ z. g (outer z)) (later (same_due e) a (unlike_behind h k))
      on s a (differ f h) r = differ (λ z. f (inner z)) (later (same_due e) a (unlike_before us vs h))

      go : (t : Bool) → alike x y ≡ t → Against (folded_item x ms rs) (folded_item y os ts) (x ∷ (xs ++ us)) (y ∷ (ys ++ vs))
      go true a = let s = alike_seen x y sx sy e a in on s a (p s) (q s)
      go false a = differ (λ z. true≢false (sym (seen_alike x y (folded_seen x y ms rs os ts e z)) ∙ a)) (here (same_due e) a)

same_members : (x y : Spot) → x.slot ≡ y.slot → seen x ≡ seen y → members x.slot x.lead ≡ members y.slot y.lead
unfolding members
same_members x y e s = rw (e, seen_kind x y s, seen_arg x y s)

-- two runs of items where the same is due
against : (g h : Items) (v w : Level) (pg ph : List ℕ) (p q d e : ℕ) → v ≡ w → Fit g false v pg → Fit h false w ph
    → Against (folded g v) (folded h w) (spots g false v p d) (spots h false w q e)
against none none v w pg ph p q d e z f g = agree refl no_pair
against none (item k u os ts) v done pg ph p q d e z f g = absurd g
against none (item k u os ts) done (due s n) pg ph p q d e z f g = absurd (let c : ◌≡◌ {A = ℕ} 0 1 = cc in omega arith)
against none (item k u os ts) (due r m) (due s n) pg ph p q d e z f g = absurd f
against (item l t ms rs) none done w pg ph p q d e z f g = absurd f
against (item l t ms rs) none (due r m) done pg ph p q d e z f g = absurd (let c : ◌≡◌ {A = ℕ} 0 1 = cc in omega arith)
against (item l t ms rs) none (due r m) (due s n) pg ph p q d e z f g = absurd g
against (item l t ms rs) (item k u os ts) done w pg ph p q d e z f g = absurd f
against (item l t ms rs) (item k u os ts) (due r m) done pg ph p q d e z f g = absurd g
against (item l t ms rs) (item k u os ts) (due r m) (due s n) pg ph p q d e z f g =
    let x : Spot = spot_at r p d l t ms in
    let y : Spot = spot_at s q e k u os in
    let c : r ≡ s = cc in
    let o : m ≡ n = cc in
    against_item x y f.0.head g.0.head c
    (λ i. against ms os (members r l) (members s k) [] [] (inside_at p l t) (inside_at q k u) (suc d) (suc e) (same_members x y c i) f.1 g.1)
    (λ i. against rs ts ((rule r).next l.arg m) ((rule s).next k.arg n) _ _ (inside_at p l t + length (encode ms)) (inside_at q k u + length (encode os)) d e
    (rw (c, o, seen_arg x y i)) f.2 g.2)

-- A folded form is read back from its bytes, so that forms with the same bytes are the same tree.
folded_length : (s : Slot) (str : List ℕ) → length (folded_at s str) ≡ length str
folded_length s str = go (takes_name s)
  where
    go : (c : Bool) → length (cond c (folded_name str) str) ≡ length str
    go true = length-map str lower
    go false = refl

short_string : (l : Lead) → string_size (short_lead l) ≡ string_size l
unfolding string_size
short_string l = rw (short_kind l, short_arg l)

short_arity : (l : Lead) → arity (short_lead l) ≡ arity l
unfolding arity
short_arity l = rw (short_kind l, short_arg l)

trees_folded : (g : Items) (v : Level) (prev : List ℕ) → Fit g false v prev → trees (folded g v) ≡ trees g
trees_folded none v prev f = refl
trees_folded (item l s ms rs) done prev f = absurd f
trees_folded (item l s ms rs) (due t n) prev f = ap suc (trees_folded rs ((rule t).next l.arg n) _ f.2)

well_folded : (g : Items) (v : Level) (prev : List ℕ) → Fit g false v prev → Well g → Well (folded g v)
well_folded none v prev f w = tt
well_folded (item l s ms rs) done prev f w = absurd f
well_folded (item l s ms rs) (due t n) prev f w = (
  short_sound l w.0,
  folded_length t s ∙ (w.1 ∙ sym (short_string l)),
  trees_folded ms (members t l) [] f.1 ∙ (w.2 ∙ sym (short_arity l)),
  well_folded ms (members t l) [] f.1 w.3,
  well_folded rs ((rule t).next l.arg n) _ f.2 w.4,
)

well_part : (x : Spot) → Fitting x → Well (folded_part x)
well_part x f = (
  short_sound x.lead f.good.head,
  folded_length x.slot x.str ∙ (f.good.sized ∙ sym (short_string x.lead)),
  trees_folded x.inside (members x.slot x.lead) [] f.members_fit ∙ (f.full ∙ sym (short_arity x.lead)),
  well_folded x.inside (members x.slot x.lead) [] f.members_fit (well_fit x.inside false (members x.slot x.lead) [] f.members_fit),
  tt,
)

same_trees : (x y : Spot) → Fitting x → Fitting y → sameBytes (encode (folded_part x)) (encode (folded_part y)) ≡ true → folded_part x ≡ folded_part y
same_trees x y f g e =
    sym (decode_encode (folded_part x) (well_part x f))
    ∙ (ap decode (same_is (encode (folded_part x)) (encode (folded_part y)) e) ∙ decode_encode (folded_part y) (well_part y g))

-- a target's slot and a report's
pub data TargetOrReport (s : Slot) : Type 0 where
  is_target_lem : s ≡ target → TargetOrReport s
  is_report : s ≡ report → TargetOrReport s

target_or_report : (s : Slot) → is_target s ≡ true → TargetOrReport s
target_or_report version e = absurd (true≢false (sym e))
target_or_report (ari w) e = absurd (true≢false (sym e))
target_or_report (type w) e = absurd (true≢false (sym e))
target_or_report (value t w) e = absurd (true≢false (sym e))
target_or_report namespace e = absurd (true≢false (sym e))
target_or_report (object_namespace p) e = absurd (true≢false (sym e))
target_or_report (object_type p) e = absurd (true≢false (sym e))
target_or_report (object_id p) e = absurd (true≢false (sym e))
target_or_report params e = absurd (true≢false (sym e))
target_or_report (key w) e = absurd (true≢false (sym e))
target_or_report (entry w) e = absurd (true≢false (sym e))
target_or_report (nonce t) e = absurd (true≢false (sym e))
target_or_report set_time e = absurd (true≢false (sym e))
target_or_report target e = is_target_lem refl
target_or_report report e = is_report refl
target_or_report report_time e = absurd (true≢false (sym e))
target_or_report report_source e = absurd (true≢false (sym e))

pub same_slot : (s t : Slot) → is_target s ≡ true → is_target t ≡ true → eqb (slot_number s) (slot_number t) ≡ true → s ≡ t
unfolding slot_number
same_slot s t p q e = go (target_or_report s p) (target_or_report t q)
  where
    go : TargetOrReport s → TargetOrReport t → s ≡ t
    go (is_target_lem f) (is_target_lem g) = f ∙ sym g
    go (is_target_lem f) (is_report g) = absurd (true≢false (sym (rw (f, g) at e)))
    go (is_report f) (is_target_lem g) = absurd (true≢false (sym (rw (f, g) at e)))
    go (is_report f) (is_report g) = f ∙ sym g

-- The first two members, where the first holds nothing: items of these slots.
data Members (s t : Slot) : List Spot → Type 0 where
  two : {x y : Spot} {zs : List Spot} → fits x.lead.kind x.lead.arg (rule s).rows ≡ true → fits y.lead.kind y.lead.arg (rule t).rows ≡ true
      → Members s t (x ∷ (y ∷ zs))

two_members : (s t : Slot) (n m : ℕ) (g : Items) (prev : List ℕ) (p d : ℕ) → ((k a : ℕ) → fits k a (rule s).rows ≡ true → is_container k ≡ false)
    → ((a : ℕ) → (rule s).next a n ≡ due t m) → Fit g false (due s n) prev → Members s t (spots g false (due s n) p d)
two_members s t n m none prev p d leaf next f = absurd f
two_members s t n m (item l str ms rs) prev p d leaf next f =
    let e : members s l ≡ done = members_leaf s l (leaf l.kind l.arg f.0.fitting) in
    rw (e, next l.arg) (go ms rs (rw e at f.1) (rw (next l.arg) at f.2))
  where
    x : Spot
    x = spot_at s p d l str ms

    go : (os ts : Items) → Fit os false done [] → Fit ts false (due t m) (prev_after s prev l str)
        → Members s t (x ∷ (spots os false done (inside_at p l str) (suc d) ++ spots ts false (due t m) (inside_at p l str + length (encode ms)) d))
    go (item k u us vs) ts h i = absurd h
    go none none h i = absurd i
    go none (item k u us vs) h i = two {x = x} f.0.fitting i.0.fitting

-- A head that fits a row of none of two neighbouring kinds is of neither.
outside : (lo : ℕ) (rs : List Row) (k a : ℕ) → fits lo a rs ≡ false → fits (suc lo) a rs ≡ false → fits k a rs ≡ true → between lo (suc lo) k ≡ false
outside lo rs k a e f h = go (between lo (suc lo) k) refl
  where
    on : lo ≤ k → k ≤ suc lo → (z : Bool) → eqb k lo ≡ z → ⊥
    on l m true q = true≢false (sym (rw (eqb-true k lo q) at h) ∙ e)
    on l m false q = let n : k ≡ lo → ⊥ = eqb-false k lo q in let w : k ≡ suc lo = omega arith in true≢false (sym (rw w at h) ∙ f)

    go : (z : Bool) → between lo (suc lo) k ≡ z → between lo (suc lo) k ≡ false
    go true q = let (l, m) = within_true lo (suc lo) k q in absurd (on l m (eqb k lo) refl)
    go false q = q

either_false : (z : Bool) → (z || false) ≡ true → z ≡ true
either_false true e = refl
either_false false e = e

-- of a slot that takes arrays alone
one_row : (k a lo hi : ℕ) → fits k a (arrays lo hi ∷ []) ≡ true → (k ≡ array) × (lo ≤ a)
one_row k a lo hi e =
    let (q, w) = and-true (eqb k array) (between lo hi a) (either_false (eqb k array && between lo hi a) e) in
    (eqb-true k array q, (within_true lo hi a w).0)

module _ (x : Spot) (f : Fitting x) where
  target_members : x.slot ≡ target → (x.lead.kind ≡ array) × Members (object_namespace (eqb x.lead.arg 4)) (object_type (eqb x.lead.arg 4)) (within x)
  unfolding rule members is_container
  target_members e =
      let l : Lead = x.lead in
      let (k, a) = one_row l.kind l.arg 3 4 (rw e at f.good.fitting) in
      let v : members x.slot l ≡ due (object_namespace (eqb l.arg 4)) 0 = rw (e, k, ne_eqb l.arg 1 (λ q. omega arith)) in (
        k,
        rw v (two_members (object_namespace (eqb l.arg 4)) (object_type (eqb l.arg 4)) 0 0 x.inside [] (inside_at x.first l x.str) (suc x.around)
            (λ k a. outside array (rule (object_namespace (eqb l.arg 4))).rows k a refl refl) (λ a. refl) (rw v at f.members_fit)),
      )

  report_members : x.slot ≡ report → (x.lead.kind ≡ array) × Members report_time report_source (within x)
  unfolding rule members is_container
  report_members e =
      let l : Lead = x.lead in
      let (k, a) = one_row l.kind l.arg 2 max64 (rw e at f.good.fitting) in
      let v : members x.slot l ≡ due report_time (l.arg - 2) = rw (e, k) in (
        k,
        rw v (two_members report_time report_source (l.arg - 2) (l.arg - 2) x.inside [] (inside_at x.first l x.str) (suc x.around)
            (λ k a. outside array (rule report_time).rows k a refl refl) (λ a. refl) (rw v at f.members_fit)),
      )

unlike_third : {x y n m t u : Spot} {xs ys : List Spot} → Comparable x y → Comparable n m → (t.lead.kind ≡ u.lead.kind → ⊥)
    → Unlike (x ∷ (n ∷ (t ∷ xs))) (y ∷ (m ∷ (u ∷ ys)))
unfolding alike
unlike_third {x} {y} {n} {m} {t} {u} {xs} {ys} c d o = first (alike x y) refl
  where
    third : alike t u ≡ false
    third = rw (ne_eqb t.lead.kind u.lead.kind o)

    second : (z : Bool) → alike n m ≡ z → Unlike (n ∷ (t ∷ xs)) (m ∷ (u ∷ ys))
    second true e = later d e (here (no_strings (λ q. absurd (o q))) third)
    second false e = here d e

    first : (z : Bool) → alike x y ≡ z → Unlike (x ∷ (n ∷ (t ∷ xs))) (y ∷ (m ∷ (u ∷ ys)))
    first true e = later c e (second (alike n m) refl)
    first false e = here c e

-- a target beside a report, and a report beside a target
module _ (b : Bool) where
  not_an_array : (k a : ℕ) → fits k a (rule (object_type b)).rows ≡ true → k ≡ array → ⊥
  unfolding rule
  not_an_array k a h e = true≢false (sym (rw e at h))

  no_string : (k a : ℕ) → fits k a (rule report_time).rows ≡ true → between bytes text k ≡ false
  unfolding rule
  no_string k a h = outside bytes (rule report_time).rows k a refl refl h

  an_array : (k a : ℕ) → fits k a (rule report_source).rows ≡ true → k ≡ array
  unfolding rule
  an_array k a h = (one_row k a 3 4 h).0

  target_report : {x y : Spot} {xs ys : List Spot} → x.lead.kind ≡ array → Members (object_namespace b) (object_type b) xs → Members report_time report_source ys → Unlike (x ∷ xs) (y ∷ ys)
  target_report k (two {x = n} {y = t} g h) (two {x = m} {y = u} i j) =
      unlike_third (no_strings (λ e. rw k)) (no_strings (λ e. rw e (no_string m.lead.kind m.lead.arg i)))
      (λ e. not_an_array t.lead.kind t.lead.arg h (e ∙ an_array u.lead.kind u.lead.arg j))

  report_target : {x y : Spot} {xs ys : List Spot} → x.lead.kind ≡ array → Members report_time report_source xs → Members (object_namespace b) (object_type b) ys → Unlike (x ∷ xs) (y ∷ ys)
  report_target k (two {x = m} {y = u} i j) (two {x = n} {y = t} g h) =
      unlike_third (no_strings (λ e. rw k)) (no_strings (λ e. no_string m.lead.kind m.lead.arg i))
      (λ e. not_an_array t.lead.kind t.lead.arg h (sym e ∙ an_array u.lead.kind u.lead.arg j))

same_if : (u v : List ℕ) → u ≡ v → sameBytes u v ≡ true
same_if u v e = rw e (same_self v)

-- Two targets or reports: the same, and all items alike; or not, and two items of one number that differ.
pub data Paired (x y : Spot) : Type 0 where
  are_same : is_same_part x y ≡ true → Likes (items_of x) (items_of y) → Paired x y
  are_different : is_same_part x y ≡ false → Unlike (items_of x) (items_of y) → Paired x y

false_if : (t : Bool) → (t ≡ true → ⊥) → t ≡ false
false_if true n = absurd (n refl)
false_if false n = refl

module _ (x y : Spot) (f : Fitting x) (g : Fitting y) (p : is_target x.slot ≡ true) (q : is_target y.slot ≡ true) where
  side_by_side : x.slot ≡ y.slot → Against (folded_part x) (folded_part y) (items_of x) (items_of y)
  side_by_side e =
      let r : Against (folded_part x) (folded_part y) (x ∷ (within x ++ [])) (y ∷ (within y ++ []))
      = against_item x y f.good.head g.good.head e {xs = within x} {ys = within y}
      (λ i. against x.inside y.inside (members x.slot x.lead) (members y.slot y.lead) [] [] (inside_at x.first x.lead x.str) (inside_at y.first y.lead y.str) (suc x.around) (suc y.around) (same_members x y e i) f.members_fit g.members_fit)
      (λ i. agree refl no_pair) in
      rw (append-nil (within x), append-nil (within y)) at r

  of_two_kinds : (x.slot ≡ y.slot → ⊥) → TargetOrReport x.slot → TargetOrReport y.slot → Unlike (items_of x) (items_of y)
  of_two_kinds n (is_target_lem d) (is_target_lem e) = absurd (n (d ∙ sym e))
  of_two_kinds n (is_target_lem d) (is_report e) = let (k, ms) = target_members x f d in target_report (eqb x.lead.arg 4) k ms (report_members y g e).1
  of_two_kinds n (is_report d) (is_target_lem e) = let (k, ms) = report_members x f d in report_target (eqb y.lead.arg 4) k ms (target_members y g e).1
  of_two_kinds n (is_report d) (is_report e) = absurd (n (d ∙ sym e))

  pub paired : Paired x y
  unfolding is_same_part
  paired = go (eqb (slot_number x.slot) (slot_number y.slot)) refl
    where
      by : eqb (slot_number x.slot) (slot_number y.slot) ≡ true → Against (folded_part x) (folded_part y) (items_of x) (items_of y) → Paired x y
      by e (agree t l) = are_same (rw e (same_if (encode (folded_part x)) (encode (folded_part y)) (ap encode t))) l
      by e (differ n u) = are_different (false_if (is_same_part x y) (λ s. n (same_trees x y f g (rw e at s)))) u

      go : (t : Bool) → eqb (slot_number x.slot) (slot_number y.slot) ≡ t → Paired x y
      go true e = by e (side_by_side (same_slot x.slot y.slot p q e))
      go false e =
          are_different (rw e) (of_two_kinds (λ s. eqb-false (slot_number x.slot) (slot_number y.slot) e (ap slot_number s)) (target_or_report x.slot p) (target_or_report y.slot q))

-- the same by numbers
pub record AlikeTo (xs ys : List Spot) (k : ℕ) : Type 0 where
  pub pairs : (o : ℕ) → o < k → alike (get_or xs o no_spot) (get_or ys o no_spot) ≡ true

pub record UnlikeAt (xs ys : List Spot) (k : ℕ) : Type 0 where
  pub in_first : k < length xs
  pub in_second : k < length ys
  pub before : AlikeTo xs ys k
  pub there : alike (get_or xs k no_spot) (get_or ys k no_spot) ≡ false

alike_first : {x y : Spot} {xs ys : List Spot} {k : ℕ} → alike x y ≡ true → AlikeTo xs ys k → AlikeTo (x ∷ xs) (y ∷ ys) (suc k)
alike_first {x} {y} {xs} {ys} {k} a t = record { pairs = go }
  where
    go : (o : ℕ) → o < suc k → alike (get_or (x ∷ xs) o no_spot) (get_or (y ∷ ys) o no_spot) ≡ true
    go zero h = a
    go (suc o) h = t.pairs o (omega arith)

pub unlike_at : {xs ys : List Spot} → Unlike xs ys → UnlikeAt xs ys (alike_for xs ys)
unlike_at (here {x = x} {y = y} {xs = xs} {ys = ys} c a) =
    rw a (record { in_first = omega arith; in_second = omega arith; before = record { pairs = λ o h. absurd (omega arith) }; there = a })
unlike_at (later {x = x} {y = y} {xs = xs} {ys = ys} c a u) =
    let r = unlike_at u in
    rw a (record { in_first = omega (arith, r.in_first); in_second = omega (arith, r.in_second); before = alike_first a r.before; there = r.there })

pub likes_length : {xs ys : List Spot} → Likes xs ys → length xs ≡ length ys
likes_length no_pair = refl
likes_length (pair_too c a p) = ap suc (likes_length p)

pub likes_to : {xs ys : List Spot} → Likes xs ys → AlikeTo xs ys (length xs)
likes_to no_pair = record { pairs = λ o h. absurd (omega arith) }
likes_to (pair_too c a p) = alike_first a (likes_to p)

-- the pairs up to the first that differs may be compared
likes_comparable : {xs ys : List Spot} → Likes xs ys → (k : ℕ) → k < length xs → Comparable (get_or xs k no_spot) (get_or ys k no_spot)
likes_comparable no_pair k h = absurd (omega arith)
likes_comparable (pair_too c a p) zero h = c
likes_comparable (pair_too c a p) (suc k) h = likes_comparable p k (omega arith)

unlike_comparable : {xs ys : List Spot} → Unlike xs ys → (k : ℕ) → k ≤ alike_for xs ys → Comparable (get_or xs k no_spot) (get_or ys k no_spot)
unlike_comparable (here c a) zero h = c
unlike_comparable (here c a) (suc k) h = absurd (omega (arith, rw a at h))
unlike_comparable (later c a u) zero h = c
unlike_comparable (later c a u) (suc k) h = unlike_comparable u k (omega (arith, rw a at h))

-- k items are alike, and there may be more
module _ {x y : Spot} (p : Paired x y) {k : ℕ} (t : AlikeTo (items_of x) (items_of y) k) where
  abbrev first : ℕ
  first = alike_for (items_of x) (items_of y)

  not_past : UnlikeAt (items_of x) (items_of y) first → k ≤ first
  not_past u = go (ltb first k) refl
    where
      go : (c : Bool) → ltb first k ≡ c → k ≤ first
      go true e = absurd (true≢false (sym (t.pairs first (ltb-true first k e)) ∙ u.there))
      go false e = ltb-false first k e

  -- the second has another one if the first has
  pub further : k < length (items_of x) → k < length (items_of y)
  further h = go p
    where
      go : Paired x y → k < length (items_of y)
      go (are_same e l) = omega (arith, likes_length l)
      go (are_different e u) = omega (arith, not_past (unlike_at u), (unlike_at u).in_second)

  pub comparable : k < length (items_of x) → Comparable (get_or (items_of x) k no_spot) (get_or (items_of y) k no_spot)
  comparable h = go p
    where
      go : Paired x y → Comparable (get_or (items_of x) k no_spot) (get_or (items_of y) k no_spot)
      go (are_same e l) = likes_comparable l k h
      go (are_different e u) = unlike_comparable u k (not_past (unlike_at u))

  pub to_the_end : length (items_of x) ≤ k → is_same_part x y ≡ true
  to_the_end h = go p
    where
      go : Paired x y → is_same_part x y ≡ true
      go (are_same e l) = e
      go (are_different e u) = absurd (omega (arith, not_past (unlike_at u), (unlike_at u).in_first))

  pub up_to : k < length (items_of x) → alike (get_or (items_of x) k no_spot) (get_or (items_of y) k no_spot) ≡ false → (is_same_part x y ≡ false) × (first ≡ k)
  up_to h a = go p
    where
      same_place : UnlikeAt (items_of x) (items_of y) first → (c : Bool) → ltb k first ≡ c → first ≡ k
      same_place u true e = absurd (true≢false (sym (u.before.pairs k (ltb-true k first e)) ∙ a))
      same_place u false e = omega (arith, not_past u, ltb-false k first e)

      go : Paired x y → (is_same_part x y ≡ false) × (first ≡ k)
      go (are_same e l) = absurd (true≢false (sym ((likes_to l).pairs k h) ∙ a))
      go (are_different e u) = (e, same_place (unlike_at u) (ltb k first) refl)
