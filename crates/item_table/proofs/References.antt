-- The table of references alone. The idea: a place that is taken is written by nothing else, so a reference's word may come after those of the
-- references inside it.
use Prim.Native.Nat.{ℕ, zero, suc, ◌+◌, ◌-◌, ◌*◌, ◌/◌, ◌%◌, ◌≤◌, ◌<◌}
use mathlib.Core.Path.{◌≡◌, refl, sym, ◌∙◌, ap}
use mathlib.Core.Logic.{◌≢◌}
use mathlib.Core.Bool.{Bool, true, false, not, cond}
use mathlib.Core.List.{List, [], ◌∷◌, ◌++◌, map, map-append}
use native.Mathlib.Omega.{arith}
use lib.ListN.{length, get_or, set, length-set, length-map, get_or-eq_default}
use lib.Seq.{set_comm, set_out, set-set, get_or-set_same, get_or-set_other}
use lib.Dec.{ltb, eqb}
use borrow.Author.Tests.{lt-ltb, le-ltb, ltb-true, ltb-false, ne_eqb, eq-eqb, eqb-true, eqb-false, not-true, not-false}
use Rattle.ari.specs.Table.{is_reference}
use Rattle.ari.specs.declared.Limits.{Limits}
use Rattle.ari.specs.declared.Input.{Input}
use Rattle.ari.specs.Items.{Spot, spots_of}
use Rattle.ari.specs.Decode.{decode}
use Rattle.ari.specs.Rules.{Is}
use Rattle.ari.specs.Listing.{referring}
use Rattle.ari.proofs.Referring.{referring_append}
use Rattle.item_table.specs.declared.Item.{Item}
use Rattle.item_table.specs.Entries.{item_of, entry_of, packed, reference_by, no_spot}
use Rattle.item_table.specs.References.{has_room, place_in, reserved, filled, noted, place_for, reserved_for, latest, with_end, ended_by, ended, Referenced}
use Rattle.item_table.proofs.Entries.{get_d_entries}

-- a place is taken, way by way
module _ (i k a : ℕ) (t : List ℕ) where
  no_place : (x : Bool) → ◌≡◌ {A = ℕ} 0 (cond x 0 0)
  no_place true = refl
  no_place false = refl

  no_change : (x : Bool) → t ≡ cond x t t
  no_change true = refl
  no_change false = refl

  module _ (h : length t - 1 ≤ get_or t 0 0) where
    none : has_room t ≡ false
    none = le-ltb (get_or t 0 0 + 1) (length t) (omega arith)

    pub full_place : 0 ≡ place_for i k a t
    full_place = rw none (no_place (reference_by i k a))

    pub full_table : t ≡ reserved_for i k a t
    full_table = rw none (no_change (reference_by i k a))

  pub empty_place : length t ≡ 0 → 0 ≡ place_for i k a t
  empty_place h = full_place (omega arith)

  pub empty_table : length t ≡ 0 → t ≡ reserved_for i k a t
  empty_table h = full_table (omega arith)

  module _ {x : Bool} (e : x ≡ reference_by i k a) where
    pub other_place : not x ≡ true → 0 ≡ place_for i k a t
    other_place n = rw (← e, not-true x n)

    pub other_table : not x ≡ true → t ≡ reserved_for i k a t
    other_table n = rw (← e, not-true x n)

    module _ (n : not x ≡ false) (h : get_or t 0 0 < length t - 1) where
      pub taken_place : get_or t 0 0 + 1 ≡ place_for i k a t
      taken_place = rw (← e, not-false x n, lt-ltb (get_or t 0 0 + 1) (length t) (omega arith))

      pub taken_table : set t 0 (get_or t 0 0 + 1) ≡ reserved_for i k a t
      taken_table = rw (← e, not-false x n, lt-ltb (get_or t 0 0 + 1) (length t) (omega arith))

-- a word at its place
module _ (t : List ℕ) (k w : ℕ) where
  pub not_filled : k ≡ 0 → t ≡ filled t k w
  not_filled e = rw (eq-eqb k 0 e)

  pub filled_out : (k ≡ 0 → ⊥) → length t ≤ k → t ≡ filled t k w
  filled_out n h = rw (ne_eqb k 0 n) (sym (set_out t k w h))

  pub filled_in : (k ≡ 0 → ⊥) → {x : ℕ} → x ≡ w → set t k x ≡ filled t k w
  filled_in n e = rw (ne_eqb k 0 n, e)

-- references one after the other
pub noted_append : (t ws vs : List ℕ) → noted t (ws ++ vs) ≡ noted (noted t ws) vs
noted_append t [] vs = refl
noted_append t (w ∷ ws) vs = noted_append (filled (reserved t) (place_in t) w) ws vs

-- one more, with room for it and without
module _ (t : List ℕ) (w : ℕ) where
  one_more : get_or t 0 0 + 1 < length t → filled (reserved t) (place_in t) w ≡ set (set t 0 (get_or t 0 0 + 1)) (get_or t 0 0 + 1) w
  one_more h = let n : get_or t 0 0 + 1 ≡ 0 → ⊥ = λ e. omega arith in rw (lt-ltb (get_or t 0 0 + 1) (length t) h, ne_eqb (get_or t 0 0 + 1) 0 n)

  no_more : length t ≤ get_or t 0 0 + 1 → filled (reserved t) (place_in t) w ≡ t
  no_more h = rw (le-ltb (get_or t 0 0 + 1) (length t) h)

-- what two tables of one length and one number have in common
module _ (t : List ℕ) (j x : ℕ) (low : 0 < j) where
  pub same_number : get_or (set t j x) 0 0 ≡ get_or t 0 0
  same_number = get_or-set_other t j 0 x 0 (λ e. omega arith)

-- a place that is taken stays as it is
pub late : (t : List ℕ) (j x : ℕ) (ws : List ℕ) → 0 < j → j ≤ get_or t 0 0 → set (noted t ws) j x ≡ noted (set t j x) ws
late t j x [] low h = refl
late t j x (w ∷ ws) low h = go (ltb (get_or t 0 0 + 1) (length t)) refl (λ u. late u j x ws low)
  where
    n : ℕ
    n = get_or t 0 0 + 1

    number : get_or (set t j x) 0 0 ≡ get_or t 0 0
    number = same_number t j x low

    go : (y : Bool) → ltb (get_or t 0 0 + 1) (length t) ≡ y → ((u : List ℕ) → j ≤ get_or u 0 0 → set (noted u ws) j x ≡ noted (set u j x) ws)
        → set (noted t (w ∷ ws)) j x ≡ noted (set t j x) (w ∷ ws)
    go true e on =
        let r : get_or t 0 0 + 1 < length t = ltb-true (get_or t 0 0 + 1) (length t) e in
        let r' : get_or (set t j x) 0 0 + 1 < length (set t j x) = omega (arith, number, length-set t j x) in
        let u : List ℕ = set (set t 0 n) n w in
        let c : get_or u 0 0 ≡ n = same_number (set t 0 n) n w (omega arith) ∙ get_or-set_same t 0 n 0 (omega arith) in
        let apart : n ≢ j = λ q. omega arith in
        let apart₀ : 0 ≢ j = λ q. omega arith in
        let swap : set u j x ≡ set (set (set t j x) 0 n) n w =
        set_comm (set t 0 n) n j w x apart ∙ ap (λ (l : List ℕ). set l n w) (set_comm t 0 j n x apart₀) in
        rw (one_more t w r, one_more (set t j x) w r', number) (on u (omega arith) ∙ ap (λ (l : List ℕ). noted l ws) swap)
    go false e on =
        let r : length t ≤ get_or t 0 0 + 1 = ltb-false (get_or t 0 0 + 1) (length t) e in
        let r' : length (set t j x) ≤ get_or (set t j x) 0 0 + 1 = omega (arith, number, length-set t j x) in
        rw (no_more t w r, no_more (set t j x) w r') (on t h)

-- so a reference's word may be written behind those inside it
pub filled_late : (t : List ℕ) (w : ℕ) (ws : List ℕ) → filled (noted (reserved t) ws) (place_in t) w ≡ noted t (w ∷ ws)
filled_late t w ws = go (ltb (get_or t 0 0 + 1) (length t)) refl
  where
    go : (y : Bool) → ltb (get_or t 0 0 + 1) (length t) ≡ y → filled (noted (reserved t) ws) (place_in t) w ≡ noted t (w ∷ ws)
    go true e =
        let r : get_or t 0 0 + 1 < length t = ltb-true (get_or t 0 0 + 1) (length t) e in
        let n : get_or t 0 0 + 1 ≡ 0 → ⊥ = λ q. omega arith in
        let c : get_or (set t 0 (get_or t 0 0 + 1)) 0 0 ≡ get_or t 0 0 + 1 = get_or-set_same t 0 (get_or t 0 0 + 1) 0 (omega arith) in
        rw (e, ne_eqb (get_or t 0 0 + 1) 0 n) (late (set t 0 (get_or t 0 0 + 1)) (get_or t 0 0 + 1) w ws (omega arith) (omega arith))
    go false e = rw e

pub ruleset reserve_ways = (empty_place, empty_table, full_place, full_table, other_place, other_table, taken_place, taken_table)

pub ruleset fill_ways = (not_filled, filled_out, filled_in)

pub length_filled : (t : List ℕ) (k w : ℕ) → length (filled t k w) ≡ length t
length_filled t k w = go (eqb k 0)
  where
    go : (y : Bool) → length (cond y t (set t k w)) ≡ length t
    go true = refl
    go false = length-set t k w

pub length_reserved : (t : List ℕ) → length (reserved t) ≡ length t
length_reserved t = go (has_room t)
  where
    go : (y : Bool) → length (cond y (set t 0 (get_or t 0 0 + 1)) t) ≡ length t
    go true = length-set t 0 (get_or t 0 0 + 1)
    go false = refl

pub length_noted : (t ws : List ℕ) → length (noted t ws) ≡ length t
length_noted t [] = refl
length_noted t (w ∷ ws) = length_noted (filled (reserved t) (place_in t) w) ws ∙ length_filled (reserved t) (place_in t) w ∙ length_reserved t

-- An item with what is inside it and behind it: its own word, if it is a reference, stands in front of theirs.
pub item_noted : (t : List ℕ) (x : Spot) (xs ys : List Spot) (i k a w : ℕ) → is_reference x.slot x.lead ≡ reference_by i k a → (reference_by i k a ≡ true → w ≡ entry_of x)
    → noted (filled (noted (reserved_for i k a t) (map entry_of (referring xs))) (place_for i k a t) w) (map entry_of (referring ys))
    ≡ noted t (map entry_of (referring (x ∷ (xs ++ ys))))
item_noted t x xs ys i k a w e f = rw (e, referring_append xs ys) (go (reference_by i k a) f)
  where
    us : List ℕ
    us = map entry_of (referring xs)

    vs : List ℕ
    vs = map entry_of (referring ys)

    go : (y : Bool) → (y ≡ true → w ≡ entry_of x)
        → noted (filled (noted (cond y (reserved t) t) us) (cond y (place_in t) 0) w) vs
        ≡ noted t (map entry_of (cond y (x ∷ (referring xs ++ referring ys)) (referring xs ++ referring ys)))
    go true q =
        rw (q refl, map-append entry_of (referring xs) (referring ys), filled_late t (entry_of x) us)
        (sym (noted_append (filled (reserved t) (place_in t) (entry_of x)) us vs))
    go false q = rw (map-append entry_of (referring xs) (referring ys)) (sym (noted_append t us vs))

-- With room for all of them the table has each word behind those before it.
module _ (t : List ℕ) (w : ℕ) (h : get_or t 0 0 + 1 < length t) where
  number_more : get_or (set (set t 0 (get_or t 0 0 + 1)) (get_or t 0 0 + 1) w) 0 0 ≡ get_or t 0 0 + 1
  number_more = same_number (set t 0 (get_or t 0 0 + 1)) (get_or t 0 0 + 1) w (omega arith) ∙ get_or-set_same t 0 (get_or t 0 0 + 1) 0 (omega arith)

  length_more : length (set (set t 0 (get_or t 0 0 + 1)) (get_or t 0 0 + 1) w) ≡ length t
  length_more = length-set (set t 0 (get_or t 0 0 + 1)) (get_or t 0 0 + 1) w ∙ length-set t 0 (get_or t 0 0 + 1)

  word_more : get_or (set (set t 0 (get_or t 0 0 + 1)) (get_or t 0 0 + 1) w) (get_or t 0 0 + 1) 0 ≡ w
  word_more = get_or-set_same (set t 0 (get_or t 0 0 + 1)) (get_or t 0 0 + 1) w 0 (omega (arith, length-set t 0 (get_or t 0 0 + 1)))

noted_number : (t ws : List ℕ) → get_or t 0 0 + length ws < length t → get_or (noted t ws) 0 0 ≡ get_or t 0 0 + length ws
noted_number t [] h = omega arith
noted_number t (w ∷ ws) h =
    let r : get_or t 0 0 + 1 < length t = omega arith in
    let u : List ℕ = set (set t 0 (get_or t 0 0 + 1)) (get_or t 0 0 + 1) w in
    let n : get_or u 0 0 ≡ get_or t 0 0 + 1 = number_more t w r in
    rw (one_more t w r) (noted_number u ws (omega (arith, n, length_more t w r)) ∙ omega (arith, n))

-- a place that is taken is read as it was
noted_before : (t : List ℕ) (j : ℕ) (ws : List ℕ) → 0 < j → j ≤ get_or t 0 0 → get_or t 0 0 + length ws < length t → get_or (noted t ws) j 0 ≡ get_or t j 0
noted_before t j [] low h r = refl
noted_before t j (w ∷ ws) low h r =
    let n : ℕ = get_or t 0 0 + 1 in
    let q : get_or t 0 0 + 1 < length t = omega arith in
    let u : List ℕ = set (set t 0 n) n w in
    let c : get_or u 0 0 ≡ n = number_more t w q in
    rw (one_more t w q)
    (noted_before u j ws low (omega arith) (omega (arith, c, length_more t w q)) ∙ get_or-set_other (set t 0 n) n j w 0 (λ e. omega arith) ∙ get_or-set_other t 0 j n 0 (λ e. omega arith))

noted_at : (t ws : List ℕ) (k : ℕ) → get_or t 0 0 + length ws < length t → k < length ws → get_or (noted t ws) (suc (get_or t 0 0 + k)) 0 ≡ get_or ws k 0
noted_at t [] k r h = absurd (omega arith)
noted_at t (w ∷ ws) zero r h =
    let q : get_or t 0 0 + 1 < length t = omega arith in
    let u : List ℕ = set (set t 0 (get_or t 0 0 + 1)) (get_or t 0 0 + 1) w in
    let c : get_or u 0 0 ≡ get_or t 0 0 + 1 = number_more t w q in
    let e : suc (get_or t 0 0 + 0) ≡ get_or t 0 0 + 1 = omega arith in
    rw (one_more t w q, e) (noted_before u (get_or t 0 0 + 1) ws (omega arith) (omega arith) (omega (arith, c, length_more t w q)) ∙ word_more t w q)
noted_at t (w ∷ ws) (suc k) r h =
    let q : get_or t 0 0 + 1 < length t = omega arith in
    let u : List ℕ = set (set t 0 (get_or t 0 0 + 1)) (get_or t 0 0 + 1) w in
    let c : get_or u 0 0 ≡ get_or t 0 0 + 1 = number_more t w q in
    let e : suc (get_or t 0 0 + suc k) ≡ suc (get_or u 0 0 + k) = omega arith in
    rw (one_more t w q, e) (noted_at u ws k (omega (arith, c, length_more t w q)) (omega arith))

-- The references that were noted from the front are the table, if there was room for each.
pub noted_table : {m : Limits} {i : Input} {b : List ℕ} {n : ℕ} (t : List ℕ) {t' : List ℕ} → Is m i b (decode b) n → m.bytes < 65536 → m.containers < 256
    → length (referring (spots_of i (decode b))) < length t → t' ≡ noted (set t 0 0) (map entry_of (referring (spots_of i (decode b)))) → Referenced m i b n t'
noted_table {m} {i} {b} {n} t {t'} c s d room e =
    let xs : List Spot = referring (spots_of i (decode b)) in
    let ws : List ℕ = map entry_of xs in
    let z : List ℕ = set t 0 0 in
    let lw : length ws ≡ length xs = length-map xs entry_of in
    let lz : length z ≡ length t = length-set t 0 0 in
    let zero_is : get_or z 0 0 ≡ 0 = get_or-set_same t 0 0 0 (omega arith) in
    let fits : get_or z 0 0 + length ws < length z = omega arith in
    record {
      is = c;
      small = s;
      shallow = d;
      room = rw (e, length_noted z ws, lz) room;
      number = rw e (noted_number z ws fits ∙ omega arith);
      kept = λ k h.
          let f : suc (get_or z 0 0 + k) ≡ suc k = omega arith in
          rw (e, ← f) (noted_at z ws k fits (omega arith) ∙ get_d_entries xs k no_spot h);
    }

-- References that wait for their end. More steps than places change nothing.
more_steps : (n m k a : ℕ) (t : List ℕ) → k ≤ n → k ≤ m → ended_by n k a t ≡ ended_by m k a t
more_steps zero zero k a t h g = refl
more_steps zero (suc m) k a t h g = rw (eq-eqb k 0 (omega arith))
more_steps (suc n) zero k a t h g = rw (eq-eqb k 0 (omega arith))
more_steps (suc n) (suc m) k a t h g = go (eqb k 0) (ltb b k) refl (λ q. more_steps n m b a (set t k (with_end w a)) (omega arith) (omega arith))
  where
    w : ℕ
    w = get_or t k 0

    b : ℕ
    b = w / 65536 % 65536

    go : (x y : Bool) → ltb b k ≡ y → (b < k → ended_by n b a (set t k (with_end w a)) ≡ ended_by m b a (set t k (with_end w a)))
        → cond x t (cond y (ended_by n b a (set t k (with_end w a))) (set t k (with_end w a))) ≡ cond x t (cond y (ended_by m b a (set t k (with_end w a))) (set t k (with_end w a)))
    go true y e f = refl
    go false true e f = f (ltb-true b k e)
    go false false e f = refl

-- The loop over them: what is left to do gives the whole.
pub record Ending (t₀ : List ℕ) (p a k : ℕ) (t : List ℕ) : Type 0 where
  pub steps : ℕ
  pub enough : k ≤ steps
  pub same : ended t₀ p a ≡ ended_by steps k a t
  pub lengths : length t ≡ length t₀

pub ending : (t : List ℕ) (p a : ℕ) → Ending t p a p t
ending t p a = record { steps = p; enough = omega arith; same = refl; lengths = refl }

module _ (t₀ : List ℕ) (p a k : ℕ) (t : List ℕ) (i : Ending t₀ p a k t) where
  none_left : (n : ℕ) → k ≡ 0 → ended_by n k a t ≡ t
  none_left zero e = refl
  none_left (suc n) e = rw (eq-eqb k 0 e)

  pub all_ended : k ≡ 0 → t ≡ ended t₀ p a
  all_ended e = sym (i.same ∙ none_left i.steps e)

  module _ (n : k ≡ 0 → ⊥) where
    abbrev w : ℕ
    w = get_or t k 0

    abbrev b : ℕ
    b = w / 65536 % 65536

    one_step : (s : ℕ) → k ≤ s → ended_by s k a t ≡ cond (ltb b k) (ended_by (s - 1) b a (set t k (with_end w a))) (set t k (with_end w a))
    one_step zero h = absurd (n (omega arith))
    one_step (suc s) h = let e : suc s - 1 ≡ s = omega arith in rw (ne_eqb k 0 n, e)

    pub past_the_end : length t ≤ k → t ≡ ended t₀ p a
    past_the_end h =
        let z : w ≡ 0 = get_or-eq_default t 0 h in
        let e : ltb b k ≡ true = lt-ltb b k (omega arith) in
        sym (i.same ∙ one_step i.steps i.enough ∙ rw (e, set_out t k (with_end w a) h) (done (i.steps - 1) (omega arith)))
      where
        done : (s : ℕ) → get_or t k 0 / 65536 % 65536 ≡ 0 → ended_by s (get_or t k 0 / 65536 % 65536) a t ≡ t
        done zero e = refl
        done (suc s) e = rw e

    module _ {e : ℕ} (es : e ≡ with_end w a) {x : Item} (ex : x ≡ item_of w) where
      before : x.after ≡ b
      unfolding item_of
      before = ap (λ (y : Item). y.after) ex

      pub last_ended : k ≤ x.after → set t k e ≡ ended t₀ p a
      last_ended h = sym (i.same ∙ one_step i.steps i.enough ∙ rw (le-ltb b k (omega (arith, before)), es))

      pub next_ending : x.after < k → Ending t₀ p a x.after (set t k e)
      next_ending h = record {
        steps = i.steps - 1;
        enough = omega (arith, i.enough);
        same = i.same ∙ one_step i.steps i.enough ∙ rw (lt-ltb b k (omega (arith, before)), es, before);
        lengths = length-set t k e ∙ i.lengths;
      }

pub none_ended : (t : List ℕ) (p a : ℕ) → p ≡ 0 → t ≡ ended t p a
none_ended t p a e = all_ended t p a p t (ending t p a) e

-- which waits last
module _ (k before : ℕ) where
  pub still_last : k ≡ 0 → before ≡ latest k before
  still_last e = rw (eq-eqb k 0 e)

  pub now_last : (k ≡ 0 → ⊥) → k ≡ latest k before
  now_last n = rw (ne_eqb k 0 n)

pub ruleset wait_ways = (still_last, now_last, not_filled, filled_out, filled_in)

pub ruleset endings = (none_ended, ending, all_ended, past_the_end, last_ended, next_ending)

-- a word with another end is that word
pub with_end_lem : (f b a r s z : ℕ) → with_end (packed f b r s z) a ≡ packed f a r s z
with_end_lem f b a r s z = omega arith

pub link_of : (f b r s z : ℕ) → b < 65536 → packed f b r s z / 65536 % 65536 ≡ b
link_of f b r s z h = omega arith

-- A reference that waits for its end, with those before it: when it gets it the others do.
pub ends_with : (t : List ℕ) (j k a f r s z : ℕ) (ws : List ℕ) → 0 < j → j ≤ get_or t 0 0 → j < length t → k < j → k < 65536
    → ended (noted (set t j (packed f k r s z)) ws) j a ≡ ended (set (noted t ws) j (packed f a r s z)) k a
ends_with t j k a f r s z ws low h room less small =
    let n : List ℕ = noted t ws in
    let e : noted (set t j (packed f k r s z)) ws ≡ set n j (packed f k r s z) = sym (late t j (packed f k r s z) ws low h) in
    let there : get_or (set n j (packed f k r s z)) j 0 ≡ packed f k r s z = get_or-set_same n j (packed f k r s z) 0 (omega (arith, length_noted t ws)) in
    rw e (go j refl there)
  where
    go : (m : ℕ) → j ≡ m → get_or (set (noted t ws) j (packed f k r s z)) j 0 ≡ packed f k r s z
        → ended_by m j a (set (noted t ws) j (packed f k r s z)) ≡ ended (set (noted t ws) j (packed f a r s z)) k a
    go zero em there = absurd (omega arith)
    go (suc m) em there =
        rw (ne_eqb j 0 (λ q. omega arith), there, link_of f k r s z small, lt-ltb k j less, with_end_lem f k a r s z, set-set (noted t ws) j (packed f k r s z) (packed f a r s z))
        (more_steps m k k a (set (noted t ws) j (packed f a r s z)) (omega arith) (omega arith))

-- the number of references does not fall
noted_grows : (t ws : List ℕ) → get_or t 0 0 ≤ get_or (noted t ws) 0 0
noted_grows t [] = omega arith
noted_grows t (w ∷ ws) = go (ltb (get_or t 0 0 + 1) (length t)) refl (noted_grows (filled (reserved t) (place_in t) w) ws)
  where
    go : (y : Bool) → ltb (get_or t 0 0 + 1) (length t) ≡ y → get_or (filled (reserved t) (place_in t) w) 0 0 ≤ get_or (noted t (w ∷ ws)) 0 0 → get_or t 0 0 ≤ get_or (noted t (w ∷ ws)) 0 0
    go true e h =
        let r : get_or t 0 0 + 1 < length t = ltb-true (get_or t 0 0 + 1) (length t) e in
        omega (arith, h, ap (λ (l : List ℕ). get_or l 0 0) (one_more t w r), number_more t w r)
    go false e h =
        let r : length t ≤ get_or t 0 0 + 1 = ltb-false (get_or t 0 0 + 1) (length t) e in
        omega (arith, h, ap (λ (l : List ℕ). get_or l 0 0) (no_more t w r))

-- the last that waits has its place, and a word can name it
pub record Pending (k : ℕ) (t : List ℕ) : Type 0 where
  pub placed : k ≤ get_or t 0 0
  pub small : k < 65536

pub none_waits : (t : List ℕ) → Pending 0 t
none_waits t = record { placed = omega arith; small = omega arith }

-- what a place tells of the table
module _ (i k a : ℕ) (t : List ℕ) where
  taken_room : (x : Bool) → has_room t ≡ x → (y : Bool) → (cond y (place_in t) 0 ≡ 0 → ⊥) → (y ≡ true) × (get_or t 0 0 + 1 < length t)
  taken_room true e true n = (refl, ltb-true (get_or t 0 0 + 1) (length t) e)
  taken_room true e false n = absurd (n refl)
  taken_room false e true n = absurd (n (rw e))
  taken_room false e false n = absurd (n refl)

  module _ {j : ℕ} (at : j ≡ place_for i k a t) {u : List ℕ} (taken : u ≡ reserved_for i k a t) where
    not_taken : j ≡ 0 → u ≡ t
    not_taken e = taken ∙ go (has_room t) refl (reference_by i k a) (sym at ∙ e)
      where
        go : (x : Bool) → has_room t ≡ x → (y : Bool) → cond y (place_in t) 0 ≡ 0 → cond y (reserved t) t ≡ t
        go true e true z = absurd (let w : get_or t 0 0 + 1 ≡ 0 = rw e at z in omega arith)
        go true e false z = refl
        go false e true z = rw e
        go false e false z = refl

    module _ (n : j ≡ 0 → ⊥) where
      room : (reference_by i k a ≡ true) × (get_or t 0 0 + 1 < length t)
      room = taken_room (has_room t) refl (reference_by i k a) (λ z. n (at ∙ z))

      place_is : j ≡ get_or t 0 0 + 1
      place_is = at ∙ rw (room.0, lt-ltb (get_or t 0 0 + 1) (length t) room.1)

      table_is : u ≡ set t 0 (get_or t 0 0 + 1)
      table_is = taken ∙ rw (room.0, lt-ltb (get_or t 0 0 + 1) (length t) room.1)

      number_is : get_or u 0 0 ≡ j
      number_is = ap (λ (l : List ℕ). get_or l 0 0) table_is ∙ get_or-set_same t 0 (get_or t 0 0 + 1) 0 (let r = room.1 in omega arith) ∙ sym place_is

      length_is : length u ≡ length t
      length_is = ap length table_is ∙ length-set t 0 (get_or t 0 0 + 1)

    -- a container that waits: when it gets its end those before it do
    module _ {pend : ℕ} (waits : Pending pend t) (f r s z : ℕ) {u₁ : List ℕ} (fill : u₁ ≡ filled u j (packed f pend r s z)) {pend₁ : ℕ} (last : pend₁ ≡ latest j pend) where
      pub all_get_it : (q : ℕ) (ws : List ℕ) → ended (noted u₁ ws) pend₁ q ≡ ended (filled (noted u ws) j (packed f q r s z)) pend q
      all_get_it q ws = go (eqb j 0) refl
        where
          go : (x : Bool) → eqb j 0 ≡ x → ended (noted u₁ ws) pend₁ q ≡ ended (filled (noted u ws) j (packed f q r s z)) pend q
          go true e = rw (fill, last, e)
          go false e =
              let n : j ≡ 0 → ⊥ = eqb-false j 0 e in
              rw (fill, last, e)
              (ends_with u j pend q f r s z ws (omega (arith, n)) (omega (arith, number_is n)) (omega (arith, length_is n, place_is n, (room n).1)) (omega (arith, place_is n, waits.placed)) waits.small)

      pub still_waits : j < 65536 → Pending pend₁ u₁
      still_waits h = go (eqb j 0) refl
        where
          go : (x : Bool) → eqb j 0 ≡ x → Pending pend₁ u₁
          go true e = rw (fill, last, e, not_taken (eqb-true j 0 e)) waits
          go false e =
              let n : j ≡ 0 → ⊥ = eqb-false j 0 e in
              rw (fill, last, e)
              (record { placed = omega (arith, same_number u j (packed f pend r s z) (omega (arith, n)), number_is n); small = h })

    -- one that gets its end at once: those before it go on waiting
    module _ {pend : ℕ} (waits : Pending pend t) where
      grown : get_or t 0 0 ≤ get_or u 0 0
      grown = go (eqb j 0) refl
        where
          go : (x : Bool) → eqb j 0 ≡ x → get_or t 0 0 ≤ get_or u 0 0
          go true e = omega (arith, ap (λ (l : List ℕ). get_or l 0 0) (not_taken (eqb-true j 0 e)))
          go false e = let n : j ≡ 0 → ⊥ = eqb-false j 0 e in omega (arith, number_is n, place_is n)

      pub waits_on : (ws : List ℕ) {u₁ : List ℕ} → u₁ ≡ noted u ws → (v : ℕ) {u₂ : List ℕ} → u₂ ≡ filled u₁ j v → Pending pend u₂
      waits_on ws {u₁} e v {u₂} g = record { placed = omega (arith, waits.placed, grown, more, kept); small = waits.small }
        where
          more : get_or u 0 0 ≤ get_or u₁ 0 0
          more = rw e (noted_grows u ws)

          kept : get_or u₂ 0 0 ≡ get_or u₁ 0 0
          kept = rw g (go (eqb j 0) refl)
            where
              go : (x : Bool) → eqb j 0 ≡ x → get_or (cond x u₁ (set u₁ j v)) 0 0 ≡ get_or u₁ 0 0
              go true q = refl
              go false q = let n : j ≡ 0 → ⊥ = eqb-false j 0 q in same_number u₁ j v (omega (arith, n))
