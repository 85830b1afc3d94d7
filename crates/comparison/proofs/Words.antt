-- The words of an item table and the targets and reports of its message: counted, found one after the other, each at its item's number.
use Prim.Native.Nat.{ℕ, zero, suc, ◌+◌, ◌-◌, ◌≤◌, ◌<◌, max}
use mathlib.Core.Path.{◌≡◌, refl, sym, ◌∙◌, ap}
use mathlib.Core.Bool.{Bool, true, false, cond}
use mathlib.Core.List.{List, [], ◌∷◌}
use native.Mathlib.Omega.{arith}
use native.Mathlib.Numerals.{add-one}
use native.Mathlib.Nat.{zero-add}
use lib.ListN.{length, get_or, drop}
use lib.Seq.{drop-cons, drop-length}
use lib.Dec.{ltb}
use borrow.Author.Tests.{ltb-true, ltb-false, lt-ltb, le-ltb}
use Rattle.ari.specs.declared.Limits.{Limits}
use Rattle.ari.specs.declared.Input.TheVariants.{Message}
use Rattle.ari.specs.Items.{Spot, spots_of}
use Rattle.ari.specs.Decode.{decode}
use Rattle.ari.specs.Targets.{is_target}
use Rattle.ari.proofs.Spots.{spot_count}
use Rattle.item_table.specs.declared.Item.{Item}
use Rattle.item_table.specs.Entries.{item_of, no_spot, spot_number, Tabled}
use Rattle.item_table.proofs.Entries.{item_at, fewer_than_bytes}
use Rattle.item_records.specs.Numbered.{is_target_by}
use Rattle.item_records.proofs.Counting.{slot_back}
use Rattle.comparison.specs.Comparison.{Part, parts_from, parts, compared}
use Rattle.comparison.specs.Code.{Table, whole, is_target_word, targets_in, next_from, next_target, target_behind, Reached, part_at}

pub word_ways : (w : ℕ) {x : Item} → x ≡ item_of w → {r : Bool} → r ≡ is_target_by x.slot → r ≡ is_target_word w
word_ways w e f = f ∙ rw e

no_words : (t : List ℕ) (k : ℕ) → k ≡ length t → drop k t ≡ []
no_words t k e = rw e (drop-length t)

-- a loop that counts
pub record Counted (t : List ℕ) (k n : ℕ) : Type 0 where
  pub so_far : targets_in t ≡ n + targets_in (drop k t)
  pub few : n ≤ k

module _ (t : List ℕ) where
  pub counted_none : Counted t 0 0
  counted_none = record { so_far = sym (zero-add (targets_in t)); few = omega arith }

  module _ {k n : ℕ} (c : Counted t k n) where
    pub counted_all : length t ≤ k → k ≤ length t → n ≡ targets_in t
    counted_all h l = let d : drop k t ≡ [] = no_words t k (omega arith) in sym (c.so_far ∙ rw d (omega arith))

    module _ (h : k < length t) {r : Bool} (e : r ≡ is_target_word (get_or t k 0)) where
      pub counted_one : r ≡ true → Counted t (k + 1) (n + 1)
      counted_one q = record { so_far = c.so_far ∙ rw (drop-cons t k 0 h, ← e, q, add-one k) (omega arith); few = omega (arith, c.few) }

      pub counted_over : r ≡ false → Counted t (k + 1) n
      counted_over q = record { so_far = c.so_far ∙ rw (drop-cons t k 0 h, ← e, q, add-one k); few = omega (arith, c.few) }

pub ruleset counts = (counted_none, counted_all, counted_one, counted_over)

-- a loop that looks for the next one
pub record Looking (t : List ℕ) (from k : ℕ) : Type 0 where
  pub none_yet : next_target t from ≡ next_target t k

module _ (t : List ℕ) where
  pub looking_start : (k : ℕ) → Looking t k k
  looking_start k = record { none_yet = refl }

  module _ {from k : ℕ} (c : Looking t from k) where
    pub looked_all : length t ≤ k → k ≤ length t → k ≡ next_target t from
    looked_all h l = let d : drop k t ≡ [] = no_words t k (omega arith) in sym (c.none_yet ∙ rw d)

    module _ (h : k < length t) {r : Bool} (e : r ≡ is_target_word (get_or t k 0)) where
      pub looked_there : r ≡ true → k ≡ next_target t from
      looked_there q = sym (c.none_yet ∙ rw (drop-cons t k 0 h, ← e, q))

      pub looking_on : r ≡ false → Looking t from (k + 1)
      looking_on q = record { none_yet = c.none_yet ∙ rw (drop-cons t k 0 h, ← e, q, add-one k) }

pub ruleset looks = (looking_start, looked_all, looked_there, looking_on)

module _ (t : List ℕ) (k : ℕ) where
  pub behind_one : k < length t → {r : ℕ} → r ≡ next_target t (k + 1) → r ≡ target_behind t k
  behind_one h e = e ∙ rw (lt-ltb k (length t) h, add-one k)

  pub behind_all : length t ≤ k → k ≡ target_behind t k
  behind_all h = rw (le-ltb k (length t) h)

pub ruleset behinds = (behind_one, behind_all)

next_from_lem : (k : ℕ) (ws : List ℕ) → k ≤ next_from k ws
next_from_lem k [] = omega arith
next_from_lem k (w ∷ ws) = go (is_target_word w) (next_from_lem (suc k) ws)
  where
    go : (r : Bool) → suc k ≤ next_from (suc k) ws → k ≤ cond r k (next_from (suc k) ws)
    go true h = omega arith
    go false h = omega arith

module _ (t : List ℕ) (k : ℕ) where
  pub behind_later : k ≤ target_behind t k
  behind_later = go (ltb k (length t))
    where
      go : (r : Bool) → k ≤ cond r (next_target t (suc k)) k
      go true = omega (arith, next_from_lem (suc k) (drop (suc k) t))
      go false = omega arith

  pub behind_further : k < length t → k < target_behind t k
  behind_further h = rw (lt-ltb k (length t) h) (omega (arith, next_from_lem (suc k) (drop (suc k) t)))

-- the targets and reports from item k on
abbrev pub parts_at : List ℕ → ℕ → List Part
parts_at b k = parts_from k (drop k (spots_of Message (decode b)))

pub record Skipped (b t : List ℕ) (k r : ℕ) : Type 0 where
  pub parts_are : parts_at b k ≡ parts_at b r
  pub reached : Reached b t r

-- what is reached: a target or report and those behind it, or nothing more
pub data Standing (b t : List ℕ) (k : ℕ) : Type 0 where
  one : k < length t → parts_at b k ≡ part_at b k ∷ parts_at b (target_behind t k) → Standing b t k
  over : length t ≤ k → parts_at b k ≡ [] → parts_at b (target_behind t k) ≡ [] → Standing b t k

-- the table opened
pub record Opened (b t : List ℕ) : Type 0 where
  pub limits : Limits
  pub tabled : Tabled limits Message b (length t) t

pub open_table : {b t : List ℕ} → Table b t → Opened b t
open_table (whole {m} h) = record { limits = m; tabled = h }

module _ {b t : List ℕ} (w : Table b t) where
  c : Opened b t
  c = open_table w

  abbrev xs : List Spot
  xs = spots_of Message (decode b)

  pub count_is : length xs ≡ length t
  count_is = spot_count c.tabled.is

  pub few_words : length t < 65536
  few_words = omega (arith, fewer_than_bytes c.tabled.is, c.tabled.is.short, c.tabled.small)

  word_is : (k : ℕ) → k < length t → is_target_word (get_or t k 0) ≡ is_target (spot_number Message b k).slot
  word_is k h = rw (item_at c.tabled k h) (slot_back c.tabled k h)

  at_target : (k : ℕ) → k < length t → is_target (spot_number Message b k).slot ≡ true → parts_at b k ≡ part_at b k ∷ parts_at b (suc k)
  at_target k h e = let l : k < length xs = omega (arith, count_is) in rw (drop-cons xs k no_spot l, e)

  at_other : (k : ℕ) → k < length t → is_target (spot_number Message b k).slot ≡ false → parts_at b k ≡ parts_at b (suc k)
  at_other k h e = let l : k < length xs = omega (arith, count_is) in rw (drop-cons xs k no_spot l, e)

  at_end : (k : ℕ) → k ≡ length t → parts_at b k ≡ []
  at_end k e = let z : k ≡ length xs = e ∙ sym count_is in let d : drop k xs ≡ [] = rw z (drop-length xs) in rw d

  skipped_from : (n k : ℕ) → n + k ≡ length t → Skipped b t k (next_target t k)
  skipped_from zero k e =
      let d : drop k t ≡ [] = no_words t k (omega arith) in
      rw d (record { parts_are = refl; reached = record { inside = omega arith; is_one = λ h. absurd (omega arith) } })
  skipped_from (suc n) k e = go (is_target_word (get_or t k 0)) refl (skipped_from n (suc k) (omega arith))
    where
      l : k < length t
      l = omega arith

      go : (r : Bool) → is_target_word (get_or t k 0) ≡ r → Skipped b t (suc k) (next_target t (suc k)) → Skipped b t k (next_target t k)
      go true q s =
          rw (drop-cons t k 0 l, q) (record { parts_are = refl; reached = record { inside = omega (arith, l); is_one = λ h. sym (word_is k l) ∙ q } })
      go false q s = rw (drop-cons t k 0 l, q) (record { parts_are = at_other k l (sym (word_is k l) ∙ q) ∙ s.parts_are; reached = s.reached })

  skipped : (k : ℕ) → k ≤ length t → Skipped b t k (next_target t k)
  skipped k h = skipped_from (length t - k) k (omega arith)

  pub reached_first : {r : ℕ} → r ≡ next_target t 0 → Reached b t r
  reached_first e = rw e (skipped 0 (omega arith)).reached

  pub parts_first : {r : ℕ} → r ≡ next_target t 0 → parts b ≡ parts_at b r
  unfolding parts
  parts_first e = rw e (skipped 0 (omega arith)).parts_are

  module _ {k : ℕ} (r : Reached b t k) where
    pub reached_behind : {i : ℕ} → i ≡ target_behind t k → Reached b t i
    reached_behind e = rw e (go (ltb k (length t)) refl)
      where
        go : (z : Bool) → ltb k (length t) ≡ z → Reached b t (cond z (next_target t (suc k)) k)
        go true q = let l = ltb-true k (length t) q in (skipped (suc k) (omega arith)).reached
        go false q = r

    pub standing : Standing b t k
    standing = go (ltb k (length t)) refl
      where
        go : (z : Bool) → ltb k (length t) ≡ z → Standing b t k
        go true q =
            let l : k < length t = ltb-true k (length t) q in
            one l (at_target k l (r.is_one l) ∙ rw q (ap (λ (ps : List Part). part_at b k ∷ ps) (skipped (suc k) (omega arith)).parts_are))
        go false q =
            let l : length t ≤ k = ltb-false k (length t) q in
            let e : k ≡ length t = omega (arith, r.inside) in
            over l (at_end k e) (rw q (at_end k e))

  parts_count : (n k : ℕ) → n + k ≡ length t → length (parts_at b k) ≡ targets_in (drop k t)
  parts_count zero k e =
      let z : k ≡ length t = omega arith in
      let d : drop k t ≡ [] = no_words t k z in
      rw (d, at_end k z)
  parts_count (suc n) k e = go (is_target_word (get_or t k 0)) refl (parts_count n (suc k) (omega arith))
    where
      l : k < length t
      l = omega arith

      go : (r : Bool) → is_target_word (get_or t k 0) ≡ r → length (parts_at b (suc k)) ≡ targets_in (drop (suc k) t) → length (parts_at b k) ≡ targets_in (drop k t)
      go true q s = rw (drop-cons t k 0 l, q, at_target k l (sym (word_is k l) ∙ q)) (ap suc s)
      go false q s = rw (drop-cons t k 0 l, q, at_other k l (sym (word_is k l) ∙ q)) s

  pub targets_are : length (parts b) ≡ targets_in t
  unfolding parts
  targets_are = parts_count (length t) 0 (omega arith)

pub few_targets : (t : List ℕ) → targets_in t ≤ length t
few_targets [] = omega arith
few_targets (w ∷ t) = go (is_target_word w) (few_targets t)
  where
    go : (r : Bool) → targets_in t ≤ length t → cond r (suc (targets_in t)) (targets_in t) ≤ suc (length t)
    go true h = omega arith
    go false h = omega arith

pub length_compared : (ps qs : List Part) → length (compared ps qs) ≡ max (length ps) (length qs)
length_compared [] [] = refl
length_compared [] (q ∷ qs) = omega (arith, length_compared [] qs)
length_compared (p ∷ ps) [] = omega (arith, length_compared ps [])
length_compared (p ∷ ps) (q ∷ qs) = omega (arith, length_compared ps qs)
