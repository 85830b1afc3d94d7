-- The targets and reports that are passed, word by word, give each item its number: what the functions answer, way by way, and item k.
use Prim.Native.Nat.{ℕ, zero, suc, ◌+◌, ◌-◌, ◌≤◌, ◌<◌, min}
use mathlib.Core.Path.{◌≡◌, refl, sym, ◌∙◌, ap}
use mathlib.Core.Bool.{Bool, true, false, not, ◌||◌, cond}
use mathlib.Core.List.{List}
use native.Mathlib.Omega.{arith}
use lib.ListN.{length, get_or, take, get_or-eq_default}
use lib.Seq.{get_or-take, length-take-le}
use lib.Dec.{ltb, eqb}
use borrow.Author.Tests.{lt-ltb, le-ltb, ltb-true, ltb-false, eq-eqb, ne_eqb}
use Rattle.cbor.proofs.Computed.{all_at}
use Rattle.ari.specs.Table.{version}
use Rattle.ari.specs.declared.Limits.{Limits}
use Rattle.ari.specs.declared.Input.{Input}
use Rattle.ari.specs.declared.Target.TheVariants.{None, Number}
use Rattle.ari.specs.Items.{Spot, spots_of}
use Rattle.ari.specs.Decode.{decode}
use Rattle.ari.specs.Targets.{is_target, target_of}
use Rattle.ari.proofs.Targets.{Passed, step, passed, nothing, walked}
use Rattle.grammar.specs.Code.{slots, slot_of, slot_number}
use Rattle.item_table.specs.declared.Item.{Item}
use Rattle.item_table.specs.Entries as items
use Rattle.item_table.specs.Entries.{no_spot, spot_number, Tabled}
use Rattle.item_table.proofs.Entries.{item_at, fine_at, fewer_than_bytes}
use Rattle.grammar.proofs.Right.{number_slot}
use Rattle.item_records.specs.declared.Targets.{Targets}
use Rattle.item_records.specs.Numbered.{is_target_by, further, passed_by, targets_to, target_by}

-- the two slots, in one test over all of them
abbrev listed : ℕ → Bool
listed i = eqb i 24 || eqb i 25

abbrev tested : ℕ → Bool
tested i = cond (is_target (slot_of i)) (listed i) (not (listed i))

same : (s t : Bool) → cond s t (not t) ≡ true → t ≡ s
same true true e = refl
same true false e = e
same false true e = sym e
same false false e = refl

two_slots : (i : ℕ) → listed i ≡ is_target_by i
unfolding is_target_by
two_slots i = go (ltb i 72) refl
  where
    go : (t : Bool) → ltb i 72 ≡ t → listed i ≡ is_target (slot_of i)
    go true e = same (is_target (slot_of i)) (listed i) (all_at 72 0 tested refl i (omega arith) (let h = ltb-true i 72 e in omega arith))
    go false e =
        let h : 72 ≤ i = ltb-false i 72 e in
        let v : slot_of i ≡ version = get_or-eq_default slots version h in
        rw (v, ne_eqb i 24 (λ q. omega arith), ne_eqb i 25 (λ q. omega arith))

module _ (i : ℕ) where
  pub a_target : i ≡ 24 → eqb i 24 ≡ is_target_by i
  a_target e = eq-eqb i 24 e ∙ (rw (eq-eqb i 24 e) at (two_slots i))

  pub a_report : (i ≡ 24 → ⊥) → eqb i 25 ≡ is_target_by i
  a_report n = rw (ne_eqb i 24 n) at (two_slots i)

-- one item further
module _ (t : Targets) (e : ℕ) {x : Item} (q : x ≡ items.item_of e) {y : Bool} (b : y ≡ is_target_by x.slot) where
  pub one_more : y ≡ true → {n : ℕ} → n ≡ min (t.count + 1) 18446744073709551615 → ◌≡◌ {A = Targets} (record { count = n; end = x.after }) (passed_by t e)
  unfolding passed_by
  one_more h c = rw (← q, ← b, h, c)

  pub no_more : y ≡ false → t ≡ passed_by t e
  unfolding passed_by
  no_more h = rw (← q, ← b, h)

-- the last one's number, or none
module _ (t : Targets) (first : ℕ) where
  pub past_it : t.end ≤ first → None ≡ target_by t first
  past_it h = rw (le-ltb first t.end h)

  pub in_none : first < t.end → t.count ≡ 0 → Number 0 ≡ target_by t first
  in_none h e = rw (lt-ltb first t.end h, e)

  pub in_it : first < t.end → (t.count ≡ 0 → ⊥) → Number (t.count - 1) ≡ target_by t first
  in_it h e = rw (lt-ltb first t.end h)

pub ruleset target_ways = (a_target, a_report, one_more, no_more, past_it, in_none, in_it)

-- the words one by one
pub passed_one : (t : List ℕ) (j : ℕ) {x y : Targets} → x ≡ targets_to t j → y ≡ passed_by x (get_or t j 0) → y ≡ targets_to t (j + 1)
passed_one t j e f = let s : j + 1 ≡ suc j = omega arith in f ∙ rw (s, e)

-- the first words alone
targets_of_first : (t : List ℕ) (n j : ℕ) → j ≤ n → targets_to (take n t) j ≡ targets_to t j
targets_of_first t n zero h = refl
targets_of_first t n (suc j) h = rw (targets_of_first t n j (omega arith), get_or-take n t j 0 (omega arith)) refl

pub targets_first : (t : List ℕ) (k : ℕ) → k < length t → {x : Targets} → x ≡ targets_to (take (k + 1) t) (length (take (k + 1) t)) → x ≡ targets_to t (suc k)
targets_first t k h e =
    let l : length (take (k + 1) t) ≡ suc k = omega (arith, length-take-le (k + 1) t (omega arith)) in
    e ∙ rw l (targets_of_first t (k + 1) (suc k) (omega arith))

-- The words of an accepted input's table give its items' numbers: no count comes near 64 bits.
module _ {m : Limits} {i : Input} {b : List ℕ} {n : ℕ} {t : List ℕ} (c : Tabled m i b n t) where
  abbrev xs : List Spot
  xs = spots_of i (decode b)

  abbrev as_targets : Passed → Targets
  as_targets p = record { count = p.count; end = p.end }

  counted : (k : ℕ) → (passed no_spot nothing xs k).count ≤ k
  counted zero = omega arith
  counted (suc k) = let x = get_or xs k no_spot in go (is_target x.slot) (counted k)
    where
      go : (y : Bool) → (passed no_spot nothing xs k).count ≤ k → (step (passed no_spot nothing xs k) y (get_or xs k no_spot).after).count ≤ suc k
      go true h = omega (arith, h)
      go false h = omega (arith, h)

  pub slot_back : (k : ℕ) → k < n → is_target_by (slot_number (spot_number i b k).slot) ≡ is_target (spot_number i b k).slot
  unfolding is_target_by
  slot_back k h =
      let f = fine_at c k h in
      let e : slot_number (spot_number i b k).slot ≡ f.number = ap slot_number (sym f.slot_is) ∙ number_slot f.number f.is_slot in
      rw (e, f.slot_is)

  step_is : (p : Passed) (y : Bool) (after : ℕ) → p.count < 65536 → further (as_targets p) y after ≡ as_targets (step p y after)
  step_is p true after h = let e : min (p.count + 1) 18446744073709551615 ≡ suc p.count = omega arith in rw e
  step_is p false after h = refl

  pub few : n < 65536
  few = omega (arith, fewer_than_bytes c.is, c.is.short, c.small)

  passed_all : (k : ℕ) → k ≤ n → targets_to t k ≡ as_targets (passed no_spot nothing xs k)
  unfolding passed_by
  passed_all zero h = refl
  passed_all (suc k) h =
      let g : k < n = omega arith in
      let x = spot_number i b k in
      rw (passed_all k (omega arith), item_at c k g, slot_back k g) (step_is (passed no_spot nothing xs k) (is_target x.slot) x.after (omega (arith, counted k, few)))

  pub target_at : (k : ℕ) → k < n → target_by (targets_to t (suc k)) (spot_number i b k).first ≡ target_of xs (spot_number i b k)
  target_at k h = rw (passed_all (suc k) (omega arith)) (walked c.is no_spot k h)
