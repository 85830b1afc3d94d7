-- What the request claims of the comparison: an entry for each position, no difference exactly if both have the same targets and reports, swapping mirrors
-- the list, and the two items of a changed one.
use Prim.Native.Nat.{ℕ, zero, suc, ◌+◌, ◌≤◌, ◌<◌, max}
use mathlib.Core.Logic.{◌⊎◌, inl, inr, ◌↔◌}
use mathlib.Core.Path.{◌≡◌, refl, sym, ◌∙◌, ap}
use mathlib.Core.Bool.{Bool, true, false, ◌&&◌, cond, true≢false}
use mathlib.Core.List.{List, [], ◌∷◌, map, Memᴰ}
use native.Mathlib.Omega.{arith}
use lib.ListN.{length, get_or, length-map}
use lib.Dec.{eqb}
use borrow.Author.Tests.{eqb-true, eq-eqb}
use Rattle.buffer.specs.Bytes.{same as sameBytes}
use Rattle.buffer.proofs.ByteLaws.{and-true, same_is, same_self}
use Rattle.ari.specs.Table.{Slot}
use Rattle.ari.specs.declared.Limits.{Limits}
use Rattle.ari.specs.declared.Input.TheVariants.{Message}
use Rattle.ari.specs.declared.Target.TheVariants.{Number}
use Rattle.ari.specs.Items.{encode, Spot, spots_of}
use Rattle.ari.specs.Decode.{decode}
use Rattle.ari.specs.Rules.{Is}
use Rattle.ari.specs.Same.{folded_at}
use Rattle.ari.specs.Targets.{is_target, targets, target_of}
use Rattle.ari.proofs.Members.{within}
use Rattle.ari.proofs.Targets.{numbered}
use Rattle.grammar.specs.Code.{slot_number}
use Rattle.item_table.specs.Entries.{no_spot, spot_number}
use Rattle.comparison.specs.Comparison.{Part, parts_from, parts, folded_part, is_same_part, alike, items_of, alike_for, Entry, same, changed, only_first, only_second, entry_of, compared, comparison, what_of, different}
use Rattle.comparison.proofs.Runs.{Own, own, Fitting, fitting}
use Rattle.comparison.proofs.Pairing.{same_slot, Paired, are_same, are_different, paired, Likes, likes_to, unlike_at, UnlikeAt}
use Rattle.comparison.proofs.Words.{length_compared}

-- R195: the targets and reports are those of R168, each with the number of its item.
parts_targets : (k : ℕ) (xs : List Spot) → map (λ (p : Part). p.spot) (parts_from k xs) ≡ targets xs
parts_targets k [] = refl
parts_targets k (x ∷ xs) = go (is_target x.slot) (parts_targets (suc k) xs)
  where
    go : (t : Bool) → map (λ (p : Part). p.spot) (parts_from (suc k) xs) ≡ targets xs
        → map (λ (p : Part). p.spot) (cond t (record { number = k; spot = x } ∷ parts_from (suc k) xs) (parts_from (suc k) xs)) ≡ cond t (x ∷ targets xs) (targets xs)
    go true e = ap (λ (l : List Spot). x ∷ l) e
    go false e = e

pub those_are_the_targets : (b : List ℕ) → map (λ (p : Part). p.spot) (parts b) ≡ targets (spots_of Message (decode b))
unfolding parts
those_are_the_targets b = parts_targets 0 (spots_of Message (decode b))

-- R198: an entry for each position.
pub an_entry_each : (a b : List ℕ) → length (comparison a b) ≡ max (length (parts a)) (length (parts b))
unfolding comparison
an_entry_each a b = length_compared (parts a) (parts b)

-- Swapping the messages mirrors the list.
abbrev pub mirrored : Entry → Entry
mirrored same = same
mirrored (changed i j) = changed j i
mirrored only_first = only_second
mirrored only_second = only_first

eqb_swap : (m n : ℕ) → eqb m n ≡ eqb n m
eqb_swap m n = go (eqb m n) refl (eqb n m) refl
  where
    go : (s : Bool) → eqb m n ≡ s → (t : Bool) → eqb n m ≡ t → s ≡ t
    go true e true f = refl
    go true e false f = sym (eq-eqb n m (sym (eqb-true m n e))) ∙ f
    go false e true f = sym e ∙ eq-eqb m n (sym (eqb-true n m f))
    go false e false f = refl

same_swap : (u v : List ℕ) → sameBytes u v ≡ sameBytes v u
same_swap u v = go (sameBytes u v) refl (sameBytes v u) refl
  where
    go : (s : Bool) → sameBytes u v ≡ s → (t : Bool) → sameBytes v u ≡ t → s ≡ t
    go true e true f = refl
    go true e false f = sym (rw (same_is u v e) (same_self v)) ∙ f
    go false e true f = sym e ∙ rw (same_is v u f) (same_self u)
    go false e false f = refl

alike_swap : (x y : Spot) → alike x y ≡ alike y x
unfolding alike
alike_swap x y =
    rw (
      eqb_swap x.lead.kind y.lead.kind,
      eqb_swap x.lead.arg y.lead.arg,
      same_swap (folded_at x.slot x.str) (folded_at y.slot y.str),
    )

same_part_swap : (x y : Spot) → is_same_part x y ≡ is_same_part y x
unfolding is_same_part
same_part_swap x y =
    ap (λ (z : Bool). z && sameBytes (encode (folded_part x)) (encode (folded_part y))) (eqb_swap (slot_number x.slot) (slot_number y.slot))
    ∙ ap (λ (z : Bool). eqb (slot_number y.slot) (slot_number x.slot) && z) (same_swap (encode (folded_part x)) (encode (folded_part y)))

alike_for_swap : (xs ys : List Spot) → alike_for xs ys ≡ alike_for ys xs
alike_for_swap [] [] = refl
alike_for_swap [] (y ∷ ys) = refl
alike_for_swap (x ∷ xs) [] = refl
alike_for_swap (x ∷ xs) (y ∷ ys) = rw (alike_swap x y, alike_for_swap xs ys)

entry_swap : (p q : Part) → entry_of q p ≡ mirrored (entry_of p q)
entry_swap p q =
    rw (same_part_swap q.spot p.spot, alike_for_swap (items_of q.spot) (items_of p.spot))
    (go (is_same_part p.spot q.spot) (alike_for (items_of p.spot) (items_of q.spot)))
  where
    go : (t : Bool) (k : ℕ) → cond t same (changed (q.number + k) (p.number + k)) ≡ mirrored (cond t same (changed (p.number + k) (q.number + k)))
    go true k = refl
    go false k = refl

compared_swap : (ps qs : List Part) → compared qs ps ≡ map mirrored (compared ps qs)
compared_swap [] [] = refl
compared_swap [] (q ∷ qs) = ap (λ (es : List Entry). only_first ∷ es) (compared_swap [] qs)
compared_swap (p ∷ ps) [] = ap (λ (es : List Entry). only_second ∷ es) (compared_swap ps [])
compared_swap (p ∷ ps) (q ∷ qs) =
    ap (λ (e : Entry). e ∷ compared qs ps) (entry_swap p q) ∙ ap (λ (es : List Entry). mirrored (entry_of p q) ∷ es) (compared_swap ps qs)

pub swapping_mirrors_the_list : (a b : List ℕ) → comparison b a ≡ map mirrored (comparison a b)
unfolding comparison
swapping_mirrors_the_list a b = compared_swap (parts a) (parts b)

-- What is compared of a target or report: whether it is the one or the other, and its folded form. Nothing else of a message is: neither a nonce nor the time
-- of a set nor where one set ends and the next begins.
pub record Form : Type 0 where
  pub slot : Slot
  pub bytes : List ℕ

abbrev pub form_of : Part → Form
form_of p = record { slot = p.spot.slot; bytes = encode (folded_part p.spot) }

abbrev pub forms : List ℕ → List Form
forms b = map form_of (parts b)

abbrev same_form : Form → Form → Bool
same_form f g = eqb (slot_number f.slot) (slot_number g.slot) && sameBytes f.bytes g.bytes

by_form : (p q : Part) → is_same_part p.spot q.spot ≡ same_form (form_of p) (form_of q)
unfolding is_same_part
by_form p q = refl

data Each (P : Part → Type 0) : List Part → Type 0 where
  no_part_lem : Each P []
  part_too : {p : Part} {ps : List Part} → P p → Each P ps → Each P (p ∷ ps)

-- a target or report where it stands in its message
record Stands (xs : List Spot) (p : Part) : Type 0 where
  there : p.number < length xs
  spot_is : p.spot ≡ get_or xs p.number no_spot
  is_one : is_target p.spot.slot ≡ true

stands_from : (xs : List Spot) (k : ℕ) (ys : List Spot) → k + length ys ≡ length xs → ((o : ℕ) → get_or ys o no_spot ≡ get_or xs (k + o) no_spot) → Each (Stands xs) (parts_from k ys)
stands_from xs k [] e f = no_part_lem
stands_from xs k (y ∷ ys) e f =
    go (is_target y.slot) refl (stands_from xs (suc k) ys (omega arith) (λ o. f (suc o) ∙ (let z : k + suc o ≡ suc k + o = omega arith in rw z)))
  where
    go : (t : Bool) → is_target y.slot ≡ t → Each (Stands xs) (parts_from (suc k) ys) → Each (Stands xs) (cond t (record { number = k; spot = y } ∷ parts_from (suc k) ys) (parts_from (suc k) ys))
    go true q r =
        part_too {p = record { number = k; spot = y }} (record { there = omega arith; spot_is = f 0 ∙ (let z : k + 0 ≡ k = omega arith in rw z); is_one = q }) r
    go false q r = r

all_stand : (b : List ℕ) → Each (Stands (spots_of Message (decode b))) (parts b)
unfolding parts
all_stand b =
    let xs : List Spot = spots_of Message (decode b) in
    stands_from xs 0 xs (omega arith) (λ o. let z : 0 + o ≡ o = omega arith in rw z)

same_as_itself : (f : Form) → same_form f f ≡ true
same_as_itself f = rw (eq-eqb (slot_number f.slot) (slot_number f.slot) refl) (same_self f.bytes)

form_same : (p q : Part) → form_of p ≡ form_of q → is_same_part p.spot q.spot ≡ true
form_same p q e = by_form p q ∙ (ap (λ (f : Form). same_form f (form_of q)) e ∙ same_as_itself (form_of q))

same_form_lem : {xs ys : List Spot} (p q : Part) → Stands xs p → Stands ys q → is_same_part p.spot q.spot ≡ true → form_of p ≡ form_of q
same_form_lem p q s t e =
    let (h, g) = and-true (eqb (slot_number p.spot.slot) (slot_number q.spot.slot)) (sameBytes (encode (folded_part p.spot)) (encode (folded_part q.spot))) (sym (by_form p q) ∙ e) in
    let z : p.spot.slot ≡ q.spot.slot = same_slot p.spot.slot q.spot.slot s.is_one t.is_one h in
    let y : encode (folded_part p.spot) ≡ encode (folded_part q.spot) = same_is (encode (folded_part p.spot)) (encode (folded_part q.spot)) g in
    ap (λ (w : Slot). form_by w (encode (folded_part p.spot))) z ∙ ap (form_by q.spot.slot) y
  where
    form_by : Slot → List ℕ → Form
    form_by s b = record { slot = s; bytes = b }

first_form : {f g : Form} {fs gs : List Form} → f ∷ fs ≡ g ∷ gs → f ≡ g
first_form e = cc

other_forms : {f g : Form} {fs gs : List Form} → f ∷ fs ≡ g ∷ gs → fs ≡ gs
other_forms e = cc

no_forms : {f : Form} {fs : List Form} → [] ≡ f ∷ fs → ⊥
no_forms e = let z : ◌≡◌ {A = ℕ} 0 1 = cc in omega arith

none_differ : {xs ys : List Spot} {ps qs : List Part} → Each (Stands xs) ps → Each (Stands ys) qs → different (compared ps qs) ≡ 0 → map form_of ps ≡ map form_of qs
none_differ no_part_lem no_part_lem e = refl
none_differ no_part_lem (part_too s t) e = absurd (omega arith)
none_differ (part_too s t) no_part_lem e = absurd (omega arith)
none_differ (part_too {p = p} {ps = ps} s r) (part_too {p = q} {ps = qs} t u) e =
    go (is_same_part p.spot q.spot) refl e (none_differ r u)
  where
    go : (z : Bool) → is_same_part p.spot q.spot ≡ z
        → different (cond z same (changed (p.number + alike_for (items_of p.spot) (items_of q.spot)) (q.number + alike_for (items_of p.spot) (items_of q.spot))) ∷ compared ps qs) ≡ 0
        → (different (compared ps qs) ≡ 0 → map form_of ps ≡ map form_of qs) → map form_of (p ∷ ps) ≡ map form_of (q ∷ qs)
    go true h f i = ap (λ (w : Form). w ∷ map form_of ps) (same_form_lem p q s t h) ∙ ap (λ (w : List Form). form_of q ∷ w) (i f)
    go false h f i = absurd (omega arith)

all_same : (ps qs : List Part) → map form_of ps ≡ map form_of qs → different (compared ps qs) ≡ 0
all_same [] [] e = refl
all_same [] (q ∷ qs) e = absurd (no_forms e)
all_same (p ∷ ps) [] e = absurd (no_forms (sym e))
all_same (p ∷ ps) (q ∷ qs) e = rw (form_same p q (first_form e)) (all_same ps qs (other_forms e))

-- R198: no difference is reported exactly if both have the same targets and reports in the same order.
pub no_difference_exactly_if_same : (a b : List ℕ) → (different (comparison a b) ≡ 0) ↔ (forms a ≡ forms b)
unfolding comparison
no_difference_exactly_if_same a b = (λ e. none_differ (all_stand a) (all_stand b) e, λ e. all_same (parts a) (parts b) e)

-- Of a message nothing but these matters: with the same targets and reports in the same order it has the same entries, but for the items' numbers.
abbrev is_changed : Bool → ℕ
is_changed true = 0
is_changed false = 1

what_is : (p q : Part) → what_of (entry_of p q) ≡ is_changed (is_same_part p.spot q.spot)
what_is p q = go (is_same_part p.spot q.spot) (alike_for (items_of p.spot) (items_of q.spot))
  where
    go : (t : Bool) (k : ℕ) → what_of (cond t same (changed (p.number + k) (q.number + k))) ≡ is_changed t
    go true k = refl
    go false k = refl

only_forms : (ps rs qs : List Part) → map form_of ps ≡ map form_of rs → map what_of (compared ps qs) ≡ map what_of (compared rs qs)
only_forms [] [] qs e = refl
only_forms [] (r ∷ rs) qs e = absurd (no_forms e)
only_forms (p ∷ ps) [] qs e = absurd (no_forms (sym e))
only_forms (p ∷ ps) (r ∷ rs) [] e = ap (λ (w : List ℕ). 2 ∷ w) (only_forms ps rs [] (other_forms e))
only_forms (p ∷ ps) (r ∷ rs) (q ∷ qs) e =
    let z : is_same_part p.spot q.spot ≡ is_same_part r.spot q.spot
    = by_form p q ∙ (ap (λ (f : Form). same_form f (form_of q)) (first_form e) ∙ sym (by_form r q)) in
    ap (λ (n : ℕ). n ∷ map what_of (compared ps qs)) (what_is p q ∙ (ap is_changed z ∙ sym (what_is r q)))
    ∙ ap (λ (l : List ℕ). what_of (entry_of r q) ∷ l) (only_forms ps rs qs (other_forms e))

pub only_targets_and_reports_matter : (a a' b : List ℕ) → forms a ≡ forms a' → map what_of (comparison a b) ≡ map what_of (comparison a' b)
unfolding comparison
only_targets_and_reports_matter a a' b e = only_forms (parts a) (parts a') (parts b) e

-- The entry of a position.
abbrev pub no_part : Part
no_part = record { number = 0; spot = no_spot }

-- what a position shows, by how many targets and reports either message has
pub record Shown (ps qs : List Part) (i : ℕ) : Type 0 where
  pub both : i < length ps → i < length qs → get_or (compared ps qs) i same ≡ entry_of (get_or ps i no_part) (get_or qs i no_part)
  pub first_only : i < length ps → length qs ≤ i → get_or (compared ps qs) i same ≡ only_first
  pub second_only : length ps ≤ i → i < length qs → get_or (compared ps qs) i same ≡ only_second

shown : (ps qs : List Part) (i : ℕ) → Shown ps qs i
shown [] [] i = record { both = λ h g. absurd (omega arith); first_only = λ h g. absurd (omega arith); second_only = λ h g. absurd (omega arith) }
shown [] (q ∷ qs) zero = record { both = λ h g. absurd (omega arith); first_only = λ h g. absurd (omega arith); second_only = λ h g. refl }
shown [] (q ∷ qs) (suc i) =
    let r = shown [] qs i in
    record { both = λ h g. absurd (omega arith); first_only = λ h g. absurd (omega arith); second_only = λ h g. r.second_only (omega arith) (omega arith) }
shown (p ∷ ps) [] zero = record { both = λ h g. absurd (omega arith); first_only = λ h g. refl; second_only = λ h g. absurd (omega arith) }
shown (p ∷ ps) [] (suc i) =
    let r = shown ps [] i in
    record { both = λ h g. absurd (omega arith); first_only = λ h g. r.first_only (omega arith) (omega arith); second_only = λ h g. absurd (omega arith) }
shown (p ∷ ps) (q ∷ qs) zero = record { both = λ h g. refl; first_only = λ h g. absurd (omega arith); second_only = λ h g. absurd (omega arith) }
shown (p ∷ ps) (q ∷ qs) (suc i) =
    let r = shown ps qs i in
    record {
      both = λ h g. r.both (omega arith) (omega arith);
      first_only = λ h g. r.first_only (omega arith) (omega arith);
      second_only = λ h g. r.second_only (omega arith) (omega arith);
    }

pub each_position : (a b : List ℕ) (i : ℕ) → Shown (parts a) (parts b) i
each_position a b i = shown (parts a) (parts b) i

-- a changed position has a target or report in both
record Changed (ps qs : List Part) (i u v : ℕ) : Type 0 where
  in_first : i < length ps
  in_second : i < length qs
  entry_is : entry_of (get_or ps i no_part) (get_or qs i no_part) ≡ changed u v

not_changed : {u v : ℕ} → same ≡ changed u v → ⊥
not_changed e = let z : ◌≡◌ {A = ℕ} 0 1 = cc in omega arith

not_first : {u v : ℕ} → only_first ≡ changed u v → ⊥
not_first e = let z : ◌≡◌ {A = ℕ} 0 1 = cc in omega arith

not_second : {u v : ℕ} → only_second ≡ changed u v → ⊥
not_second e = let z : ◌≡◌ {A = ℕ} 0 1 = cc in omega arith

changed_at : (ps qs : List Part) (i u v : ℕ) → get_or (compared ps qs) i same ≡ changed u v → Changed ps qs i u v
changed_at [] [] i u v e = absurd (not_changed e)
changed_at [] (q ∷ qs) zero u v e = absurd (not_second e)
changed_at [] (q ∷ qs) (suc i) u v e = let r = changed_at [] qs i u v e in absurd (omega (arith, r.in_first))
changed_at (p ∷ ps) [] zero u v e = absurd (not_first e)
changed_at (p ∷ ps) [] (suc i) u v e = let r = changed_at ps [] i u v e in absurd (omega (arith, r.in_second))
changed_at (p ∷ ps) (q ∷ qs) zero u v e = record { in_first = omega arith; in_second = omega arith; entry_is = e }
changed_at (p ∷ ps) (q ∷ qs) (suc i) u v e =
    let r = changed_at ps qs i u v e in
    record { in_first = omega (arith, r.in_first); in_second = omega (arith, r.in_second); entry_is = r.entry_is }

each_at : {P : Part → Type 0} (ps : List Part) (i : ℕ) → Each P ps → i < length ps → P (get_or ps i no_part)
each_at [] i e h = absurd (omega arith)
each_at (p ∷ ps) zero (part_too x e) h = x
each_at (p ∷ ps) (suc i) (part_too x e) h = each_at ps i e (omega arith)

mem_at : (xs : List Spot) (k : ℕ) → k < length xs → Memᴰ (get_or xs k no_spot) xs
mem_at [] k h = absurd (omega arith)
mem_at (x ∷ xs) zero h = Memᴰ.head refl
mem_at (x ∷ xs) (suc k) h = Memᴰ.tail (mem_at xs k (omega arith))

get_d_spots : (ps : List Part) (i : ℕ) (d : Spot) → i < length ps → get_or (map (λ (p : Part). p.spot) ps) i d ≡ (get_or ps i no_part).spot
get_d_spots [] i d h = absurd (omega arith)
get_d_spots (p ∷ ps) zero d h = refl
get_d_spots (p ∷ ps) (suc i) d h = get_d_spots ps i d (omega arith)

-- the items of target or report i of an accepted message
module _ {m : Limits} {b : List ℕ} {n : ℕ} (c : Is m Message b (decode b) n) (i : ℕ) (h : i < length (parts b)) where
  abbrev xs : List Spot
  xs = spots_of Message (decode b)

  abbrev p : Part
  p = get_or (parts b) i no_part

  stands : Stands xs p
  stands = each_at (parts b) i (all_stand b) h

  fits : Fitting p.spot
  fits = rw stands.spot_is (fitting c p.number stands.there)

  owned : Own xs p.number p.spot
  owned = rw stands.spot_is (own c p.number stands.there)

  in_part : (x : Spot) (k : ℕ) → k < length (items_of p.spot) → x ≡ get_or (items_of p.spot) k no_spot → (x ≡ p.spot) ⊎ (Memᴰ x (within p.spot))
  in_part x zero g e = inl e
  in_part x (suc k) g e = inr (rw e (mem_at (within p.spot) k (omega arith)))

  -- item k of it lies in it, as R169 has it
  lies_in : (k : ℕ) → k < length (items_of p.spot) → target_of xs (spot_number Message b (p.number + k)) ≡ Number i
  lies_in k g =
      let x : Spot = spot_number Message b (p.number + k) in
      let there : p.number + k < length xs = omega (arith, owned.many) in
      let here : i < length (targets xs) = omega (arith, h, ap length (those_are_the_targets b), length-map (parts b) (λ (q : Part). q.spot)) in
      let this : p.spot ≡ get_or (targets xs) i x = sym (get_d_spots (parts b) i x h) ∙ ap (λ (l : List Spot). get_or l i x) (those_are_the_targets b) in
      numbered c x (mem_at xs (p.number + k) there) i (record { below = here; there = rw this at (in_part x k g (owned.item_is k g)) })

-- R198: The two items of a changed position lie in that target or report of either message (R169), so many items behind its own; they differ, and all
-- before them, counted from its own, are alike.
pub record FirstDiffering (a b : List ℕ) (i u v : ℕ) : Type 0 where
  pub passed : ℕ
  pub first_is : u ≡ (get_or (parts a) i no_part).number + passed
  pub second_is : v ≡ (get_or (parts b) i no_part).number + passed
  pub in_first : target_of (spots_of Message (decode a)) (spot_number Message a u) ≡ Number i
  pub in_second : target_of (spots_of Message (decode b)) (spot_number Message b v) ≡ Number i
  pub they_differ : alike (spot_number Message a u) (spot_number Message b v) ≡ false
  pub alike_before : (k : ℕ) → k < passed
      → alike (spot_number Message a ((get_or (parts a) i no_part).number + k)) (spot_number Message b ((get_or (parts b) i no_part).number + k)) ≡ true

-- the numbers of a changed entry
numbers_of : (p q : Part) (u v : ℕ) → entry_of p q ≡ changed u v
    → (is_same_part p.spot q.spot ≡ false) × (u ≡ p.number + alike_for (items_of p.spot) (items_of q.spot)) × (v ≡ q.number + alike_for (items_of p.spot) (items_of q.spot))
numbers_of p q u v e = go (is_same_part p.spot q.spot) (alike_for (items_of p.spot) (items_of q.spot)) e
  where
    go : (t : Bool) (k : ℕ) → cond t same (changed (p.number + k) (q.number + k)) ≡ changed u v → (t ≡ false) × (u ≡ p.number + k) × (v ≡ q.number + k)
    go true k f = absurd (not_changed f)
    go false k f = (refl, cc, cc)

module _ {m m' : Limits} {a b : List ℕ} {n n' : ℕ} (c : Is m Message a (decode a) n) (d : Is m' Message b (decode b) n') (i : ℕ) where
  module _ (h : i < length (parts a)) (g : i < length (parts b)) where
    abbrev x : Spot
    x = (get_or (parts a) i no_part).spot

    abbrev y : Spot
    y = (get_or (parts b) i no_part).spot

    pair : Paired x y
    pair = paired x y (fits c i h) (fits d i g) (stands c i h).is_one (stands d i g).is_one

    -- Two are the same exactly if their items are alike, pair by pair: they have as many then.
    pub same_exactly_if_alike : (is_same_part x y ≡ true) ↔ Likes (items_of x) (items_of y)
    same_exactly_if_alike = (to pair, from pair)
      where
        to : Paired x y → is_same_part x y ≡ true → Likes (items_of x) (items_of y)
        to (are_same e l) s = l
        to (are_different e u) s = absurd (true≢false (sym s ∙ e))

        from : Paired x y → Likes (items_of x) (items_of y) → is_same_part x y ≡ true
        from (are_same e l) k = e
        from (are_different e u) k =
            let w = unlike_at u in
            absurd (true≢false (sym ((likes_to k).pairs (alike_for (items_of x) (items_of y)) w.in_first) ∙ w.there))

    apart : is_same_part x y ≡ false → UnlikeAt (items_of x) (items_of y) (alike_for (items_of x) (items_of y))
    apart e = by pair
      where
        by : Paired x y → UnlikeAt (items_of x) (items_of y) (alike_for (items_of x) (items_of y))
        by (are_same f l) = absurd (true≢false (sym f ∙ e))
        by (are_different f u) = unlike_at u

  pub changed_names_the_first_differing : (u v : ℕ) → get_or (comparison a b) i same ≡ changed u v → FirstDiffering a b i u v
  unfolding comparison
  changed_names_the_first_differing u v e =
      let z = changed_at (parts a) (parts b) i u v e in
      let h = z.in_first in
      let g = z.in_second in
      let p : Part = get_or (parts a) i no_part in
      let q : Part = get_or (parts b) i no_part in
      let k : ℕ = alike_for (items_of p.spot) (items_of q.spot) in
      let s = numbers_of p q u v z.entry_is in
      let w = apart h g s.0 in
      let items : (o : ℕ) → o < length (items_of p.spot) → o < length (items_of q.spot)
      → alike (spot_number Message a (p.number + o)) (spot_number Message b (q.number + o)) ≡ alike (get_or (items_of p.spot) o no_spot) (get_or (items_of q.spot) o no_spot)
      = λ o l r.
      ap (λ (t : Spot). alike t (spot_number Message b (q.number + o))) ((owned c i h).item_is o l)
      ∙ ap (alike (get_or (items_of p.spot) o no_spot)) ((owned d i g).item_is o r) in
      record {
        passed = k;
        first_is = s.1;
        second_is = s.2;
        in_first = rw s.1 (lies_in c i h k w.in_first);
        in_second = rw s.2 (lies_in d i g k w.in_second);
        they_differ = rw (s.1, s.2) (items k w.in_first w.in_second ∙ w.there);
        alike_before = λ o l. items o (omega (arith, w.in_first)) (omega (arith, w.in_second)) ∙ w.before.pairs o l;
      }
