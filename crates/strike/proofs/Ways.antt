-- What each function answers, way by way: the loops over the item table, the size of a head, the copies, and the whole.
use Prim.Native.Nat.{ℕ, suc, ◌+◌, ◌-◌, ◌≤◌, ◌<◌}
use mathlib.Core.Path.{◌≡◌, refl, sym, ◌∙◌, ap}
use mathlib.Core.Bool.{Bool, true, false, cond}
use mathlib.Core.List.{List, ◌∷◌, ◌++◌, append_assoc}
use native.Mathlib.Omega.{arith}
use native.Mathlib.Numerals.{add-one}
use lib.ListN.{length, take, drop, get_or, length-drop}
use lib.Seq.{drop-cons, drop-length, take_all, sets-eq}
use lib.Dec.{ltb, eqb}
use mir.Syntax.{w64}
use mir.Val.{Fits}
use borrow.Author.Tests.{lt-ltb, le-ltb, ltb-true, ltb-false, eq-eqb, ne_eqb}
use Rattle.buffer.specs.Bytes.{part}
use Rattle.buffer.specs.Put.{Put}
use Rattle.buffer.proofs.Putting.{put_both}
use Rattle.cbor.specs.Head.{array, size, width, shortest, lead_of, head_bytes}
use Rattle.cbor.specs.declared.Head.{Head}
use Rattle.cbor.specs.declared.Head.TheVariants.{Bad, Good}
use Rattle.cbor.specs.Answer.{head_at}
use Rattle.cbor.proofs.HeadLaws.{length_lead, width_small, width_le, head_bytes_lem}
use Rattle.ari.specs.declared.Limits.{Limits}
use Rattle.ari.specs.declared.Input.TheVariants.{Message}
use Rattle.ari.specs.Reader.{accept, read}
use Rattle.ari.specs.Items.{heads, Spot, spots_of}
use Rattle.ari.specs.Decode.{decode}
use Rattle.ari.specs.Targets.{is_target}
use Rattle.ari.proofs.Spots.{spot_count}
use Rattle.grammar.specs.Code.{slot_number}
use Rattle.grammar.proofs.Right.{number_slot}
use Rattle.item_table.specs.declared.Item.{Item}
use Rattle.item_table.specs.Entries.{no_spot, spot_number, item_of, Tabled}
use Rattle.item_table.proofs.Entries.{item_at, fine_at, there, head_is}
use Rattle.item_records.specs.Numbered.{is_target_by}
use Rattle.std.specs.declared.result.Result.{Result}
use Rattle.std.specs.declared.result.Result.TheVariants.{Ok, Err}
use Rattle.ari.specs.declared.Refusal.{Refusal}
use Rattle.ari.specs.Refusals.{refusal_of, refused}
use Rattle.reader.specs.Results.{result_of}
use Rattle.reader.proofs.Results.{is_accepted, is_refused}
use Rattle.strike.specs.declared.Found.{Found}
use Rattle.strike.specs.declared.Struck.{Struck}
use Rattle.strike.specs.Strike.{shorter, struck, struck_bytes, target_count, cut, missing, seek, cut_of, head_end, cut_bytes, strike_by, strike}
use Rattle.strike.specs.Code.{found_of, inner_after, below, copied, Ordered, Known}
use Rattle.strike.proofs.Striking.{missed, parts, the_cut, its_cut, in_order, three_copies, struck_length, fewer_items, head_there}
use Rattle.strike.proofs.Behind.{items_behind, item_there}

-- The search so far: what is left from item j on finds it.
pub record Sofar (b : List ℕ) (k passed inner j : ℕ) : Type 0 where
  pub spot : Spot
  pub inner_is : inner ≡ spot.first
  pub on : cut_of k b ≡ seek k passed spot j (drop j (spots_of Message (decode b)))

-- The items up to a place, so far: what is left from item j on counts the rest.
pub record Upto (b : List ℕ) (from place j : ℕ) : Type 0 where
  pub on : from + below place (drop from (spots_of Message (decode b))) ≡ j + below place (drop j (spots_of Message (decode b)))

module _ {m : Limits} {b : List ℕ} {n : ℕ} {t : List ℕ} (c : Tabled m Message b n t) where
  abbrev xs : List Spot
  xs = spots_of Message (decode b)

  pub sofar_start : (k : ℕ) → Sofar b k 0 0 0
  unfolding cut_of
  sofar_start k = record { spot = no_spot; inner_is = refl; on = refl }

  slot_back : (j : ℕ) → j < n → is_target_by (slot_number (spot_number Message b j).slot) ≡ is_target (spot_number Message b j).slot
  unfolding is_target_by
  slot_back j h =
      let f = fine_at c j h in
      let e : slot_number (spot_number Message b j).slot ≡ f.number = ap slot_number (sym f.slot_is) ∙ number_slot f.number f.is_slot in
      rw (e, f.slot_is)

  next_spot : (j : ℕ) → j < n → drop j xs ≡ spot_number Message b j ∷ drop (suc j) xs
  next_spot j h = drop-cons xs j no_spot (there c j h)

  module _ {k passed inner j : ℕ} (s : Sofar b k passed inner j) where
    pub sofar_end : n ≤ j → j ≤ n → refused 27 passed ≡ found_of (cut_of k b)
    sofar_end h l =
        let e : j ≡ length xs = omega (arith, spot_count c.is) in
        sym (ap found_of (s.on ∙ ap (seek k passed s.spot j) (ap (λ (i : ℕ). drop i xs) e ∙ drop-length xs)))

    module _ (h : j < n) {x : Item} (q : x ≡ item_of (get_or t j 0)) {y : Bool} (f : y ≡ is_target_by x.slot) where
      y_is : y ≡ is_target (spot_number Message b j).slot
      y_is = f ∙ (ap (λ (i : Item). is_target_by i.slot) (q ∙ item_at c j h) ∙ slot_back j h)

      step_on : cut_of k b ≡ seek k passed s.spot j (spot_number Message b j ∷ drop (suc j) xs)
      step_on = s.on ∙ ap (seek k passed s.spot j) (next_spot j h)

      pub sofar_found : y ≡ true → passed ≡ k → Ok (record { index = j; inner = inner; first = x.first; after = x.after }) ≡ found_of (cut_of k b)
      sofar_found e z =
          let it : cut_of k b ≡ cut (record { number = j; inner = s.spot; struck = spot_number Message b j }) = step_on ∙ rw (← y_is, e, eq-eqb passed k z) in
          rw (it, q ∙ item_at c j h, s.inner_is)

      pub sofar_passed : y ≡ true → (passed ≡ k → ⊥) → Sofar b k (passed + 1) inner (j + 1)
      sofar_passed e z = record { spot = s.spot; inner_is = s.inner_is; on = step_on ∙ rw (← y_is, e, ne_eqb passed k z, add-one passed, add-one j) }

      pub sofar_other : y ≡ false → {v : ℕ} → v ≡ inner_after inner x.around x.first → Sofar b k passed v (j + 1)
      sofar_other e g =
          let z : Spot = spot_number Message b j in
          record {
            spot = cond (eqb z.around 1) z s.spot;
            inner_is = g ∙ (rw (q ∙ item_at c j h, s.inner_is) (go z (eqb z.around 1)));
            on = step_on ∙ rw (← y_is, e, add-one j);
          }
        where
          go : (z : Spot) (u : Bool) → cond u z.first s.spot.first ≡ (cond u z s.spot).first
          go z true = refl
          go z false = refl

  -- the items up to a place
  pub behind_start : (from place : ℕ) → Upto b from place from
  behind_start from place = record { on = refl }

  module _ {from place j : ℕ} (s : Upto b from place j) where
    pub behind_end : n ≤ j → j ≤ n → n ≡ from + below place (drop from xs)
    behind_end h l =
        let e : j ≡ length xs = omega (arith, spot_count c.is) in
        let z : below place (drop j xs) ≡ 0 = ap (below place) (ap (λ (i : ℕ). drop i xs) e ∙ drop-length xs) in
        omega (arith, s.on)

    module _ (h : j < n) {x : Item} (q : x ≡ item_of (get_or t j 0)) where
      pub behind_stop : place ≤ x.first → j ≡ from + below place (drop from xs)
      behind_stop g =
          let f : x.first ≡ (spot_number Message b j).first = ap (λ (i : Item). i.first) (q ∙ item_at c j h) in
          let z : below place (drop j xs) ≡ 0 = ap (below place) (next_spot j h) ∙ rw (le-ltb (spot_number Message b j).first place (omega arith)) in
          omega (arith, s.on)

      pub behind_next : x.first < place → Upto b from place (j + 1)
      behind_next g =
          let f : x.first ≡ (spot_number Message b j).first = ap (λ (i : Item). i.first) (q ∙ item_at c j h) in
          let z : below place (drop j xs) ≡ suc (below place (drop (suc j) xs)) = ap (below place) (next_spot j h) ∙ rw (lt-ltb (spot_number Message b j).first place (omega arith)) in
          record { on = rw (add-one j) (omega (arith, s.on)) }

pub ruleset seekings = (sofar_start, sofar_end, sofar_found, sofar_passed, sofar_other)

pub ruleset behinds = (behind_start, behind_end, behind_stop, behind_next)

-- the size of a head
size_of : (a : ℕ) → length (head_bytes array a) ≡ suc (width (shortest a))
unfolding lead_of
size_of a = ap length (head_bytes_lem {k = array} {a = a} (omega arith) (λ e. absurd (omega arith))) ∙ length_lead (lead_of array a)

module _ (a : ℕ) where
  pub size_1 : a < 24 → 1 ≡ length (head_bytes array a)
  unfolding shortest
  size_1 h = sym (size_of a ∙ rw (lt-ltb a 24 h, width_small a h))

  pub size_2 : 24 ≤ a → a < 256 → 2 ≡ length (head_bytes array a)
  unfolding shortest width
  size_2 l h = sym (size_of a ∙ rw (le-ltb a 24 l, lt-ltb a 256 h))

  pub size_3 : 256 ≤ a → a < 65536 → 3 ≡ length (head_bytes array a)
  unfolding shortest width
  size_3 l h = sym (size_of a ∙ rw (le-ltb a 24 (omega arith), le-ltb a 256 l, lt-ltb a 65536 h))

  pub size_5 : 65536 ≤ a → a < 4294967296 → 5 ≡ length (head_bytes array a)
  unfolding shortest width
  size_5 l h = sym (size_of a ∙ rw (le-ltb a 24 (omega arith), le-ltb a 256 (omega arith), le-ltb a 65536 l, lt-ltb a 4294967296 h))

  pub size_9 : 4294967296 ≤ a → 9 ≡ length (head_bytes array a)
  unfolding shortest width
  size_9 l = sym (size_of a ∙ rw (le-ltb a 24 (omega arith), le-ltb a 256 (omega arith), le-ltb a 65536 (omega arith), le-ltb a 4294967296 l))

pub ruleset sizes = (size_1, size_2, size_3, size_5, size_9)

-- what is copied, part by part
pub first_part : (b : List ℕ) (i : ℕ) → take i b ≡ part b 0 i
first_part b i = let e : i - 0 ≡ i = omega arith in rw e refl

pub copied_put : (b : List ℕ) (inner next members first after : ℕ) {o o₁ o₂ o₃ o₄ : List ℕ} {q r s t : ℕ} {u v w : List ℕ}
    → u ≡ part b 0 inner → v ≡ part b next first → w ≡ part b after (length b)
    → Put o o₁ 0 q u → Put o₁ o₂ q r (head_bytes array members) → Put o₂ o₃ r s v → Put o₃ o₄ s t w → Put o o₄ 0 t (copied b inner next members first after)
unfolding copied
copied_put b inner next members first after e f g p q r s = put_both (put_both (put_both (rw e at p) q) (rw f at r)) (rw g at s)

framed : (t : ℕ) → 1 ≤ cond (eqb t 21) 2 1
framed t = go (eqb t 21)
  where
    go : (u : Bool) → 1 ≤ cond u 2 1
    go true = omega arith
    go false = omega arith

module _ {m : Limits} {b : List ℕ} {n : ℕ} {t : List ℕ} (c : Tabled m Message b n t) (k : ℕ) where
  known_cut : (h : k < target_count b) → Known m b t k n (the_cut c.is k h).number (the_cut c.is k h).inner.first (the_cut c.is k h).struck.first (the_cut c.is k h).struck.after
  unfolding cut_bytes
  known_cut h =
      let o = in_order c.is k h in
      let s = (parts c.is k h).the_set in
      record {
        table = c;
        lead = s.lead;
        under = h;
        head_there = head_is b _ s.lead _ (head_there c.is k h) s.inner.head ∙ ap (λ (i : ℕ). Good i s.lead.arg (head_end (the_cut c.is k h))) s.inner.kind_is;
        some = omega (arith, s.inner.arg_is, framed s.kind.arg);
        between = o.0;
        part_there = o.1;
        inside = omega (arith, o.2);
        long = struck_length c.is k h;
        bytes = three_copies c.is k h;
        items = omega (arith, fewer_items c.is k h, items_behind c.is k h);
        there = omega (arith, item_there c.is k h, spot_count c.is);
        short = omega (arith, c.is.short, c.small);
      }

  known : {x : Found} → Ok x ≡ found_of (cut_of k b) → Known m b t k n x.index x.inner x.first x.after
  known {x} e = go (ltb k (target_count b)) refl
    where
      go : (u : Bool) → ltb k (target_count b) ≡ u → Known m b t k n x.index x.inner x.first x.after
      go true q =
          let h : k < target_count b = ltb-true k (target_count b) q in
          let f : Ok x ≡ found_of (cut (the_cut c.is k h)) = e ∙ ap found_of (its_cut c.is k h) in
          let i : x.index ≡ (the_cut c.is k h).number = cc in
          let j : x.inner ≡ (the_cut c.is k h).inner.first = cc in
          let l : x.first ≡ (the_cut c.is k h).struck.first = cc in
          let r : x.after ≡ (the_cut c.is k h).struck.after = cc in
          rw (i, j, l, r) (known_cut h)
      go false q =
          let f : Ok x ≡ found_of (missing (target_count b)) = e ∙ ap found_of (missed c.is k (ltb-false k (target_count b) q)) in
          absurd (let z : ◌≡◌ {A = ℕ} 0 1 = cc in omega arith)

  known_missing : {y : Refusal} → Err y ≡ found_of (cut_of k b) → (target_count b ≤ k) × (y ≡ refusal_of 27 (target_count b))
  known_missing {y} e = go (ltb k (target_count b)) refl
    where
      go : (u : Bool) → ltb k (target_count b) ≡ u → (target_count b ≤ k) × (y ≡ refusal_of 27 (target_count b))
      go true q =
          let h : k < target_count b = ltb-true k (target_count b) q in
          let f : Err y ≡ found_of (cut (the_cut c.is k h)) = e ∙ ap found_of (its_cut c.is k h) in
          absurd (let z : ◌≡◌ {A = ℕ} 0 1 = cc in omega arith)
      go false q =
          let l : target_count b ≤ k = ltb-false k (target_count b) q in
          let f : Err y ≡ found_of (missing (target_count b)) = e ∙ ap found_of (missed c.is k l) in
          (l, cc)

-- Striking what was found, way by way.
pub few_struck : {m : Limits} {b t : List ℕ} {k n index inner first after : ℕ} → Known m b t k n index inner first after → {j : ℕ}
    → j ≡ index + 1 + below after (drop (index + 1) (spots_of Message (decode b))) → j - index ≤ n
few_struck {index = index} f y = omega (arith, f.items, rw (add-one index) at y)

module _ {m : Limits} {b t : List ℕ} {k n index inner first after : ℕ} (f : Known m b t k n index inner first after) {h : Head} (e : h ≡ head_at b inner) where
  pub no_head : {r : ℕ} → h ≡ Bad r → ⊥
  no_head q = let z : Good array f.lead.arg (inner + size f.lead) ≡ Bad _ = sym f.head_there ∙ (sym e ∙ q) in let y : ◌≡◌ {A = ℕ} 0 1 = cc in omega arith

  module _ {kd arg next : ℕ} (q : h ≡ Good kd arg next) where
    same : Good kd arg next ≡ Good array f.lead.arg (inner + size f.lead)
    same = sym q ∙ (e ∙ f.head_there)

    is_arg : arg ≡ f.lead.arg
    is_arg = let z = same in cc

    is_next : next ≡ inner + size f.lead
    is_next = let z = same in cc

    pub some_members : 1 ≤ arg
    some_members = omega (arith, is_arg, f.some)

    pub next_before : next ≤ first
    next_before = omega (arith, is_next, f.between)

    pub in_room : Ordered b inner next first after
    in_room = record { head = omega (arith, is_next); between = next_before; part = omega (arith, f.part_there); within = f.inside }

    module _ {z : ℕ} (s : z ≡ length (head_bytes array (arg - 1))) where
      new_head : z ≡ size (shorter f.lead)
      unfolding lead_of
      new_head = s ∙ (size_of (arg - 1) ∙ rw is_arg)

      small : z ≤ 9
      small = omega (arith, s, size_of (arg - 1), width_le (shortest (arg - 1)))

      pub all_bytes_are : inner + z + (first - next) + (length b - after) ≡ length (struck_bytes k b)
      all_bytes_are = rw (new_head, is_next) (sym f.long)

      pub fits_head : Fits w64 (inner + z)
      fits_head = record { fits = omega (arith, small, f.between, f.part_there, f.inside, f.short) }

      pub fits_between : Fits w64 (inner + z + (first - next))
      fits_between = record { fits = omega (arith, small, f.between, f.part_there, f.inside, f.short) }

      pub fits_all : Fits w64 (inner + z + (first - next) + (length b - after))
      fits_all = record { fits = omega (arith, small, f.between, f.part_there, f.inside, f.short) }

      pub short_room : (room : ℕ) → room < inner + z + (first - next) + (length b - after)
          → refused 16 (inner + z + (first - next) + (length b - after)) ≡ strike_by (accept n) k b room
      short_room room h = rw (all_bytes_are, lt-ltb k (target_count b) f.under, lt-ltb room (length (struck_bytes k b)) (omega (arith, all_bytes_are)))

      module _ (room : ℕ) (enough : inner + z + (first - next) + (length b - after) ≤ room) where
        pub struck_answer : {j : ℕ} → j ≡ index + 1 + below after (drop (index + 1) (spots_of Message (decode b)))
            → Ok (record { items = n - (j - index); bytes = inner + z + (first - next) + (length b - after) }) ≡ strike_by (accept n) k b room
        struck_answer {j} y =
            let items : n - (j - index) ≡ heads (struck k (decode b)) = omega (arith, f.items, rw (add-one index) at y) in
            rw (all_bytes_are, items, lt-ltb k (target_count b) f.under, le-ltb room (length (struck_bytes k b)) (omega (arith, all_bytes_are)))

    copied_is : copied b inner next (arg - 1) first after ≡ struck_bytes k b
    unfolding copied lead_of
    copied_is =
        let z : inner - 0 ≡ inner = omega arith in
        let all : take (length b - after) (drop after b) ≡ drop after b = take_all (length b - after) (drop after b) (omega (arith, length-drop after b)) in
        rw (z, all, head_bytes_lem {k = array} {a = arg - 1} (omega arith) (λ y. absurd (omega arith)), f.bytes, is_next, is_arg) (simp append_assoc)

    pub struck_room : {z : ℕ} → z ≡ length (head_bytes array (arg - 1)) → {o o' : List ℕ} {r : ℕ} → inner + z + (first - next) + (length b - after) ≤ length o
        → Put o o' 0 r (copied b inner next (arg - 1) first after) → o' ≡ struck_bytes k b ++ drop (inner + z + (first - next) + (length b - after)) o
    struck_room {z} s {o} h p =
        let u : List ℕ = struck_bytes k b in
        let long = all_bytes_are s in
        let behind : 0 + length u ≡ inner + z + (first - next) + (length b - after) = omega (arith, long) in
        (rw copied_is at p).bytes ∙ (sets-eq u o 0 (omega (arith, long)) ∙ ap (λ (i : ℕ). u ++ drop i o) behind)

pub ruleset strikings = (few_struck, no_head, some_members, next_before, in_room, fits_head, fits_between, fits_all, short_room, struck_answer, struck_room)

-- the whole
module _ {m : Limits} {b : List ℕ} {n : ℕ} {t : List ℕ} (c : Tabled m Message b n t) (k room : ℕ) {x : Result Found Refusal} (e : x ≡ found_of (cut_of k b)) where
  none_such : {y : Refusal} → x ≡ Err y → Err y ≡ strike_by (accept n) k b room
  none_such q = let (l, z) = known_missing c k (sym q ∙ e) in rw (z, le-ltb k (target_count b) l)

  pub this_one : {y : Found} → x ≡ Ok y → Known m b t k n y.index y.inner y.first y.after
  this_one q = known c k (sym q ∙ e)

module _ (m : Limits) (k : ℕ) (b : List ℕ) (room : ℕ) {a : Result ℕ Refusal} (e : a ≡ result_of (read m Message b)) where
  pub strike_refused : {y : Refusal} → a ≡ Err y → Err y ≡ strike m k b room
  unfolding strike
  strike_refused f = is_refused m Message b e f (λ z. strike_by z k b room) (λ r p. refl)

  module _ {n : ℕ} (f : a ≡ Ok n) where
    pub strike_accepted : {r : Result Struck Refusal} → r ≡ strike_by (accept n) k b room → r ≡ strike m k b room
    unfolding strike
    strike_accepted g = rw (is_accepted m Message b e f) g

    pub strike_missing : {t : List ℕ} → Tabled m Message b n t → {x : Result Found Refusal} → x ≡ found_of (cut_of k b) → {y : Refusal} → x ≡ Err y → Err y ≡ strike m k b room
    strike_missing c g h = strike_accepted (none_such c k room g h)

pub ruleset outcomes = (strike_refused, strike_accepted, strike_missing, this_one)
