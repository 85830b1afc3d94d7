-- The chain, link by link, over the words of the item table. The idea: the whole chain is the links so far and those of the items from k on.
use Prim.Native.Nat.{ℕ, suc, ◌+◌, ◌-◌, ◌*◌, ◌<◌, ◌≤◌}
use mathlib.Core.Path.{◌≡◌, refl, sym, ◌∙◌, ap}
use mathlib.Core.Bool.{Bool, true, false, ◌&&◌, not, cond}
use mathlib.Core.List.Memᴰ
use mathlib.Core.List.{List, [], ◌∷◌, ◌++◌, append_assoc, append-nil, Memᴰ}
use native.Mathlib.Omega.{arith}
use native.Mathlib.Numerals.{add-one}
use lib.ListN.{length, get_or, set, drop, length-append}
use lib.Seq.{drop-cons, drop-length, set_at}
use lib.Dec.{eqb}
use mir.Syntax.{w64}
use mir.Val.{Fits}
use borrow.Author.Tests.{le-leb, lt-leb, ne_eqb, eqb-true}
use Rattle.buffer.proofs.ByteLaws.{and-true}
use Rattle.cbor.specs.Head.{array, is_container}
use Rattle.ari.specs.Table.{rule, is_reference}
use Rattle.ari.specs.declared.Limits.{Limits}
use Rattle.ari.specs.declared.Input.TheVariants.{Message}
use Rattle.ari.specs.Limits.{gate_limits}
use Rattle.ari.specs.Items.{Spot, spots_of}
use Rattle.ari.specs.Decode.{decode}
use Rattle.ari.specs.Rules.{Is}
use Rattle.ari.specs.Listing.{Entry, referring, listing}
use Rattle.ari.specs.Listing as ari
use Rattle.ari.specs.Targets.{around}
use Rattle.ari.proofs.Spots.{spot_count}
use Rattle.grammar.specs.Code.{slot_number}
use Rattle.grammar.proofs.Right.{number_slot}
use Rattle.item_table.specs.declared.Item.{Item}
use Rattle.item_table.specs.Entries.{no_spot, item_of, spot_number, Tabled}
use Rattle.item_table.proofs.Entries.{there, fine_at, item_at}
use Rattle.why_held.specs.declared.Link.{Link}
use Rattle.why_held.specs.declared.Chain.{Chain}
use Rattle.why_held.specs.Chain.{a_set, member_of, meaning_of, link_by, link_of, chain_from, chain}
use Rattle.why_held.specs.Why.{no_link, in_room}
use Rattle.why_held.specs.Code.{slot_meaning_by, meaning_by, chain_by, IsListed}
use Rattle.why_held.proofs.Paths.{holders, few_holders}

-- what an ARI inside another means
module _ (a : ℕ) where
  pub in_parameters : a ≡ 3 → 4 ≡ member_of a
  in_parameters e = rw e

  pub in_report : (a ≡ 3 → ⊥) → a ≡ 6 → 8 ≡ member_of a
  in_report n e = rw e

  pub in_collection : (a ≡ 3 → ⊥) → (a ≡ 6 → ⊥) → 9 ≡ member_of a
  in_collection n e = rw (ne_eqb a 3 n, ne_eqb a 6 e)

-- a link, with and without a key
module _ (first after meaning before : ℕ) where
  pub with_key : meaning ≡ 5 → ◌≡◌ {A = Link} (record { first = first; after = after; meaning = meaning; key = before }) (link_by first after meaning before)
  with_key e = rw e

  pub without_key : (meaning ≡ 5 → ⊥) → ◌≡◌ {A = Link} (record { first = first; after = after; meaning = meaning; key = 18446744073709551615 }) (link_by first after meaning before)
  without_key n = rw (ne_eqb meaning 5 n)

-- what a slot means, by itself or by the container around it
module _ (a i : ℕ) {k : ℕ} (e : k ≡ slot_meaning_by i) where
  pub by_around : k ≡ 10 → {r : ℕ} → r ≡ member_of a → r ≡ meaning_by a i
  unfolding meaning_by
  by_around f g = g ∙ rw (← e, f)

  pub by_itself : (k ≡ 10 → ⊥) → k ≡ meaning_by a i
  unfolding meaning_by
  by_itself n = rw (← e, ne_eqb k 10 n)

pub ruleset link_ways = (in_parameters, in_report, in_collection, with_key, without_key, by_around, by_itself)

-- a link for each item that holds the entry
chain_length : (x : Spot) (m p : ℕ) (ys : List Spot) → length (chain_from m p ys x.first x.after) ≡ length (holders x ys)
chain_length x m p [] = refl
chain_length x m p (y ∷ ys) =
    go (around y x.first x.after) (chain_length x (meaning_of m y.slot) y.first ys) (chain_length x m y.first ys)
  where
    go : (t : Bool) → length (chain_from (meaning_of m y.slot) y.first ys x.first x.after) ≡ length (holders x ys)
        → length (chain_from m y.first ys x.first x.after) ≡ length (holders x ys)
        → length (cond t (link_of (meaning_of m y.slot) p y ∷ chain_from (meaning_of m y.slot) y.first ys x.first x.after) (chain_from m y.first ys x.first x.after))
        ≡ length (cond t (y ∷ holders x ys) (holders x ys))
    go true e f = ap suc e
    go false e f = f

-- a listed reference is one of the items, and a container
pub record Referring (b : List ℕ) (first after : ℕ) : Type 0 where
  pub spot : Spot
  pub at : Memᴰ spot (spots_of Message (decode b))
  pub holds : is_container spot.lead.kind ≡ true
  pub first_is : first ≡ spot.first
  pub after_is : after ≡ spot.after

pub reference_mem : {x : Spot} (xs : List Spot) → Memᴰ x (referring xs) → (Memᴰ x xs) × (is_reference x.slot x.lead ≡ true)
reference_mem [] m = absurd (Memᴰ.not-nil m)
reference_mem {x} (y ∷ ys) m = go (is_reference y.slot y.lead) refl m (λ k. reference_mem ys k)
  where
    go : (t : Bool) → is_reference y.slot y.lead ≡ t → Memᴰ x (cond t (y ∷ referring ys) (referring ys))
        → (Memᴰ x (referring ys) → (Memᴰ x ys) × (is_reference x.slot x.lead ≡ true)) → (Memᴰ x (y ∷ ys)) × (is_reference x.slot x.lead ≡ true)
    go true e (Memᴰ.head q) r = (Memᴰ.head q, rw q e)
    go true e (Memᴰ.tail k) r = (Memᴰ.tail (r k).0, (r k).1)
    go false e k r = (Memᴰ.tail (r k).0, (r k).1)

reference_array : (x : Spot) → is_reference x.slot x.lead ≡ true → is_container x.lead.kind ≡ true
unfolding is_reference is_container
reference_array x e =
    let l = x.lead in
    let q = (and-true (eqb l.kind array) (not (eqb l.arg 2)) (and-true (rule x.slot).takes_reference (eqb l.kind array && not (eqb l.arg 2)) e).1).0 in
    rw (eqb-true l.kind array q)

pub referring_of : {b : List ℕ} {first after : ℕ} → IsListed b first after → Referring b first after
unfolding listing
referring_of {b} l =
    let (x, m, e) = Memᴰ.of_map ari.entry_of (referring (spots_of Message (decode b))) l.listed in
    let (at, is) = reference_mem (spots_of Message (decode b)) m in
    record { spot = x; at = at; holds = reference_array x is; first_is = l.first_is ∙ ap (λ (z : Entry). z.first) (sym e); after_is = l.after_is ∙ ap (λ (z : Entry). z.after) (sym e) }

few_of : {m : Limits} {b : List ℕ} {n : ℕ} → Is m Message b (decode b) n → (x : Spot) → Memᴰ x (spots_of Message (decode b)) → is_container x.lead.kind ≡ true
    → {first after : ℕ} → first ≡ x.first → after ≡ x.after → length (chain b first after) ≤ m.containers
unfolding chain
few_of {b = b} c x at h e f = rw (e, f) (rw (← chain_length x a_set 0 (spots_of Message (decode b))) at (few_holders c x at h))

-- R174: no more links than containers may be open
pub few_links : {m : Limits} {b : List ℕ} {n first after : ℕ} → Is m Message b (decode b) n → IsListed b first after → length (chain b first after) ≤ m.containers
few_links c l = let r = referring_of l in few_of c r.spot r.at r.holds r.first_is r.after_is

-- the chain so far: its links, those of the items from k on, and the room
pub record Going (b : List ℕ) (first after : ℕ) (links : List Link) (n m p k : ℕ) : Type 0 where
  pub done : List Link
  pub whole : chain b first after ≡ done ++ chain_from m p (drop k (spots_of Message (decode b))) first after
  pub room : links ≡ in_room done
  pub count : n ≡ length done

module _ {m : Limits} {b t : List ℕ} {n : ℕ} (c : Tabled m Message b n t) (first after : ℕ) where
  abbrev xs : List Spot
  xs = spots_of Message (decode b)

  pub going_none : Going b first after (in_room []) 0 0 0 0
  unfolding chain
  going_none = record { done = []; whole = refl; room = refl; count = refl }

  pub gone_all : {links : List Link} {i around before k : ℕ} → Going b first after links i around before k → n ≤ k → k ≤ n
      → ◌≡◌ {A = Chain} (record { links = links; count = i }) (chain_by b first after)
  gone_all {k = k} g h l =
      let e : k ≡ length xs = omega (arith, spot_count c.is) in
      let w : chain b first after ≡ g.done = g.whole ∙ rw (e, drop-length xs) (append-nil g.done) in
      rw (w, g.room, g.count)

  module _ {links : List Link} {i m' p k : ℕ} (g : Going b first after links i m' p k) (h : k < n) {x : Item} (e : x ≡ item_of (get_or t k 0)) where
    abbrev y : Spot
    y = spot_number Message b k

    from_here : drop k xs ≡ y ∷ drop (k + 1) xs
    from_here = rw (add-one k) (drop-cons xs k no_spot (there c k h))

    first_is : x.first ≡ y.first
    first_is = ap (λ (z : Item). z.first) (e ∙ item_at c k h)

    after_is : x.after ≡ y.after
    after_is = ap (λ (z : Item). z.after) (e ∙ item_at c k h)

    meaning_is : (a : ℕ) → meaning_by a x.slot ≡ meaning_of a y.slot
    unfolding meaning_by
    meaning_is a =
        let f = fine_at c k h in
        let q : slot_number y.slot ≡ f.number = ap slot_number (sym f.slot_is) ∙ number_slot f.number f.is_slot in
        rw (e ∙ item_at c k h, q, f.slot_is)

    passed_by : around y first after ≡ false → Going b first after links i m' x.first (k + 1)
    passed_by f = record { done = g.done; whole = g.whole ∙ rw (from_here, f, first_is); room = g.room; count = g.count }

    pub begins_later : first < x.first → Going b first after links i m' x.first (k + 1)
    begins_later l = passed_by (rw (lt-leb y.first first (omega (arith, first_is))))

    pub ends_before : x.first ≤ first → x.after < after → Going b first after links i m' x.first (k + 1)
    ends_before l q = passed_by (rw (le-leb y.first first (omega (arith, first_is)), lt-leb after y.after (omega (arith, after_is))))

    module _ (l : x.first ≤ first) (q : after ≤ x.after) where
      abbrev rest : List Link
      rest = chain_from (meaning_of m' y.slot) y.first (drop (k + 1) xs) first after

      linked : chain b first after ≡ g.done ++ (link_of (meaning_of m' y.slot) p y ∷ rest)
      linked = g.whole ∙ rw (from_here, le-leb y.first first (omega (arith, first_is)), le-leb after y.after (omega (arith, after_is)))

      -- there is room for it
      pub roomy : m.containers ≤ gate_limits.containers → IsListed b first after → i < gate_limits.containers
      roomy few s =
          let z : length (chain b first after) ≡ length g.done + suc (length rest) = ap length linked ∙ length-append g.done _ in
          omega (arith, few_links c.is s, g.count, z)

      pub roomy_fits : m.containers ≤ gate_limits.containers → IsListed b first after → Fits w64 (i * 32)
      roomy_fits few s = let z = roomy few s in omega arith

      pub roomy_next : m.containers ≤ gate_limits.containers → IsListed b first after → Fits w64 (i + 1)
      roomy_next few s = let z = roomy few s in omega arith

      pub one_link : i < gate_limits.containers → {a : ℕ} → a ≡ meaning_by m' x.slot → {z : Link} → z ≡ link_by x.first x.after a p
          → Going b first after (set links i z) (i + 1) a x.first (k + 1)
      one_link few {a} ea {z} ez =
          let a-is : a ≡ meaning_of m' y.slot = ea ∙ meaning_is m' in
          let z-is : z ≡ link_of (meaning_of m' y.slot) p y = ez ∙ rw (first_is, after_is, a-is) in
          let left : gate_limits.containers - length g.done ≡ suc (gate_limits.containers - length (g.done ++ (z ∷ []))) =
          simp length-append (omega (arith, g.count)) in
          record {
            done = g.done ++ (z ∷ []);
            whole = linked ∙ rw (a-is, first_is, z-is) (sym (append_assoc g.done _ rest));
            room = ap (λ (s : List Link). set s i z) g.room ∙ rw left (set_at g.done no_link _ z i (sym g.count) ∙ sym (append_assoc g.done (z ∷ []) _));
            count = simp length-append (omega (arith, g.count));
          }

pub ruleset goings = (going_none, gone_all, begins_later, ends_before, roomy, roomy_fits, roomy_next, one_link)
