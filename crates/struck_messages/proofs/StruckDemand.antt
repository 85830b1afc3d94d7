-- R202 to R206 in their own words: for every accepted message and every number of a target or report of its.
use Prim.Native.Nat.{ℕ, zero, suc, ◌≤◌, ◌<◌}
use mathlib.Core.Logic.{◌⊎◌, inl, inr, ◌↔◌}
use mathlib.Core.Path.{◌≡◌, refl, sym, ◌∙◌, ap}
use mathlib.Core.Bool.{Bool, true, false, cond}
use mathlib.Core.List.Memᴰ
use mathlib.Core.List.{List, [], ◌∷◌, map, Memᴰ}
use native.Mathlib.Omega.{arith}
use lib.ListN.{length, length-map}
use lib.Dec.{ltb}
use borrow.Author.Tests.{ltb-true, ltb-false}
use Rattle.buffer.specs.Bytes.{all, is_byte}
use Rattle.std.specs.declared.option.Option.{Option}
use Rattle.std.specs.declared.option.Option.TheVariants.{Some, None}
use Rattle.cbor.specs.Head.{Lead}
use Rattle.ari.specs.Table.{version, done, rule, is_reference}
use Rattle.ari.specs.declared.Limits.{Limits}
use Rattle.ari.specs.declared.Input.TheVariants.{Message}
use Rattle.ari.specs.Reader.{accept, read}
use Rattle.ari.specs.Items.{none, heads, Spot, spot_at, spots, spots_of}
use Rattle.ari.specs.Decode.{decode}
use Rattle.ari.specs.Rules.{Is}
use Rattle.ari.specs.Listing.{Space, number, name, relative, Entry, listing}
use Rattle.ari.specs.Targets.{targets}
use Rattle.ari.proofs.Demand.{demand_two, is_read, unique}
use Rattle.names.specs.Names.{number_for}
use Rattle.names.specs.Translated.{numbered, stands_for}
use Rattle.grants.specs.Grants.{Grant}
use Rattle.grants.specs.Bytes.{rows}
use Rattle.grants.proofs.Grants.{Granted}
use Rattle.release.specs.Release.{yes, release, release_bytes}
use Rattle.release.proofs.Clause.{released_exactly_if, released_under_checked, whole_rows}
use Rattle.strike.specs.Strike.{struck_sets, struck, struck_bytes, target_count, Cut, cut, missing, cut_of, cut_bytes}
use Rattle.strike.proofs.Striking.{Sent, sent, sets_place, sent_spots, its_spots, sets_clear, missed, parts, the_cut, its_cut, struck_is, in_order, three_copies, struck_length, fewer_items, struck_is_one}
use Rattle.strike.proofs.Sets.{shorter_size}
use Rattle.struck_messages.specs.Moved.{Unplaced, unplaced, left_out, moved, moved_space, moved_entry, is_inside, staying}
use Rattle.struck_messages.proofs.Moves.{listed, listed_none}
use Rattle.struck_messages.proofs.Shorter.{moved_listing}
use Rattle.struck_messages.proofs.Kept.{kept_without}

-- what stays was listed
staying_listed : {e : Entry} (c : Cut) (es : List Entry) → Memᴰ e (staying c es) → Memᴰ e es
staying_listed c [] m = absurd (Memᴰ.not-nil m)
staying_listed {e} c (d ∷ es) m = go (is_inside c d) m (λ h. staying_listed c es h)
  where
    go : (t : Bool) → Memᴰ e (cond t (staying c es) (d ∷ staying c es)) → (Memᴰ e (staying c es) → Memᴰ e es) → Memᴰ e (d ∷ es)
    go true h ih = Memᴰ.tail (ih h)
    go false h ih = cases (Memᴰ.cases_cons h)
      where
        cases : (e ≡ d) ⊎ Memᴰ e (staying c es) → Memᴰ e (d ∷ es)
        cases (inl q) = Memᴰ.head q
        cases (inr q) = Memᴰ.tail (ih q)

-- a name stands for the same number at another place
granted_moved : (t : List Grant) (s : ℕ) (published own : List ℕ) (c : Cut) (x : Space) → Granted t s (stands_for published own x) → Granted t s (stands_for published own (moved_space c x))
granted_moved t s published own c (number z) g = g
granted_moved t s published own c relative g = g
granted_moved t s published own c (name p n) g = go (number_for published own n) g
  where
    go : (v : Option ℕ) → Granted t s (numbered v (name p n)) → Granted t s (numbered v (name (moved c p) n))
    go (Some w) h = h
    go None h = absurd (let q = h.a_number in let z : ◌≡◌ {A = ℕ} 0 1 = cc in omega arith)

version_no_reference : (l : Lead) → is_reference version l ≡ false
unfolding is_reference rule
version_no_reference l = refl

one_less : (k : ℕ) (xs : List Unplaced) → k < length xs → suc (length (left_out k xs)) ≡ length xs
one_less k [] h = absurd (omega arith)
one_less zero (x ∷ xs) h = refl
one_less (suc k) (x ∷ xs) h = ap suc (one_less k xs (omega arith))

module _ (m : Limits) (b : List ℕ) (bytes : all is_byte b ≡ true) {n : ℕ} (a : read m Message b ≡ accept n) (k : ℕ) where
  is : Is m Message b (decode b) n
  is = (demand_two m Message b n bytes).0 a

  -- R203, R207: it is cut exactly if there is such a target or report; if there is none, the search ends with their count.
  pub none_such : target_count b ≤ k → cut_of k b ≡ missing (target_count b)
  none_such h = missed is k h

  pub cut_exactly_if : (k < target_count b) ↔ ((c : Cut) × (cut_of k b ≡ cut c))
  cut_exactly_if = (λ h. (the_cut is k h, its_cut is k h), λ (c, e). go (ltb k (target_count b)) refl c e)
    where
      go : (t : Bool) → ltb k (target_count b) ≡ t → (c : Cut) → cut_of k b ≡ cut c → k < target_count b
      go true q c e = ltb-true k (target_count b) q
      go false q c e = let f : missing (target_count b) ≡ cut c = sym (none_such (ltb-false k (target_count b) q)) ∙ e in absurd (let z : ◌≡◌ {A = ℕ} 0 1 = cc in omega arith)

  module _ (below : k < target_count b) where
    one : Is m Message (struck_bytes k b) (struck k (decode b)) (heads (struck k (decode b)))
    one = struck_is_one is k below

    -- R204: The shorter message is accepted, within the same limits; it has fewer items and fewer bytes.
    pub accepted_after : read m Message (struck_bytes k b) ≡ accept (heads (struck k (decode b)))
    accepted_after = is_read m Message (struck_bytes k b) one

    pub fewer_heads : heads (struck k (decode b)) < n
    fewer_heads = omega (arith, fewer_items is k below)

    pub fewer_bytes : length (struck_bytes k b) < length b
    fewer_bytes = omega (arith, struck_length is k below, in_order is k below, shorter_size (parts is k below).the_set.inner.head)

    its_tree : decode (struck_bytes k b) ≡ struck k (decode b)
    its_tree = sym (unique m Message (struck_bytes k b) one)

    abbrev x : Sent (decode b)
    x = sent is.stands

    new_spots : spots_of Message (decode (struck_bytes k b)) ≡ spot_at version 0 0 x.lead x.str none ∷ spots (struck_sets k x.sets) true done (sets_place x) 0
    new_spots = ap (spots_of Message) (its_tree ∙ struck_is is k below) ∙ sent_spots x.lead x.str (struck_sets k x.sets)

    -- R204: Its targets and reports are the others, the same and in order,
    pub others_stay : map unplaced (targets (spots_of Message (decode (struck_bytes k b)))) ≡ left_out k (map unplaced (targets (spots_of Message (decode b))))
    others_stay =
        ap (λ (xs : List Spot). map unplaced (targets xs)) new_spots
        ∙ (kept_without (parts is k below) (sets_place x) (sets_clear is) ∙ sym (ap (λ (xs : List Spot). left_out k (map unplaced (targets xs))) (its_spots is)))

    -- one fewer.
    pub one_target_fewer : suc (target_count (struck_bytes k b)) ≡ target_count b
    unfolding target_count
    one_target_fewer =
        let old : List Unplaced = map unplaced (targets (spots_of Message (decode b))) in
        let l : length old ≡ target_count b = length-map (targets (spots_of Message (decode b))) unplaced in
        let r = length-map (targets (spots_of Message (decode (struck_bytes k b)))) unplaced in
        omega (arith, l, r, ap length others_stay, one_less k old (omega (arith, l)))

    module _ (c : Cut) (e : cut_of k b ≡ cut c) where
      same_cut : c ≡ the_cut is k below
      same_cut = let q : cut c ≡ cut (the_cut is k below) = sym e ∙ its_cut is k below in cc

      -- R203: Over its bytes it is three copies around the struck part, and one head.
      pub by_bytes : struck_bytes k b ≡ cut_bytes b c
      by_bytes = rw same_cut (three_copies is k below)

      -- R205: Its listing is the old one without the entries inside the struck part, each place moved by the bytes removed before it.
      pub listing_after : listing (struck_bytes k b) ≡ map (moved_entry c) (staying c (listing b))
      unfolding listing
      listing_after =
          ap listed new_spots
          ∙ (unlisted (spots (struck_sets k x.sets) true done (sets_place x) 0)
          ∙ (moved_listing (parts is k below) (sets_place x) (the_cut is k below).number
          ∙ (ap (λ (o : Cut). map (moved_entry o) (staying o (listed (spots x.sets true done (sets_place x) 0)))) (sym same_cut)
          ∙ sym (ap (λ (es : List Entry). map (moved_entry c) (staying c es)) (ap listed (its_spots is) ∙ unlisted (spots x.sets true done (sets_place x) 0))))))
        where
          unlisted : (xs : List Spot) → listed (spot_at version 0 0 x.lead x.str none ∷ xs) ≡ listed xs
          unlisted xs = listed_none (spot_at version 0 0 x.lead x.str none) xs (version_no_reference x.lead)

    -- R206: A message released before is released after, by the same table and lists for the same subscriber.
    pub released_after : (t : List Grant) (published own : List ℕ) (s : ℕ) → release m b t published own s ≡ yes → release m (struck_bytes k b) t published own s ≡ yes
    released_after t published own s r =
        (released_exactly_if m (struck_bytes k b) t published own s).1
        ((heads (struck k (decode b)), accepted_after), λ e h. granted e (rw (listing_after (the_cut is k below) (its_cut is k below)) at h))
      where
        o : Cut
        o = the_cut is k below

        granted : (e : Entry) → Memᴰ e (map (moved_entry o) (staying o (listing b))) → Granted t s (stands_for published own e.space)
        granted e h =
            let (d, l, z) = Memᴰ.of_map (moved_entry o) (staying o (listing b)) h in
            rw (← z) (granted_moved t s published own o d.space (((released_exactly_if m b t published own s).0 r).1 d (staying_listed o (listing b) l)))

    -- the same by a table of bytes
    pub bytes_released_after : (t published own : List ℕ) (s : ℕ) → release_bytes m b t published own s ≡ yes → release_bytes m (struck_bytes k b) t published own s ≡ yes
    bytes_released_after t published own s r =
        let (formed, whole, r') = released_under_checked m b t published own s r in
        whole_rows m (struck_bytes k b) published own s formed t whole ∙ released_after (rows t) published own s r'
