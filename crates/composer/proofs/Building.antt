-- An order built: the front and the targets are the message's bytes; where the room is too short for them, so is the limit. What follows of each for the answer.
use Prim.Native.Nat.{ℕ, ◌+◌, ◌-◌, ◌<◌, ◌≤◌, ◌^◌}
use mathlib.Core.Path.{◌≡◌, refl, sym, ◌∙◌, ap}
use mathlib.Core.Bool.{Bool, true, false, not, cond}
use mathlib.Core.List.{List, ◌++◌}
use native.Mathlib.Omega.{arith}
use lib.ListN.{length, get_or, take, drop, length-append}
use lib.Seq.{sets-eq, take-append_seam}
use lib.Dec.{eqb}
use borrow.Author.Tests.{lt-ltb, not-true, not-false}
use mir.Syntax.{w8}
use mir.Val.{Fits}
use Rattle.buffer.specs.Put.{Put}
use Rattle.buffer.proofs.Putting.{put_both, put_size}
use Rattle.buffer.proofs.ByteLaws.{all_bytes}
use Rattle.ari.specs.Table.{max64}
use Rattle.ari.specs.declared.Limits.{Limits}
use Rattle.ari.specs.declared.Input.TheVariants.{Message}
use Rattle.ari.specs.Rules.{Stands}
use Rattle.ari.specs.Limits.{gate_limits, capped}
use Rattle.ari.specs.Items.{Items, encode}
use Rattle.ari.specs.Decode.{decode}
use Rattle.std.specs.Prelude.{Option, Some, None, Result, Ok, Err}
use Rattle.ari.specs.declared.Refusal.{Refusal}
use Rattle.ari.specs.Refusals.{refusal_of}
use Rattle.ari.specs.Refusals as refusals
use Rattle.text.specs.Answer.{refused, lent}
use Rattle.text_write.specs.declared.Written.{Written}
use Rattle.text_write.specs.Written.{written_of, room_after}
use Rattle.composer.specs.Compose.{Nonce, null, number, string, other, nonce_of, in_range, nonce_string, wrong, targets, texts_in, order_of, finished, composed_by, compose}
use Rattle.composer.specs.Code.{feeds, InRange, front_bytes, RestIs, gather_at, TargetsPut, OrderOver, AllBuilt, OrderBuilt, Order}
use Rattle.composer.specs.declared.Built.{Built}
use Rattle.composer.specs.declared.BuildError.{BuildError}
use Rattle.composer.specs.declared.BuildError.TheVariants.{Wrong, Over}
use Rattle.composer.proofs.Texts.{clean, many_feeds}
use Rattle.composer.proofs.Gathering.{Are, gathered_exactly, are_targets, are_many, are_bytes}
use Rattle.composer.proofs.Order.{order_stands, order_bytes, its_tree}
use Rattle.composer.proofs.Order.{front_length as first-target}

less_none : (n : ℕ) → n - 0 ≡ n
less_none n = omega arith

-- what was put from the front on and fits
front_taken : {room room' : List ℕ} {r : ℕ} {u : List ℕ} → Put room room' 0 r u → r ≡ length u → length u ≤ length room → take r room' ≡ u
front_taken {room} {room'} {r} {u} p e h =
    let z : room' ≡ u ++ drop (0 + length u) room = p.bytes ∙ sets-eq u room 0 (omega arith) in
    rw (z, e) (take-append_seam u (drop (0 + length u) room))

-- a nonce's string is one that was lent
pub string_fits : (kind n : ℕ) (s : List ℕ) → length s < 2 ^ 64 → length (nonce_string (nonce_of kind n s)) ≤ max64
string_fits kind n s h = go (eqb kind 0) (eqb kind 1) (eqb kind 2)
  where
    go : (x y z : Bool) → length (nonce_string (cond x null (cond y (number n) (cond z (string s) other)))) ≤ max64
    go true y z = omega arith
    go false true z = omega arith
    go false false true = omega arith
    go false false false = omega arith

-- five heads at least
pub five_heads : (z : Nonce) (n : ℕ) {room room' : List ℕ} {q : ℕ} → Put room room' 0 q (front_bytes z n) → q < length room' → 5 ≤ q
five_heads z n p h =
    omega (arith, p.place, put_size p, first-target z n)

module _ (l : Limits) (b : List ℕ) (bytes : (j : ℕ) → Fits w8 (get_or b j 0)) (fits : length b < 2 ^ 64) where
  -- the texts are all that is gathered
  pub gathered : {n : ℕ} {ts : Items} → gather_at (capped l) b 0 0 ≡ targets n ts → Are (capped l) (texts_in b) n ts
  gathered e = (gathered_exactly (capped l) 0 (texts_in b) (clean b max64 max64 (all_bytes b bytes) (omega arith) (omega arith))).0 e

  module _ {many : ℕ} (f : many ≡ feeds b) where
    as_many : {n : ℕ} {ts : Items} → gather_at (capped l) b 0 0 ≡ targets n ts → n ≡ many
    as_many e = are_many (gathered e) ∙ many_feeds b ∙ sym f

    pub too_many : (z : Nonce) (room : List ℕ) → length room ≤ many → OrderBuilt (capped l) z b room room (Err (Over 0 0))
    too_many z room h = record {
      built = record {
        inside = omega arith;
        numbered = omega arith;
        wrongs = λ j e. e;
        rights = λ y. record {
          many = y.many;
          items = y.items;
          are = y.are;
          long = omega (
            arith,
            as_many y.are,
            are_bytes (gathered y.are),
            ap length (order_bytes z y.many y.items),
            length-append (front_bytes z y.many) (encode y.items),
          );
        };
      };
      sized = refl;
    }

    module _ (z : Nonce) {room room' : List ℕ} {q : ℕ} (p : Put room room' 0 q (front_bytes z many)) where
      front_length : {n : ℕ} {ts : Items} → gather_at (capped l) b 0 0 ≡ targets n ts → length (encode (order_of z n ts)) ≡ length (front_bytes z many) + length (encode ts)
      front_length {n} {ts} e = ap length (order_bytes z n ts) ∙ length-append (front_bytes z n) (encode ts) ∙ rw (as_many e)

      pub front_over : length room' ≤ q → OrderBuilt (capped l) z b room room' (Err (Over 0 0))
      front_over h = record {
        built = record {
          inside = omega arith;
          numbered = omega arith;
          wrongs = λ j e. e;
          rights = λ y. record { many = y.many; items = y.items; are = y.are; long = omega (arith, front_length y.are, p.place, put_size p) };
        };
        sized = put_size p;
      }

      module _ (k : q < length room') (few : many < length room) (room_fits : length room < 2 ^ 64) (nonce_fits : length (nonce_string z) ≤ max64) where
        ends : q ≡ length (front_bytes z many)
        ends = omega (arith, p.place, put_size p)

        pub all_built : {room'' : List ℕ} {r : Result Built BuildError} → TargetsPut (capped l) b room' room'' q 5 r → OrderBuilt (capped l) z b room room'' r
        all_built {room''} {r} t = go r t
          where
            go : (r : Result Built BuildError) → TargetsPut (capped l) b room' room'' q 5 r → OrderBuilt (capped l) z b room room'' r
            go (Err (Wrong j)) x = record { built = x.built; sized = x.sized ∙ put_size p }
            go (Err (Over i j)) x =
                let y = x.built.left_over in
                record {
                  built = record {
                    inside = y.inside;
                    numbered = y.numbered;
                    wrongs = y.wrongs;
                    rights = λ e. let v = y.rights e in record {
                      many = v.many;
                      items = v.items;
                      are = v.are;
                      long = omega (arith, v.long, x.built.over, front_length v.are, ends, x.sized);
                    };
                  };
                  sized = x.sized ∙ put_size p;
                }
            go (Ok v) x =
                let y = x.built in
                let whole = put_both p y.put in
                let n : y.many ≡ many = as_many y.are in
                let bs : encode (order_of z y.many y.items) ≡ front_bytes z many ++ encode y.items = order_bytes z y.many y.items ∙ rw n in
                let len : v.size ≡ length (front_bytes z many ++ encode y.items)
                = omega (arith, y.size_is, ends, length-append (front_bytes z many) (encode y.items)) in
                record {
                  built = record {
                    many = y.many;
                    items = y.items;
                    are = y.are;
                    few = omega (arith, n, few, room_fits);
                    nonce_fits = nonce_fits;
                    bytes = front_taken whole len (omega (arith, len, y.fits, put_size p)) ∙ sym bs;
                    fits = omega (arith, y.fits, x.sized);
                    count_is = omega (arith, y.count_is);
                  };
                  sized = x.sized ∙ put_size p;
                }

  -- what a built order answers
  module _ {z : Nonce} {scratch scratch' : List ℕ} {w : Result Built BuildError} (x : OrderBuilt (capped l) z b scratch scratch' w) where
    module _ {k : ℕ} (e : w ≡ Err (Wrong k)) where
      first_wrong : gather_at (capped l) b 0 0 ≡ wrong k
      first_wrong = (rw e at x).built

      pub wrong_text : (i : ℕ) {f : Refusal} → f ≡ refusal_of 24 k → Err f ≡ written_of (lent i (composed_by (capped l) z (gather_at (capped l) b 0 0)))
      wrong_text i q = rw first_wrong (ap Err q)

      pub wrong_text_kept : (i : ℕ) (room : List ℕ) → room ≡ room_after room (lent i (composed_by (capped l) z (gather_at (capped l) b 0 0)))
      wrong_text_kept i room = rw first_wrong

    module _ {p k : ℕ} (e : w ≡ Err (Over p k)) where
      over : OrderOver (capped l) z b (length scratch') p k
      over = (rw e at x).built

      pub rest_inside : p ≤ length b
      rest_inside = over.inside

      pub rest_numbered : k ≤ p
      rest_numbered = over.numbered

      pub rest_room : gate_limits.bytes < length scratch → gate_limits.bytes ≤ length scratch'
      rest_room h = omega (arith, x.sized)

      module _ {v : Option ℕ} (y : RestIs (gather_at (capped l) b p k) v) where
        module _ {j : ℕ} (f : v ≡ Some j) where
          later_wrong : gather_at (capped l) b 0 0 ≡ wrong j
          later_wrong = over.wrongs j (rw f at y).rest

          pub later_text : (i : ℕ) {f : Refusal} → f ≡ refusal_of 24 j → Err f ≡ written_of (lent i (composed_by (capped l) z (gather_at (capped l) b 0 0)))
          later_text i q = rw later_wrong (ap Err q)

          pub later_text_kept : (i : ℕ) (room : List ℕ) → room ≡ room_after room (lent i (composed_by (capped l) z (gather_at (capped l) b 0 0)))
          later_text_kept i room = rw later_wrong

        module _ (f : v ≡ None) (h : gate_limits.bytes < length scratch) where
          long_order : composed_by (capped l) z (gather_at (capped l) b 0 0) ≡ refused 1 0
          unfolding finished
          long_order =
              let o = over.rights (rw f at y).rest in
              let n : (capped l).bytes < length (encode (order_of z o.many o.items)) = omega (arith, o.long, h, x.sized) in
              ap (composed_by (capped l) z) o.are ∙ too_long (order_of z o.many o.items) n
            where
              too_long : (g : Items) → (capped l).bytes < length (encode g) → finished (capped l) g ≡ refused 1 0
              too_long g n = rw (lt-ltb (capped l).bytes (length (encode g)) n)

          pub too_long_order : (i : ℕ) → refusals.refused 1 0 ≡ written_of (lent i (composed_by (capped l) z (gather_at (capped l) b 0 0)))
          too_long_order i = rw long_order

          pub too_long_order_kept : (i : ℕ) (room : List ℕ) → room ≡ room_after room (lent i (composed_by (capped l) z (gather_at (capped l) b 0 0)))
          too_long_order_kept i room = rw long_order

    module _ {v : Built} (e : w ≡ Ok v) where
      all : AllBuilt (capped l) z b scratch' v.size v.count
      all = (rw e at x).built

      pub order_inside : v.size ≤ length scratch'
      order_inside = all.fits

      module _ (r : in_range z ≡ true) where
        it_stands : Stands Message (order_of z all.many all.items)
        it_stands = order_stands z r all.nonce_fits all.few (are_targets (gathered all.are))

        its_bytes : encode (order_of z all.many all.items) ≡ take (v.size - 0) scratch'
        its_bytes = sym (rw (less_none v.size) all.bytes)

        pub an_order : Order (take (v.size - 0) scratch') v.count
        an_order = record { items = order_of z all.many all.items; stands = it_stands; bytes = its_bytes; count_is = sym all.count_is }

        finished_is : finished (capped l) (decode (take (v.size - 0) scratch')) ≡ composed_by (capped l) z (gather_at (capped l) b 0 0)
        finished_is =
            let d : order_of z all.many all.items ≡ decode (take (v.size - 0) scratch') = its_tree it_stands ∙ ap decode its_bytes in
            ap (finished (capped l)) (sym d) ∙ sym (ap (composed_by (capped l) z) all.are)

        pub finished_order : (i : ℕ) {a : Result Written Refusal} → a ≡ written_of (lent i (finished (capped l) (decode (take (v.size - 0) scratch'))))
            → a ≡ written_of (lent i (composed_by (capped l) z (gather_at (capped l) b 0 0)))
        finished_order i q = rw (← finished_is) q

        pub finished_order_room : (i : ℕ) (room : List ℕ) {room' : List ℕ} → room' ≡ room_after room (lent i (finished (capped l) (decode (take (v.size - 0) scratch'))))
            → room' ≡ room_after room (lent i (composed_by (capped l) z (gather_at (capped l) b 0 0)))
        finished_order_room i room q = rw (← finished_is) q

pub ruleset built = (too_many, front_over, five_heads, all_built, string_fits)

pub ruleset orders = (wrong_text, later_text, too_long_order, finished_order, rest_inside, rest_numbered, rest_room, order_inside, an_order)

pub ruleset orders_left = (wrong_text_kept, later_text_kept, too_long_order_kept, finished_order_room)

-- the nonce is judged first
module _ (l : Limits) (kind n : ℕ) (s b : List ℕ) {x : Bool} (r : InRange kind n x) where
  pub in_range_lem : not x ≡ false → in_range (nonce_of kind n s) ≡ true
  in_range_lem e = sym (r.is s) ∙ not-false x e

  pub no_nonce : not x ≡ true → (i : ℕ) → refusals.refused 7 0 ≡ written_of (lent i (compose (capped l) (nonce_of kind n s) b))
  unfolding compose
  no_nonce e i = rw (← r.is s, not-true x e)

  pub no_nonce_kept : not x ≡ true → (i : ℕ) (room : List ℕ) → room ≡ room_after room (lent i (compose (capped l) (nonce_of kind n s) b))
  unfolding compose
  no_nonce_kept e i room = rw (← r.is s, not-true x e)

  module _ (e : not x ≡ false) where
    pub a_nonce : (i : ℕ) {a : Result Written Refusal} → a ≡ written_of (lent i (composed_by (capped l) (nonce_of kind n s) (gather_at (capped l) b 0 0)))
        → a ≡ written_of (lent i (compose (capped l) (nonce_of kind n s) b))
    unfolding compose
    a_nonce i q = rw (in_range_lem e) q

    pub a_nonce_room : (i : ℕ) (room : List ℕ) {room' : List ℕ} → room' ≡ room_after room (lent i (composed_by (capped l) (nonce_of kind n s) (gather_at (capped l) b 0 0)))
        → room' ≡ room_after room (lent i (compose (capped l) (nonce_of kind n s) b))
    unfolding compose
    a_nonce_room i room q = rw (in_range_lem e) q

pub ruleset nonced = (in_range_lem, no_nonce, a_nonce)

pub ruleset nonced_left = (no_nonce_kept, a_nonce_room)
