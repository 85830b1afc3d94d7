-- Two targets or reports gone through side by side, item by item. The idea: the first ends at the first item that begins behind its last byte, and the
-- second has an item wherever the first has one, as long as all before are alike.
use Prim.Native.Nat.{ℕ, ◌+◌, ◌*◌, ◌≤◌, ◌<◌}
use mathlib.Core.Path.{◌≡◌, refl, sym, ◌∙◌, ap}
use mathlib.Core.Bool.{Bool, true, false, not, ◌&&◌, ◌||◌, cond, true≢false}
use mathlib.Core.List.{List, []}
use native.Mathlib.Omega.{arith}
use lib.ListN.{length, get_or}
use lib.Dec.{eqb, ltb}
use borrow.Author.Tests.{eqb-true, eqb-false, ltb-true, ltb-false, not-true, not-false}
use mir.Syntax.{w64}
use mir.Val.{Fits}
use Rattle.buffer.specs.Bytes.{within as between, same as sameBytes}
use Rattle.cbor.specs.Head.{bytes, text}
use Rattle.ari.specs.Name.{folded_name, same_name}
use Rattle.ari.specs.Table.{Slot}
use Rattle.ari.specs.Same.{takes_name, folded_at}
use Rattle.ari.specs.declared.Input.TheVariants.{Message}
use Rattle.ari.specs.Items.{Spot, spots_of}
use Rattle.ari.specs.Decode.{decode}
use Rattle.grammar.specs.Code.{slot_of, slot_number}
use Rattle.item_table.specs.declared.Item.{Item}
use Rattle.item_table.specs.Entries.{item_of, no_spot, spot_number}
use Rattle.item_table.proofs.Entries.{item_at}
use Rattle.listing.specs.Entries.{string_in}
use Rattle.sameness.specs.Code.{same_string, alike_by}
use Rattle.sameness.proofs.Alike as words
use Rattle.comparison.specs.declared.Difference.{Difference}
use Rattle.comparison.specs.Comparison.{alike, items_of, entry_of}
use Rattle.comparison.specs.Code.{Both, part_at, difference_of, without_items}
use Rattle.comparison.proofs.Runs.{Own, own, fitting}
use Rattle.comparison.proofs.Pairing.{Comparable, same_due, no_strings, Paired, paired, AlikeTo, further, comparable, to_the_end, up_to}
use Rattle.comparison.proofs.Words.{Opened, open_table, count_is, few_words}

string_same : (s : Slot) (u v : List ℕ) → slot_of (slot_number s) ≡ s → same_string (slot_number s) u v ≡ sameBytes (folded_at s u) (folded_at s v)
unfolding same_string same_name
string_same s u v e = rw e (go (takes_name s))
  where
    go : (c : Bool) → cond c (sameBytes (folded_name u) (folded_name v)) (sameBytes u v) ≡ sameBytes (cond c (folded_name u) u) (cond c (folded_name v) v)
    go true = refl
    go false = refl

folded_empty : (s : Slot) → folded_at s [] ≡ []
folded_empty s = go (takes_name s)
  where
    go : (c : Bool) → cond c (folded_name []) [] ≡ []
    go true = refl
    go false = refl

module _ {a b t u : List ℕ} (c : Opened a t) (d : Opened b u) where
  -- two words
  words_alike : (k l : ℕ) → k < length t → l < length u → Comparable (spot_number Message a k) (spot_number Message b l)
      → alike_by a (get_or t k 0) b (get_or u l 0) ≡ alike (spot_number Message a k) (spot_number Message b l)
  unfolding alike
  words_alike k l h g w =
      words.computed c.tabled d.tabled k l h g ∙ kinds (eqb x.lead.kind y.lead.kind) refl
    where
      x : Spot
      x = spot_number Message a k

      y : Spot
      y = spot_number Message b l

      strings : Bool
      strings = sameBytes (folded_at x.slot x.str) (folded_at y.slot y.str)

      read : Bool
      read = same_string (slot_number x.slot) (string_in a x.first) (string_in b y.first)

      both : (z : Bool) → between bytes text x.lead.kind ≡ z → x.lead.kind ≡ y.lead.kind → Comparable x y → (not z || read) ≡ strings
      both true e q (same_due s) =
          rw (words.string_back c.tabled k h e, words.string_back d.tabled l g (rw q at e), ← s)
          (string_same x.slot x.str y.str (words.slot_back c.tabled k h))
      both true e q (no_strings n) = absurd (true≢false (sym e ∙ n q))
      both false e q r =
          let o : x.str ≡ [] = words.empty x.str (words.no_string c.tabled k h e) in
          let p : y.str ≡ [] = words.empty y.str (words.no_string d.tabled l g (rw q at e)) in
          rw (o, p, folded_empty x.slot, folded_empty y.slot)

      args : (z : Bool) → {r s : Bool} → r ≡ s → (z && r) ≡ (z && s)
      args z e = ap (λ (w : Bool). z && w) e

      kinds : (z : Bool) → eqb x.lead.kind y.lead.kind ≡ z
          → ((z && eqb x.lead.arg y.lead.arg) && (not (between bytes text x.lead.kind) || read)) ≡ (z && (eqb x.lead.arg y.lead.arg && strings))
      kinds true e =
          args (eqb x.lead.arg y.lead.arg) (both (between bytes text x.lead.kind) refl (eqb-true x.lead.kind y.lead.kind e) w)
      kinds false e = refl

-- The first items of both are alike, up to those at p and q.
pub record Walk (a t b u : List ℕ) (i j end p q : ℕ) : Type 0 where
  pub both : Both a t i b u j
  pub end_is : end ≡ (spot_number Message a i).after
  pub passed : ℕ
  pub first_at : p ≡ i + passed
  pub second_at : q ≡ j + passed
  pub pairs : AlikeTo (items_of (spot_number Message a i)) (items_of (spot_number Message b j)) passed
  pub inside : passed ≤ length (items_of (spot_number Message a i))

-- shut, so that no search looks inside
pub data Walked (a t b u : List ℕ) (i j end p q : ℕ) : Type 0 where
  walked : Walk a t b u i j end p q → Walked a t b u i j end p q

opened : {a t b u : List ℕ} {i j end p q : ℕ} → Walked a t b u i j end p q → Walk a t b u i j end p q
opened (walked w) = w

module _ {a t b u : List ℕ} {i j : ℕ} (s : Both a t i b u j) where
  pub walked_none : {end : ℕ} → end ≡ (item_of (get_or t i 0)).after → Walked a t b u i j end i j
  walked_none e = walked (record {
    both = s;
    end_is = e ∙ ap (λ (z : Item). z.after) (item_at (open_table s.first).tabled i s.in_first);
    passed = 0;
    first_at = omega arith;
    second_at = omega arith;
    pairs = record { pairs = λ o h. absurd (omega arith) };
    inside = omega arith;
  })

module _ {a t b u : List ℕ} {i j end p q : ℕ} (v : Walked a t b u i j end p q) where
  w : Walk a t b u i j end p q
  w = opened v

  abbrev c : Opened a t
  c = open_table w.both.first

  abbrev d : Opened b u
  d = open_table w.both.second

  abbrev k : ℕ
  k = w.passed

  abbrev x : Spot
  x = spot_number Message a i

  abbrev y : Spot
  y = spot_number Message b j

  in_first : i < length (spots_of Message (decode a))
  in_first = omega (arith, count_is w.both.first, w.both.in_first)

  in_second : j < length (spots_of Message (decode b))
  in_second = omega (arith, count_is w.both.second, w.both.in_second)

  pair : Paired x y
  pair =
      paired x y (fitting c.tabled.is i in_first) (fitting d.tabled.is j in_second) (w.both.at_first.is_one w.both.in_first)
      (w.both.at_second.is_one w.both.in_second)

  own_first : Own (spots_of Message (decode a)) i x
  own_first = own c.tabled.is i in_first

  own_second : Own (spots_of Message (decode b)) j y
  own_second = own d.tabled.is j in_second

  same_entry : length (items_of x) ≤ k → without_items 0 ≡ difference_of (entry_of (part_at a i) (part_at b j))
  same_entry h = rw (to_the_end pair w.pairs h)

  -- numbers stay small
  second_short : q < 131072
  second_short =
      omega (arith, few_words w.both.first, few_words w.both.second, own_first.many, count_is w.both.first, w.inside, w.second_at, w.both.in_second)

  pub second_fits : Fits w64 (q * 8)
  second_fits = record { fits = omega (arith, second_short) }

  pub second_more : Fits w64 (q + 1)
  second_more = record { fits = omega (arith, second_short) }

  -- the first message ends here
  pub ended_all : length t ≤ p → {z : Difference} → z ≡ without_items 0 → z ≡ difference_of (entry_of (part_at a i) (part_at b j))
  ended_all h e = e ∙ same_entry (omega (arith, own_first.many, count_is w.both.first, w.inside, w.first_at))

  module _ (h : p < length t) {f : ℕ} (e : f ≡ (item_of (get_or t p 0)).first) where
    here : i + k < length t
    here = omega (arith, w.first_at)

    place_is : f ≡ (spot_number Message a (i + k)).first
    place_is = e ∙ ap (λ (z : Item). z.first) (item_at c.tabled p h) ∙ ap (λ (n : ℕ). (spot_number Message a n).first) w.first_at

    -- the first target or report ends here
    pub ended_one : end ≤ f → {z : Difference} → z ≡ without_items 0 → z ≡ difference_of (entry_of (part_at a i) (part_at b j))
    ended_one g e = e ∙ go (ltb k (length (items_of x))) refl
      where
        go : (o : Bool) → ltb k (length (items_of x)) ≡ o → without_items 0 ≡ difference_of (entry_of (part_at a i) (part_at b j))
        go true f = absurd (omega (arith, w.end_is, place_is, own_first.inside k (ltb-true k (length (items_of x)) f)))
        go false f = same_entry (ltb-false k (length (items_of x)) f)

    module _ (g : f < end) where
      within_first : k < length (items_of x)
      within_first = go (ltb k (length (items_of x))) refl
        where
          go : (o : Bool) → ltb k (length (items_of x)) ≡ o → k < length (items_of x)
          go true f = ltb-true k (length (items_of x)) f
          go false f = absurd (omega (arith, w.end_is, place_is, own_first.behind k (ltb-false k (length (items_of x)) f) (omega (arith, count_is w.both.first, here))))

      within_second : k < length (items_of y)
      within_second = further pair w.pairs within_first

      pub in_both : q < length u
      in_both = omega (arith, own_second.many, count_is w.both.second, within_second, w.second_at)

      there : j + k < length u
      there = omega (arith, in_both, w.second_at)

      module _ {z : Bool} (r : z ≡ alike_by a (get_or t p 0) b (get_or u q 0)) where
        these : z ≡ alike (get_or (items_of x) k no_spot) (get_or (items_of y) k no_spot)
        these =
            r ∙ ap (λ (n : ℕ). alike_by a (get_or t n 0) b (get_or u q 0)) w.first_at ∙ ap (λ (n : ℕ). alike_by a (get_or t (i + k) 0) b (get_or u n 0)) w.second_at
            ∙ words_alike c d (i + k) (j + k) here there (rw (own_first.item_is k within_first, own_second.item_is k within_second) (comparable pair w.pairs within_first))
            ∙ ap (λ (z : Spot). alike z (spot_number Message b (j + k))) (own_first.item_is k within_first)
            ∙ ap (alike (get_or (items_of x) k no_spot)) (own_second.item_is k within_second)

        pub differ_here : not z ≡ true → ◌≡◌ {A = Difference} (record { what = 1; first = p; second = q }) (difference_of (entry_of (part_at a i) (part_at b j)))
        differ_here n =
            let (f, o) = up_to pair w.pairs within_first (sym these ∙ not-true z n) in
            rw (f, o, ← w.first_at, ← w.second_at)

        pub walked_on : not z ≡ false → Walked a t b u i j end (p + 1) (q + 1)
        walked_on n = walked (record {
          both = w.both;
          end_is = w.end_is;
          passed = k + 1;
          first_at = omega (arith, w.first_at);
          second_at = omega (arith, w.second_at);
          pairs = record { pairs = λ o l. go o l (eqb o k) refl };
          inside = omega (arith, within_first);
        })
          where
            go : (o : ℕ) → o < k + 1 → (m : Bool) → eqb o k ≡ m → alike (get_or (items_of x) o no_spot) (get_or (items_of y) o no_spot) ≡ true
            go o l true f = rw (eqb-true o k f) (sym these ∙ not-false z n)
            go o l false f = let m : o ≡ k → ⊥ = eqb-false o k f in w.pairs.pairs o (omega arith)

pub ruleset walks = (walked_none, second_fits, second_more, ended_all, ended_one, in_both, differ_here, walked_on)
