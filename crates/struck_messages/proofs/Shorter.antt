-- The sets of a message before and after a cut, side by side: the same items, those behind the inner array's head earlier by what the head lost, those behind
-- the struck part earlier by that part too. So the listing is the old one without the part's entries, each moved back by the bytes removed before it.
use Prim.Native.Nat.{ℕ, suc, ◌+◌, ◌-◌, ◌≤◌, ◌<◌}
use mathlib.Core.Path.{◌≡◌, refl, sym, ◌∙◌, ap}
use mathlib.Core.Bool.{Bool, true, false, ◌&&◌}
use mathlib.Core.List.{List, [], ◌∷◌, ◌++◌, append_assoc, map, map-append}
use native.Mathlib.Omega.{arith}
use lib.ListN.{length, length-append}
use lib.Dec.{eqb}
use borrow.Author.Tests.{le-leb, lt-leb}
use Rattle.cbor.specs.Head.{array, Lead, size, lead_of}
use Rattle.cbor.proofs.HeadLaws.{length_lead}
use Rattle.ari.specs.Table.{Place, message, Slot, ari, type, value, done, rule, members, is_reference}
use Rattle.ari.specs.Items.{Items, none, item, encode, Spot, inside_at, spots}
use Rattle.ari.specs.Listing.{Entry}
use Rattle.ari.proofs.Join.{encode_join}
use Rattle.ari.proofs.Well.{trees}
use Rattle.ari.proofs.Spots.{All, spot_too, all_map}
use Rattle.ari.proofs.Members.{within}
use Rattle.strike.specs.Strike.{without, framing, shorter, struck_sets, Cut, head_end}
use Rattle.strike.proofs.Runs.{run, run_join, sets_join, trees_join, behind}
use Rattle.strike.proofs.Sets.{Frame, Set, shorter_size}
use Rattle.strike.proofs.Cutting.{Cutting, two_of, set_spot, type_spot, inner_spot, frame_place, frame_spots, body_place, body_spots, set_spots}
use Rattle.strike.proofs.Parts.{set_place, spots_before, the_inner, spots_front, struck_spot, spots_rest, spots_behind, old_spots, behind_place}
use Rattle.struck_messages.specs.Moved.{moved, moved_entry, staying}
use Rattle.struck_messages.proofs.Moves.{listed, listed_append, listed_none, later_spots, later_run, Lies, lies, lies_run, staying_append, stay_before, stay_behind, go_within, moved_back}

frames_none : {d : ℕ} (xs ys : List Spot) → All (Frame d) xs → listed (xs ++ ys) ≡ listed ys
frames_none [] ys a = refl
frames_none (x ∷ xs) ys (spot_too h a) = listed_none x (xs ++ ys) h.no_reference ∙ frames_none xs ys a

-- a set, its type and its inner array are no references
two_no_reference : (l : Lead) → l.arg ≡ 2 → is_reference (ari message) l ≡ false
unfolding is_reference
two_no_reference l e = rw e (go (rule (ari message)).takes_reference (eqb l.kind array))
  where
    go : (t u : Bool) → (t && (u && false)) ≡ false
    go true true = refl
    go true false = refl
    go false u = refl

type_no_reference : (l : Lead) → is_reference (type message) l ≡ false
unfolding is_reference rule
type_no_reference l = refl

value_no_reference : (t : ℕ) (l : Lead) → is_reference (value t Place.inside) l ≡ false
unfolding is_reference rule
value_no_reference t l = refl

module _ {k : ℕ} {g : Items} (c : Cutting k g) where
  abbrev x : Set c.lead c.str c.inside
  x = c.the_set

  abbrev old : Lead
  old = x.lead

  abbrev new : Lead
  new = shorter old

  abbrev body : Items
  body = x.inner.body

  abbrev left : Items
  left = without c.place body

  abbrev front : Items
  front = c.parts.front

  abbrev rest : Items
  rest = c.parts.rest

  abbrev slot : Slot
  slot = x.inner.slot

  one_fewer : trees body ≡ suc (trees left)
  one_fewer =
      let a = ap trees c.parts.whole ∙ trees_join front (item c.parts.lead c.parts.str c.parts.inside rest) in
      let b = ap trees c.parts.left ∙ trees_join front rest in
      omega (arith, a, b)

  new_arg : new.arg ≡ framing x.kind.arg + trees left
  unfolding lead_of
  new_arg = omega (arith, x.inner.arg_is, one_fewer)

  new_kind : new.kind ≡ array
  unfolding lead_of
  new_kind = refl

  module _ (p : ℕ) where
    abbrev at : ℕ
    at = set_place c p

    abbrev new_body : ℕ
    new_body = body_place x new left at

    abbrev pub new_front : List Spot
    new_front = run slot front new_body 2

    abbrev pub new_rest : List Spot
    new_rest = run slot rest (new_body + length (encode front)) 2

    abbrev pub new_behind : List Spot
    new_behind = spots c.behind true done (at + length (encode (item c.lead c.str (two_of x new left) none))) 0

    pub new_spots : spots (struck_sets k g) true done p 0
        ≡ spots_before c p
        ++ (set_spot x new left at
        ∷ (type_spot x new left at ∷ (inner_spot x new left at ∷ (frame_spots x new left at ++ (new_front ++ (new_rest ++ new_behind))))))
    new_spots =
        ap (λ (z : Items). spots z true done p 0) c.now
        ∙ (sets_join c.before (item c.lead c.str (two_of x new left) c.behind) p 0
        ∙ (ap (λ (z : List Spot). spots_before c p ++ z) (set_spots x new left at c.behind new_kind new_arg)
        ∙ ap (λ (z : List Spot). spots_before c p ++ (set_spot x new left at ∷ (type_spot x new left at ∷ (inner_spot x new left at ∷ (frame_spots x new left at ++ z))))) (ap (λ (z : List Spot). z ++ new_behind) parted ∙ append_assoc new_front new_rest new_behind)))
      where
        parted : body_spots x new left at ≡ new_front ++ new_rest
        parted = ap (λ (z : Items). run slot z new_body 2) c.parts.left ∙ run_join slot front rest new_body 2

    -- what is listed
    set_none : (h : Lead) (u : Items) (ys : List Spot)
        → listed (set_spot x h u at ∷ (type_spot x h u at ∷ (inner_spot x h u at ∷ (frame_spots x h u at ++ ys)))) ≡ listed ys
    set_none h u ys =
        let frames : List Spot = frame_spots x h u at ++ ys in
        listed_none (set_spot x h u at) (type_spot x h u at ∷ (inner_spot x h u at ∷ frames)) (two_no_reference c.lead x.two)
        ∙ (listed_none (type_spot x h u at) (inner_spot x h u at ∷ frames) (type_no_reference x.kind)
        ∙ (listed_none (inner_spot x h u at) frames (value_no_reference x.kind.arg h) ∙ frames_none (frame_spots x h u at) ys (x.inner.each_frame (frame_place x h u at) 2)))

    new_listed : listed (spots (struck_sets k g) true done p 0) ≡ listed (spots_before c p) ++ (listed new_front ++ (listed new_rest ++ listed new_behind))
    new_listed =
        ap listed new_spots
        ∙ (listed_append (spots_before c p) _
        ∙ ap (λ (z : List Entry). listed (spots_before c p) ++ z)
        (set_none new left (new_front ++ (new_rest ++ new_behind))
        ∙ (listed_append new_front (new_rest ++ new_behind) ∙ ap (λ (z : List Entry). listed new_front ++ z) (listed_append new_rest new_behind))))

    abbrev struck : Spot
    struck = struck_spot c p

    old_listed : listed (spots g true done p 0)
        ≡ listed (spots_before c p) ++ (listed (spots_front c p) ++ (listed (struck ∷ within struck) ++ (listed (spots_rest c p) ++ listed (spots_behind c p))))
    old_listed =
        ap listed (old_spots c p)
        ∙ (listed_append (spots_before c p) _
        ∙ ap (λ (z : List Entry). listed (spots_before c p) ++ z)
        (set_none old body (spots_front c p ++ ((struck ∷ within struck) ++ (spots_rest c p ++ spots_behind c p)))
        ∙ (listed_append (spots_front c p) ((struck ∷ within struck) ++ (spots_rest c p ++ spots_behind c p))
        ∙ ap (λ (z : List Entry). listed (spots_front c p) ++ z)
        (listed_append (struck ∷ within struck) (spots_rest c p ++ spots_behind c p) ∙ ap (λ (z : List Entry). listed (struck ∷ within struck) ++ z) (listed_append (spots_rest c p) (spots_behind c p))))))

    -- the places
    abbrev lost : ℕ
    lost = size old - size new

    abbrev gone : ℕ
    gone = struck.after - struck.first

    front_later : body_place x old body at ≡ new_body + lost
    front_later = let h = shorter_size x.inner.head in omega arith

    rest_later : struck.after ≡ new_body + length (encode front) + (lost + gone)
    rest_later = omega (arith, front_later)

    long : (h : Lead) (u : Items) → length (encode (item c.lead c.str (two_of x h u) none))
        ≡ size c.lead + length c.str + (size x.kind + length x.kind_str + length (encode x.kind_inside) + (size h + length x.str + (length (encode x.inner.frame) + length (encode u))))
    long h u =
        let whole = ap length (encode_join x.inner.frame u) ∙ length-append (encode x.inner.frame) (encode u) in
        simp length-append (omega (arith, whole, length_lead c.lead, length_lead x.kind, length_lead h))

    behind_later : at + length (encode (item c.lead c.str (two_of x old body) none)) ≡ at + length (encode (item c.lead c.str (two_of x new left) none)) + (lost + gone)
    behind_later =
        let a = ap length (ap encode c.parts.whole ∙ encode_join front (item c.parts.lead c.parts.str c.parts.inside rest)) ∙ length-append (encode front) (encode (item c.parts.lead c.parts.str c.parts.inside rest)) in
        let b = ap length (ap encode c.parts.left ∙ encode_join front rest) ∙ length-append (encode front) (encode rest) in
        let e = behind 0 c.parts.lead c.parts.str c.parts.inside rest in
        let h = shorter_size x.inner.head in
        omega (arith, a, b, e, h, long old body, long new left)

    module _ (n : ℕ) where
      abbrev o : Cut
      o = record { number = n; inner = the_inner c p; struck = struck }

      -- a place before the head, one between the head and the part, one behind the part
      still : (q : ℕ) → q < head_end o → head_end o ≤ struck.first → moved o (q + 0) ≡ q
      still q h l = rw (lt-leb (head_end o) (q + 0) (omega arith), lt-leb struck.after (q + 0) (omega arith)) (omega arith)

      nearer : (q : ℕ) → head_end o ≤ q + lost → q + lost < struck.after → moved o (q + lost) ≡ q
      nearer q h l = rw (le-leb (head_end o) (q + lost) h, lt-leb struck.after (q + lost) l) (omega arith)

      nearest : (q : ℕ) → head_end o ≤ q + (lost + gone) → struck.after ≤ q + (lost + gone) → moved o (q + (lost + gone)) ≡ q
      nearest q h l = rw (le-leb (head_end o) (q + (lost + gone)) h, le-leb struck.after (q + (lost + gone)) l) (omega arith)

      -- each part is the old one, moved back
      before_part : map (moved_entry o) (listed (spots_before c p)) ≡ listed (spots_before c p)
      before_part =
          let e : p + 0 ≡ p = omega arith in
          ap (map (moved_entry o)) (ap (λ (i : ℕ). listed (spots c.before true done i 0)) (sym e) ∙ later_spots 0 c.before true done p 0)
          ∙ moved_back o 0 p at (λ q l h. still q (omega arith) (omega arith)) (spots_before c p) (lies c.before true done p 0)

      front_part : map (moved_entry o) (listed (spots_front c p)) ≡ listed new_front
      front_part =
          ap (map (moved_entry o)) (ap (λ (i : ℕ). listed (run slot front i 2)) front_later ∙ later_run lost slot front new_body 2)
          ∙ moved_back o lost new_body (new_body + length (encode front)) (λ q l h. nearer q (omega (arith, front_later)) (omega (arith, front_later))) new_front (lies_run slot front new_body 2)

      rest_part : map (moved_entry o) (listed (spots_rest c p)) ≡ listed new_rest
      rest_part =
          let from : ℕ = new_body + length (encode front) in
          ap (map (moved_entry o)) (ap (λ (i : ℕ). listed (run slot rest i 2)) rest_later ∙ later_run (lost + gone) slot rest from 2)
          ∙ moved_back o (lost + gone) from (from + length (encode rest)) (λ q l h. nearest q (omega (arith, rest_later, front_later)) (omega (arith, rest_later))) new_rest (lies_run slot rest from 2)

      behind_part : map (moved_entry o) (listed (spots_behind c p)) ≡ listed new_behind
      behind_part =
          let from : ℕ = at + length (encode (item c.lead c.str (two_of x new left) none)) in
          ap (map (moved_entry o)) (ap (λ (i : ℕ). listed (spots c.behind true done i 0)) behind_later ∙ later_spots (lost + gone) c.behind true done from 0)
          ∙ moved_back o (lost + gone) from (from + length (encode c.behind)) (λ q l h. nearest q (omega (arith, behind_later, behind_place c p)) (omega (arith, behind_later, behind_place c p))) new_behind (lies c.behind true done from 0)

      -- what stays
      stay_all : staying o (listed (spots g true done p 0))
          ≡ listed (spots_before c p) ++ (listed (spots_front c p) ++ (listed (spots_rest c p) ++ listed (spots_behind c p)))
      stay_all =
          ap (staying o) old_listed
          ∙ (staying_append o A (B ++ (C ++ (D ++ E)))
          ∙ (ap (λ (z : List Entry). z ++ staying o (B ++ (C ++ (D ++ E)))) (stay_before o (spots_before c p) (lies c.before true done p 0) (omega arith))
          ∙ ap (λ (z : List Entry). A ++ z)
          (staying_append o B (C ++ (D ++ E))
          ∙ (ap (λ (z : List Entry). z ++ staying o (C ++ (D ++ E))) (stay_before o (spots_front c p) (lies_run slot front (body_place x old body at) 2) (omega arith))
          ∙ ap (λ (z : List Entry). B ++ z)
          (staying_append o C (D ++ E)
          ∙ (ap (λ (z : List Entry). z ++ staying o (D ++ E)) (go_within o (struck ∷ within struck) part (omega arith) (omega arith))
          ∙ (staying_append o D E
          ∙ (ap (λ (z : List Entry). z ++ staying o E) (stay_behind o (spots_rest c p) (lies_run slot rest struck.after 2) (omega arith))
          ∙ ap (λ (z : List Entry). D ++ z) (stay_behind o (spots_behind c p) (lies c.behind true done (at + length (encode (item c.lead c.str (two_of x old body) none))) 0) (omega (arith, behind_place c p)))))))))))
        where
          A : List Entry
          A = listed (spots_before c p)

          B : List Entry
          B = listed (spots_front c p)

          C : List Entry
          C = listed (struck ∷ within struck)

          D : List Entry
          D = listed (spots_rest c p)

          E : List Entry
          E = listed (spots_behind c p)

          part : All (Lies struck.first struck.after) (struck ∷ within struck)
          part =
              spot_too {x = struck} (omega arith, omega arith, omega arith, omega arith)
              (all_map (λ y h. (omega (arith, h.0), h.1, h.2, h.3)) (lies struck.inside false (members slot struck.lead) (inside_at struck.first struck.lead struck.str) 3))

      pub moved_listing : listed (spots (struck_sets k g) true done p 0) ≡ map (moved_entry o) (staying o (listed (spots g true done p 0)))
      moved_listing =
          sym
          (ap (map (moved_entry o)) stay_all
          ∙ (map-append (moved_entry o) (listed (spots_before c p)) _
          ∙ (ap (λ (z : List Entry). z ++ map (moved_entry o) (listed (spots_front c p) ++ (listed (spots_rest c p) ++ listed (spots_behind c p)))) before_part
          ∙ (ap (λ (z : List Entry). listed (spots_before c p) ++ z)
          (map-append (moved_entry o) (listed (spots_front c p)) _
          ∙ (ap (λ (z : List Entry). z ++ map (moved_entry o) (listed (spots_rest c p) ++ listed (spots_behind c p))) front_part
          ∙ ap (λ (z : List Entry). listed new_front ++ z)
          (map-append (moved_entry o) (listed (spots_rest c p)) _
          ∙ (ap (λ (z : List Entry). z ++ map (moved_entry o) (listed (spots_behind c p))) rest_part ∙ ap (λ (z : List Entry). listed new_rest ++ z) behind_part))))
          ∙ sym new_listed))))
