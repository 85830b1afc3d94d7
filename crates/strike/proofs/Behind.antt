-- The items of the struck part: those that begin before its end, from its own on. The idea: an item has as many heads inside it as there are items
-- within it, and those behind it begin behind its end.
use Prim.Native.Nat.{ℕ, suc, ◌+◌, ◌-◌, ◌≤◌, ◌<◌}
use mathlib.Core.Path.{◌≡◌, refl, sym, ◌∙◌, ap}
use mathlib.Core.Bool.{Bool, true, false}
use mathlib.Core.List.{List, [], ◌∷◌, ◌++◌, append_assoc}
use native.Mathlib.Omega.{arith}
use lib.ListN.{length, drop, length-append}
use lib.Seq.{drop_at}
use borrow.Author.Tests.{lt-ltb, le-ltb}
use Rattle.ari.specs.Table.{message, ari, version, Level, done, due, rule, members}
use Rattle.ari.specs.declared.Limits.{Limits}
use Rattle.ari.specs.declared.Input.TheVariants.{Message}
use Rattle.ari.specs.Items.{Items, none, item, encode, heads, Spot, inside_at, spot_at, spots, spots_of}
use Rattle.ari.specs.Decode.{decode}
use Rattle.ari.specs.Rules.{Is}
use Rattle.ari.proofs.Due.{Fit, prev_after}
use Rattle.ari.proofs.Demand.{stands_fit}
use Rattle.ari.proofs.Spots.{All, no_spot_lem, spot_too, all_append, all_map, one_each}
use Rattle.ari.proofs.Members.{within}
use Rattle.strike.specs.Strike.{target_count}
use Rattle.strike.specs.Code.{below}
use Rattle.strike.proofs.Runs.{bounds}
use Rattle.strike.proofs.Cutting.{Cutting, set_spot, type_spot}
use Rattle.strike.proofs.Seeking.{all_apart}
use Rattle.strike.proofs.Parts.{set_place, spots_before, the_inner, spots_framing, spots_front, struck_spot, spots_rest, spots_behind, old_spots, all_behind}
use Rattle.strike.proofs.Striking.{Sent, sent, sets_place, its_spots, parts, the_cut}

-- as many heads inside as items within
abbrev Headed : Spot → Type 0
Headed x = length (within x) ≡ heads x.inside

headed : (g : Items) (more : Bool) (v : Level) (prev : List ℕ) (p d : ℕ) → Fit g more v prev → All Headed (spots g more v p d)
headed none more v prev p d f = no_spot_lem
headed (item l str ms rs) false done prev p d f = no_spot_lem
headed (item l str ms rs) true done prev p d f =
    let q : ℕ = inside_at p l str in
    spot_too {x = spot_at (ari message) p d l str ms} (one_each ms false (members (ari message) l) [] q (suc d) f.1)
    (all_append (headed ms false (members (ari message) l) [] q (suc d) f.1)
    (headed rs true ((rule (ari message)).next l.arg 0) (prev_after (ari message) [] l str) (q + length (encode ms)) d f.2))
headed (item l str ms rs) more (due s n) prev p d f =
    let q : ℕ = inside_at p l str in
    spot_too {x = spot_at s p d l str ms} (one_each ms false (members s l) [] q (suc d) f.1)
    (all_append (headed ms false (members s l) [] q (suc d) f.1)
    (headed rs more ((rule s).next l.arg n) (prev_after s prev l str) (q + length (encode ms)) d f.2))

below_none : (a : ℕ) {ys : List Spot} → All (λ y. a ≤ y.first) ys → below a ys ≡ 0
below_none a no_spot_lem = refl
below_none a (spot_too {x = y} h r) = rw (le-ltb y.first a h)

below_all : (a : ℕ) (xs : List Spot) {ys : List Spot} → All (λ y. y.first < a) xs → All (λ y. a ≤ y.first) ys → below a (xs ++ ys) ≡ length xs
below_all a [] u v = below_none a v
below_all a (x ∷ xs) (spot_too h u) v = rw (lt-ltb x.first a h, below_all a xs u v)

module _ {m : Limits} {b : List ℕ} {n : ℕ} (c : Is m Message b (decode b) n) (k : ℕ) (under : k < target_count b) where
  abbrev x : Sent (decode b)
  x = sent c.stands

  abbrev p : ℕ
  p = sets_place x

  abbrev o : Cutting k x.sets
  o = parts c k under

  abbrev struck : Spot
  struck = struck_spot o p

  abbrev tail : List Spot
  tail = within struck ++ (spots_rest o p ++ spots_behind o p)

  abbrev front : List Spot
  front =
      spot_at version 0 0 x.lead x.str none
      ∷ (spots_before o p
      ++ (set_spot o.the_set o.the_set.lead o.the_set.inner.body (set_place o p)
      ∷ (type_spot o.the_set o.the_set.lead o.the_set.inner.body (set_place o p) ∷ (the_inner o p ∷ (spots_framing o p ++ (spots_front o p ++ (struck ∷ [])))))))

  around_it : spots_of Message (decode b) ≡ front ++ tail
  around_it = its_spots c ∙ (ap (λ (z : List Spot). spot_at version 0 0 x.lead x.str none ∷ z) (old_spots o p) ∙ sym (simp append_assoc))

  struck_headed : All Headed (front ++ tail) → Headed struck
  struck_headed a = go (all_apart (spots_before o p) (first (all_apart front a).0)).1
    where
      first : All Headed front → All Headed (spots_before o p ++ (set_spot o.the_set o.the_set.lead o.the_set.inner.body (set_place o p)
          ∷ (type_spot o.the_set o.the_set.lead o.the_set.inner.body (set_place o p) ∷ (the_inner o p ∷ (spots_framing o p ++ (spots_front o p ++ (struck ∷ [])))))))
      first (spot_too h z) = z

      last : All Headed (struck ∷ []) → Headed struck
      last (spot_too h z) = h

      go : All Headed (set_spot o.the_set o.the_set.lead o.the_set.inner.body (set_place o p)
          ∷ (type_spot o.the_set o.the_set.lead o.the_set.inner.body (set_place o p) ∷ (the_inner o p ∷ (spots_framing o p ++ (spots_front o p ++ (struck ∷ [])))))) → Headed struck
      go (spot_too q₁ (spot_too q₂ (spot_too q₃ z))) = last (all_apart (spots_front o p) (all_apart (spots_framing o p) z).1).1

  pub items_behind : below struck.after (drop (suc (the_cut c k under).number) (spots_of Message (decode b))) ≡ heads struck.inside
  items_behind =
      let long : length front ≡ suc (the_cut c k under).number = simp length-append (omega arith) in
      let inside : All (λ y. y.first < struck.after) (within struck) = all_map (λ y h. omega (arith, h.1, h.2)) (bounds struck.inside false (members struck.slot struck.lead) (inside_at struck.first struck.lead struck.str) (suc struck.around)) in
      ap (below struck.after) (ap (drop (suc (the_cut c k under).number)) around_it ∙ drop_at front tail (suc (the_cut c k under).number) long)
      ∙ (below_all struck.after (within struck) inside (all_behind o p)
      ∙ struck_headed (rw around_it at (headed (decode b) true (due version 0) [] 0 0 (stands_fit c.stands))))

  pub item_there : (the_cut c k under).number < length (spots_of Message (decode b))
  item_there =
      let long : length front ≡ suc (the_cut c k under).number = simp length-append (omega arith) in
      omega (arith, ap length around_it, length-append front tail)
