-- A message that is cut. The idea: its sets fall into those before the struck one, that one and those behind it; its targets or reports into those before
-- the struck one, that one and those behind it. So old and new bytes, and old and new items, are said part by part.
use Prim.Native.Nat.{ℕ, ◌+◌, ◌-◌, ◌≤◌, ◌<◌}
use mathlib.Core.Path.{◌≡◌, refl, ◌∙◌, ap}
use mathlib.Core.Bool.{Bool, true, false}
use mathlib.Core.List.{List, ◌∷◌, ◌++◌, append_assoc}
use native.Mathlib.Omega.{arith}
use lib.ListN.{length}
use lib.Dec.{ltb}
use borrow.Author.Tests.{ltb-true, ltb-false}
use Rattle.cbor.specs.Head.{array, Lead}
use Rattle.ari.specs.Table.{Place, message, ari, type, value, done, rule}
use Rattle.ari.specs.Items.{Items, none, item, encode, Spot, inside_at, spot_at, spots}
use Rattle.ari.specs.Rules.{Sets, no_more, set}
use Rattle.ari.proofs.Join.{join}
use Rattle.ari.proofs.Well.{trees}
use Rattle.strike.specs.Strike.{without, framing, shorter, count_in, struck_set, struck_sets}
use Rattle.strike.proofs.Runs.{run, behind, Split, split_at, without_join}
use Rattle.strike.proofs.Sets.{Set, set_of}

-- how many targets and reports sets have
abbrev pub set_count : Items → ℕ
set_count none = 0
set_count (item l s ms rs) = count_in ms + set_count rs

-- a set's members with another inner array
abbrev pub two_of : {l : Lead} {s : List ℕ} {ms : Items} → Set l s ms → Lead → Items → Items
two_of x h g = item x.kind x.kind_str x.kind_inside (item h x.str (join x.inner.frame g) none)

module _ {l : Lead} {s : List ℕ} {ms : Items} (x : Set l s ms) where
  pub set_whole : ms ≡ two_of x x.lead x.inner.body
  set_whole = x.whole ∙ ap (λ (g : Items). item x.kind x.kind_str x.kind_inside (item x.lead x.str g none)) x.inner.whole

  pub set_count_lem : count_in ms ≡ trees x.inner.body
  set_count_lem = ap count_in x.whole ∙ (let e = x.inner.arg_is in omega arith)

  pub set_struck : (k : ℕ) → struck_set k ms ≡ two_of x (shorter x.lead) (without k x.inner.body)
  set_struck k =
      ap (struck_set k) set_whole
      ∙ ap (λ (g : Items). item x.kind x.kind_str x.kind_inside (item (shorter x.lead) x.str g none))
      (without_join x.inner.frame x.inner.body (framing x.kind.arg) k x.inner.frame_trees)

-- The sets of a message, cut at target or report k of theirs.
pub record Cutting (k : ℕ) (g : Items) : Type 0 where
  pub before : Items
  pub lead : Lead
  pub str : List ℕ
  pub inside : Items
  pub behind : Items
  pub the_set : Set lead str inside
  pub place : ℕ
  pub parts : Split place the_set.inner.body
  pub whole : g ≡ join before (item lead str inside behind)
  pub now : struck_sets k g ≡ join before (item lead str (two_of the_set (shorter the_set.lead) (without place the_set.inner.body)) behind)
  pub number : set_count before + place ≡ k
  pub stand_before : Sets before
  pub stand_now : Sets (struck_sets k g)

pub cutting : {g : Items} → Sets g → (k : ℕ) → k < set_count g → Cutting k g
cutting no_more k h = absurd (omega arith)
cutting (set {l = l} {s = s} {ms = ms} {rs = rs} a r) k h = go (ltb k (count_in ms)) refl (λ q. cutting r (k - count_in ms) q)
  where
    x : Set l s ms
    x = set_of a

    go : (t : Bool) → ltb k (count_in ms) ≡ t → (k - count_in ms < set_count rs → Cutting (k - count_in ms) rs) → Cutting k (item l s ms rs)
    go true e ih =
        let q : k < trees x.inner.body = omega (arith, set_count_lem x, ltb-true k (count_in ms) e) in
        let n : struck_sets k (item l s ms rs) ≡ item l s (two_of x (shorter x.lead) (without k x.inner.body)) rs = rw (e, set_struck x k) in
        record {
          before = none;
          lead = l;
          str = s;
          inside = ms;
          behind = rs;
          the_set = x;
          place = k;
          parts = split_at k x.inner.body q;
          whole = refl;
          now = n;
          number = omega arith;
          stand_before = no_more;
          stand_now = rw n (set (x.less k q) r);
        }
    go false e ih =
        let q : count_in ms ≤ k = ltb-false k (count_in ms) e in
        let c = ih (omega arith) in
        let n : struck_sets k (item l s ms rs) ≡ item l s ms (struck_sets (k - count_in ms) rs) = rw e in
        record {
          before = item l s ms c.before;
          lead = c.lead;
          str = c.str;
          inside = c.inside;
          behind = c.behind;
          the_set = c.the_set;
          place = c.place;
          parts = c.parts;
          whole = ap (item l s ms) c.whole;
          now = n ∙ ap (item l s ms) c.now;
          number = omega (arith, c.number);
          stand_before = set a c.stand_before;
          stand_now = rw n (set a c.stand_now);
        }

-- The items of a set whose inner array has the head h and the targets or reports g, in a message.
module _ {l : Lead} {s : List ℕ} {ms : Items} (x : Set l s ms) (h : Lead) (g : Items) (p : ℕ) where
  abbrev pub set_spot : Spot
  set_spot = spot_at (ari message) p 0 l s (two_of x h g)

  abbrev pub type_place : ℕ
  type_place = inside_at p l s

  abbrev pub type_spot : Spot
  type_spot = spot_at (type message) type_place 1 x.kind x.kind_str x.kind_inside

  abbrev pub inner_place : ℕ
  inner_place = inside_at type_place x.kind x.kind_str + length (encode x.kind_inside)

  abbrev pub inner_spot : Spot
  inner_spot = spot_at (value x.kind.arg Place.inside) inner_place 1 h x.str (join x.inner.frame g)

  abbrev pub frame_place : ℕ
  frame_place = inside_at inner_place h x.str

  abbrev pub frame_spots : List Spot
  frame_spots = x.inner.frames frame_place 2

  abbrev pub body_place : ℕ
  body_place = frame_place + length (encode x.inner.frame)

  abbrev pub body_spots : List Spot
  body_spots = run x.inner.slot g body_place 2

  pub set_spots : (rs : Items) → h.kind ≡ array → h.arg ≡ framing x.kind.arg + trees g
      → spots (item l s (two_of x h g) rs) true done p 0
      ≡ set_spot ∷ (type_spot ∷ (inner_spot ∷ (frame_spots ++ (body_spots ++ spots rs true done (p + length (encode (item l s (two_of x h g) none))) 0))))
  unfolding rule
  set_spots rs e f =
      let q : ℕ = inside_at p l s + length (encode (two_of x h g)) in
      let place : p + length (encode (item l s (two_of x h g) none)) ≡ q = behind p l s (two_of x h g) none ∙ (let z : q + 0 ≡ q = omega arith in z) in
      let own = x.spots_are h (join x.inner.frame g) type_place 1 in
      let deeper = x.inner.spots_are h g frame_place 2 e f in
      rw (place, own, deeper)
      (ap (λ (z : List Spot). set_spot ∷ (type_spot ∷ (inner_spot ∷ z))) (append_assoc frame_spots body_spots (spots rs true done q 0)))
