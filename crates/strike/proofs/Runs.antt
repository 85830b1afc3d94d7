-- Runs of items and their places: a level of one slot, runs joined, how far they reach, and what a run lists at another place.
use Prim.Native.Nat.{ℕ, zero, suc, ◌+◌, ◌-◌, ◌≤◌, ◌<◌, max}
use mathlib.Core.Path.{◌≡◌, refl, sym, ap}
use mathlib.Core.Bool.{Bool, true, false, cond}
use mathlib.Core.List.{List, [], ◌∷◌, ◌++◌, append_assoc}
use native.Mathlib.Omega.{arith}
use lib.ListN.{length, length-append}
use Rattle.cbor.specs.Head.{Lead, is_container}
use Rattle.cbor.proofs.HeadLaws.{length_lead}
use Rattle.ari.specs.Table.{message, Slot, ari, Level, done, due, many, rule, members}
use Rattle.ari.specs.Items.{Items, none, item, encode, depth, Spot, inside_at, spot_at, spots}
use Rattle.ari.proofs.Join.{join}
use Rattle.ari.proofs.Well.{trees}
use Rattle.ari.proofs.Spots.{All, no_spot_lem, spot_too, all_append, all_map, Between}
use Rattle.strike.specs.Strike.{without}

-- the items of a level that all stand at one slot
abbrev pub run : Slot → Items → ℕ → ℕ → List Spot
run s none p d = []
run s (item l str ms rs) p d =
    spot_at s p d l str ms ∷ (spots ms false (members s l) (inside_at p l str) (suc d) ++ run s rs (inside_at p l str + length (encode ms)) d)

-- a slot that is due again and again
pub record Again (s : Slot) : Type 0 where
  pub next : (a n : ℕ) → (rule s).next a n ≡ many s n

pub run_many : {s : Slot} → Again s → (g : Items) (p d : ℕ) → spots g false (many s (trees g)) p d ≡ run s g p d
run_many a none p d = refl
run_many {s} a (item l str ms rs) p d =
    let q : ℕ = inside_at p l str + length (encode ms) in
    rw (a.next l.arg (trees rs), run_many a rs q d)

-- where an item's run goes on
pub behind : (p : ℕ) (l : Lead) (str : List ℕ) (ms rs : Items) → p + length (encode (item l str ms rs)) ≡ inside_at p l str + length (encode ms) + length (encode rs)
behind p l str ms rs = simp length-append (omega (arith, length_lead l))

pub run_join : (s : Slot) (a b : Items) (p d : ℕ) → run s (join a b) p d ≡ run s a p d ++ run s b (p + length (encode a)) d
run_join s none b p d = let e : p + 0 ≡ p = omega arith in rw e
run_join s (item l str ms rs) b p d =
    let q : ℕ = inside_at p l str + length (encode ms) in
    rw (behind p l str ms rs, run_join s rs b q d)
    (ap (λ (t : List Spot). spot_at s p d l str ms ∷ t)
    (sym (append_assoc (spots ms false (members s l) (inside_at p l str) (suc d)) (run s rs q d) (run s b (q + length (encode rs)) d))))

pub sets_join : (a b : Items) (p d : ℕ) → spots (join a b) true done p d ≡ spots a true done p d ++ spots b true done (p + length (encode a)) d
unfolding rule
sets_join none b p d = let e : p + 0 ≡ p = omega arith in rw e
sets_join (item l str ms rs) b p d =
    let q : ℕ = inside_at p l str + length (encode ms) in
    rw (behind p l str ms rs, sets_join rs b q d)
    (ap (λ (t : List Spot). spot_at (ari message) p d l str ms ∷ t)
    (sym (append_assoc (spots ms false (members (ari message) l) (inside_at p l str) (suc d)) (spots rs true done q d) (spots b true done (q + length (encode rs)) d))))

-- A run's items lie in the run's bytes.
module _ (s : Slot) (p d : ℕ) (l : Lead) (str : List ℕ) (ms rs : Items) {xs ys : List Spot} where
  bounds_item : All (Between (inside_at p l str) (inside_at p l str + length (encode ms))) xs
      → All (Between (inside_at p l str + length (encode ms)) (inside_at p l str + length (encode ms) + length (encode rs))) ys
      → All (Between p (p + length (encode (item l str ms rs)))) (spot_at s p d l str ms ∷ (xs ++ ys))
  bounds_item a b =
      rw (behind p l str ms rs)
      (spot_too {x = spot_at s p d l str ms} (omega arith, omega arith, omega arith)
      (all_append (all_map (λ y h. (omega (arith, h.0), h.1, omega (arith, h.2))) a) (all_map (λ y h. (omega (arith, h.0), h.1, h.2)) b)))

pub bounds : (g : Items) (more : Bool) (v : Level) (p d : ℕ) → All (Between p (p + length (encode g))) (spots g more v p d)
bounds none more v p d = no_spot_lem
bounds (item l str ms rs) false done p d = no_spot_lem
bounds (item l str ms rs) true done p d =
    let q : ℕ = inside_at p l str in
    bounds_item (ari message) p d l str ms rs (bounds ms false (members (ari message) l) q (suc d)) (bounds rs true ((rule (ari message)).next l.arg 0) (q + length (encode ms)) d)
bounds (item l str ms rs) more (due s n) p d =
    let q : ℕ = inside_at p l str in
    bounds_item s p d l str ms rs (bounds ms false (members s l) q (suc d)) (bounds rs more ((rule s).next l.arg n) (q + length (encode ms)) d)

pub run_bounds : (s : Slot) (g : Items) (p d : ℕ) → All (Between p (p + length (encode g))) (run s g p d)
run_bounds s none p d = no_spot_lem
run_bounds s (item l str ms rs) p d =
    let q : ℕ = inside_at p l str in
    bounds_item s p d l str ms rs (bounds ms false (members s l) q (suc d)) (run_bounds s rs (q + length (encode ms)) d)

-- They have as many containers around them as the run has, or more.
pub deep : (g : Items) (more : Bool) (v : Level) (p d : ℕ) → All (λ x. d ≤ x.around) (spots g more v p d)
deep none more v p d = no_spot_lem
deep (item l str ms rs) false done p d = no_spot_lem
deep (item l str ms rs) true done p d =
    let q : ℕ = inside_at p l str in
    spot_too {x = spot_at (ari message) p d l str ms} (omega arith)
    (all_append (all_map (λ y h. omega (arith, h)) (deep ms false (members (ari message) l) q (suc d))) (deep rs true ((rule (ari message)).next l.arg 0) (q + length (encode ms)) d))
deep (item l str ms rs) more (due s n) p d =
    let q : ℕ = inside_at p l str in
    spot_too {x = spot_at s p d l str ms} (omega arith)
    (all_append (all_map (λ y h. omega (arith, h)) (deep ms false (members s l) q (suc d))) (deep rs more ((rule s).next l.arg n) (q + length (encode ms)) d))

-- one item of a run, with those before it and behind it
pub record Split (k : ℕ) (g : Items) : Type 0 where
  pub front : Items
  pub lead : Lead
  pub str : List ℕ
  pub inside : Items
  pub rest : Items
  pub whole : g ≡ join front (item lead str inside rest)
  pub before : trees front ≡ k
  pub left : without k g ≡ join front rest

pub split_at : (k : ℕ) (g : Items) → k < trees g → Split k g
split_at k none h = absurd (omega arith)
split_at zero (item l s ms rs) h = record { front = none; lead = l; str = s; inside = ms; rest = rs; whole = refl; before = refl; left = refl }
split_at (suc k) (item l s ms rs) h =
    let x = split_at k rs (omega arith) in
    record {
      front = item l s ms x.front;
      lead = x.lead;
      str = x.str;
      inside = x.inside;
      rest = x.rest;
      whole = ap (item l s ms) x.whole;
      before = ap suc x.before;
      left = ap (item l s ms) x.left;
    }

pub trees_join : (a b : Items) → trees (join a b) ≡ trees a + trees b
trees_join none b = omega arith
trees_join (item l s ms rs) b = omega (arith, trees_join rs b)

pub without_join : (a b : Items) (n k : ℕ) → trees a ≡ n → without (n + k) (join a b) ≡ join a (without k b)
without_join none b n k e = let z : n + k ≡ k = omega arith in rw z
without_join (item l s ms rs) b zero k e = absurd (omega arith)
without_join (item l s ms rs) b (suc n) k e = let z : suc n + k ≡ suc (n + k) = omega arith in rw z (ap (item l s ms) (without_join rs b n k (omega arith)))

pub depth_join : (a b : Items) → depth (join a b) ≡ max (depth a) (depth b)
depth_join none b = omega arith
depth_join (item l s ms rs) b = let c : ℕ = cond (is_container l.kind) (suc (depth ms)) 0 in omega (arith, depth_join rs b)
