-- An item's members, and theirs: the spots whose bytes its bytes hold are just those.
use Prim.Native.Nat.{ℕ, suc, ◌+◌, ◌≤◌}
use mathlib.Core.Path.{refl, sym, subst}
use mathlib.Core.Bool.{Bool, true, false}
use mathlib.Core.List.{List, [], ◌∷◌, ◌++◌, Memᴰ}
use native.Mathlib.Omega.{arith}
use lib.ListN.{length}
use Rattle.cbor.specs.Head.{Lead}
use Rattle.ari.specs.Table.{message, Slot, ari, Level, done, due, rule, members}
use Rattle.ari.specs.declared.Limits.{Limits}
use Rattle.ari.specs.declared.Input.{Input}
use Rattle.ari.specs.Reader.{first_slot}
use Rattle.ari.specs.Items.{Items, none, item, encode, Spot, inside_at, spot_at, spots, open_ended, spots_of}
use Rattle.ari.specs.Rules.{Is}
use Rattle.ari.proofs.Due.{Fit, prev_after}
use Rattle.ari.proofs.Demand.{stands_fit}
use Rattle.ari.proofs.Spots.{All, no_spot_lem, spot_too, all_append, all_map, Between, forest, between}

-- all that stands inside an item, its members and theirs
abbrev pub within : Spot → List Spot
within x = spots x.inside false (members x.slot x.lead) (inside_at x.first x.lead x.str) (suc x.around)

-- each pair of a list, the first with all behind it
abbrev pub Pairs : (Spot → Spot → Type 0) → List Spot → Type 0
Pairs R [] = Unit {0}
Pairs R (x ∷ xs) = All (R x) xs × Pairs R xs

pairs_append : {R : Spot → Spot → Type 0} {ys : List Spot} (xs : List Spot) → Pairs R xs → Pairs R ys → All (λ x. All (R x) ys) xs → Pairs R (xs ++ ys)
pairs_append [] p q a = q
pairs_append (x ∷ xs) p q (spot_too h a) = (all_append p.0 h, pairs_append xs p.1 q a)

pub all_mems : (xs : List Spot) → All (λ x. Memᴰ x xs) xs
all_mems [] = no_spot_lem
all_mems (x ∷ xs) = spot_too (Memᴰ.head refl) (all_map (λ y m. Memᴰ.tail m) (all_mems xs))

pub all_of : {P : Spot → Type 0} {x : Spot} {xs : List Spot} → All P xs → Memᴰ x xs → P x
all_of no_spot_lem m = elim m [ ]
all_of {P} (spot_too h a) (Memᴰ.head e) = subst P (sym e) h
all_of (spot_too h a) (Memᴰ.tail m) = all_of a m

-- what an item's bytes hold, of the items behind it, stands inside it
abbrev pub Inside : Spot → Spot → Type 0
Inside y x = x.after ≤ y.after → Memᴰ x (within y)

-- an item, with what stands inside it and behind it
module _ (s : Slot) (p d : ℕ) (l : Lead) (str : List ℕ) (ms : Items) where
  abbrev q : ℕ
  q = inside_at p l str

  abbrev e : ℕ
  e = q + length (encode ms)

  abbrev x : Spot
  x = spot_at s p d l str ms

  abbrev inner : List Spot
  inner = within x

  inside_item : (more : Bool) (v : Level) (rs : Items) (prev prev' : List ℕ) → Fit ms false (members s l) prev → Fit rs more v prev'
      → Pairs Inside inner → Pairs Inside (spots rs more v e d) → Pairs Inside (x ∷ (inner ++ spots rs more v e d))
  inside_item more v rs prev prev' f g a b =
      let here : All (Between q e) inner = between (forest ms false (members s l) prev q (suc d) f) in
      let there : All (Between e (e + length (encode rs))) (spots rs more v e d) = between (forest rs more v prev' e d g) in (
        all_append (all_map (λ y m k. m) (all_mems inner)) (all_map (λ y z k. absurd (omega arith)) there),
        pairs_append inner a b (all_map (λ u w. all_map (λ y z k. absurd (omega arith)) there) here),
      )

inside_all : (g : Items) (more : Bool) (v : Level) (prev : List ℕ) (p d : ℕ) → Fit g more v prev → Pairs Inside (spots g more v p d)
inside_all none more v prev p d f = tt
inside_all (item l str ms rs) false done prev p d f = tt
inside_all (item l str ms rs) true done prev p d f =
    let q : ℕ = inside_at p l str in
    inside_item (ari message) p d l str ms true ((rule (ari message)).next l.arg 0) rs [] _ f.1 f.2
    (inside_all ms false (members (ari message) l) [] q (suc d) f.1)
    (inside_all rs true ((rule (ari message)).next l.arg 0) _ (q + length (encode ms)) d f.2)
inside_all (item l str ms rs) more (due s n) prev p d f =
    let q : ℕ = inside_at p l str in
    inside_item s p d l str ms more ((rule s).next l.arg n) rs [] _ f.1 f.2 (inside_all ms false (members s l) [] q (suc d) f.1)
    (inside_all rs more ((rule s).next l.arg n) _ (q + length (encode ms)) d f.2)

-- the bytes of what stands inside an item are between its head and its end
abbrev pub Around : Spot → Type 0
Around y = All (Between (inside_at y.first y.lead y.str) y.after) (within y)

around_all : (g : Items) (more : Bool) (v : Level) (prev : List ℕ) (p d : ℕ) → Fit g more v prev → All Around (spots g more v p d)
around_all none more v prev p d f = no_spot_lem
around_all (item l str ms rs) false done prev p d f = no_spot_lem
around_all (item l str ms rs) true done prev p d f =
    let q : ℕ = inside_at p l str in
    spot_too {x = spot_at (ari message) p d l str ms} (between (forest ms false (members (ari message) l) [] q (suc d) f.1))
    (all_append (around_all ms false (members (ari message) l) [] q (suc d) f.1)
    (around_all rs true ((rule (ari message)).next l.arg 0) (prev_after (ari message) [] l str) (q + length (encode ms)) d f.2))
around_all (item l str ms rs) more (due s n) prev p d f =
    let q : ℕ = inside_at p l str in
    spot_too {x = spot_at s p d l str ms} (between (forest ms false (members s l) [] q (suc d) f.1))
    (all_append (around_all ms false (members s l) [] q (suc d) f.1)
    (around_all rs more ((rule s).next l.arg n) (prev_after s prev l str) (q + length (encode ms)) d f.2))

module _ {m : Limits} {i : Input} {b : List ℕ} {g : Items} {n : ℕ} (c : Is m i b g n) where
  pub spot_inside : Pairs Inside (spots_of i g)
  spot_inside = inside_all g (open_ended i) (due (first_slot i) 0) [] 0 0 (stands_fit c.stands)

  pub spot_around : All Around (spots_of i g)
  spot_around = around_all g (open_ended i) (due (first_slot i) 0) [] 0 0 (stands_fit c.stands)
