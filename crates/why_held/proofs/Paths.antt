-- The items whose bytes hold an item's are the way down to it: the first is one of the message's own, each next one a member of the one before, and the
-- last the item itself.
use Prim.Native.Nat.{ℕ, suc, ◌+◌, ◌-◌, ◌≤◌, ◌<◌}
use mathlib.Core.Logic.{◌⊎◌, inl, inr}
use mathlib.Core.Path.{◌≡◌, refl, ap}
use mathlib.Core.Bool.{Bool, true, false, ◌&&◌, cond}
use mathlib.Core.List.Memᴰ
use mathlib.Core.List.{List, [], ◌∷◌, ◌++◌, append-nil, Memᴰ}
use native.Mathlib.Omega.{arith}
use lib.ListN.{length}
use lib.Dec.{leb}
use borrow.Author.Tests.{le-leb, lt-leb}
use Rattle.cbor.specs.Head.{Lead, is_container}
use Rattle.ari.specs.Table.{message, Slot, version, ari, Level, done, due, rule, members}
use Rattle.ari.specs.Items.{Items, none, item, encode, depth, Spot, inside_at, spot_at, spots, spots_of}
use Rattle.ari.specs.declared.Limits.{Limits}
use Rattle.ari.specs.declared.Input.TheVariants.{Message}
use Rattle.ari.specs.Rules.{Is}
use Rattle.ari.specs.Targets.{around}
use Rattle.ari.proofs.Demand.{stands_fit}
use Rattle.ari.proofs.Due.{Fit, members_leaf}
use Rattle.ari.proofs.Spots.{All, no_spot_lem, spot_too, all_append, all_map, Between, forest, between}
use Rattle.ari.proofs.Members.{all_of}

-- the items of a level, without what stands inside them
abbrev pub tops : Items → Bool → Level → ℕ → ℕ → List Spot
tops none more v p d = []
tops (item l str ms rs) false done p d = []
tops (item l str ms rs) true done p d =
    spot_at (ari message) p d l str ms ∷ tops rs true ((rule (ari message)).next l.arg 0) (inside_at p l str + length (encode ms)) d
tops (item l str ms rs) more (due s n) p d = spot_at s p d l str ms ∷ tops rs more ((rule s).next l.arg n) (inside_at p l str + length (encode ms)) d

-- an item's own members
abbrev pub members_of : Spot → List Spot
members_of y = tops y.inside false (members y.slot y.lead) (inside_at y.first y.lead y.str) (suc y.around)

-- a way down to an item, from one of these
pub data Path (x : Spot) : List Spot → List Spot → Type 0 where
  there : {ts : List Spot} → Memᴰ x ts → Path x ts (x ∷ [])
  down : {ts ys : List Spot} {y : Spot} → Memᴰ y ts → Path x (members_of y) ys → Path x ts (y ∷ ys)

more_tops : {x t : Spot} {ts ys : List Spot} → Path x ts ys → Path x (t ∷ ts) ys
more_tops (there m) = there (Memᴰ.tail m)
more_tops (down m p) = down (Memᴰ.tail m) p

-- the items that hold one
abbrev pub holders : Spot → List Spot → List Spot
holders x [] = []
holders x (y ∷ ys) = let r = holders x ys in cond (around y x.first x.after) (y ∷ r) r

holders_append : (x : Spot) (ys zs : List Spot) → holders x (ys ++ zs) ≡ holders x ys ++ holders x zs
holders_append x [] zs = refl
holders_append x (y ∷ ys) zs = go (around y x.first x.after) (holders_append x ys zs)
  where
    go : (t : Bool) → holders x (ys ++ zs) ≡ holders x ys ++ holders x zs
        → cond t (y ∷ holders x (ys ++ zs)) (holders x (ys ++ zs)) ≡ cond t (y ∷ holders x ys) (holders x ys) ++ holders x zs
    go true e = ap (◌∷◌ y) e
    go false e = e

-- one that begins behind it, or ends before its end, holds it not
abbrev Apart : Spot → Spot → Type 0
Apart x y = (x.first < y.first) ⊎ (y.after < x.after)

apart : (x y : Spot) → Apart x y → around y x.first x.after ≡ false
apart x y (inl h) = rw (lt-leb y.first x.first h)
apart x y (inr h) = rw (lt-leb x.after y.after h) (no_and (leb y.first x.first))
  where
    no_and : (t : Bool) → (t && false) ≡ false
    no_and true = refl
    no_and false = refl

no_holders : (x : Spot) (ys : List Spot) → All (Apart x) ys → holders x ys ≡ []
no_holders x [] a = refl
no_holders x (y ∷ ys) (spot_too h a) = rw (apart x y h, no_holders x ys a)

mem_split : {x : Spot} (ys zs : List Spot) → Memᴰ x (ys ++ zs) → (Memᴰ x ys) ⊎ (Memᴰ x zs)
mem_split [] zs m = inr m
mem_split (y ∷ ys) zs (Memᴰ.head e) = inl (Memᴰ.head e)
mem_split {x} (y ∷ ys) zs (Memᴰ.tail m) = go (mem_split ys zs m)
  where
    go : (Memᴰ x ys) ⊎ (Memᴰ x zs) → (Memᴰ x (y ∷ ys)) ⊎ (Memᴰ x zs)
    go (inl k) = inl (Memᴰ.tail k)
    go (inr k) = inr k

-- one item, with what stands inside it and behind it
module _ (x y : Spot) (inner rest ts : List Spot) (q hi : ℕ) (w : y.first < q) (v : q ≤ y.after) (a : All (Between q y.after) inner) (b : All (Between y.after hi) rest) where
  itself : x ≡ y → Path x (y ∷ ts) (holders x (y ∷ (inner ++ rest)))
  itself e =
      let none_inside : holders x inner ≡ [] = no_holders x inner (all_map (λ z k. inl (rw e (omega (arith, k.0)))) a) in
      let none-behind : holders x rest ≡ [] = no_holders x rest (all_map (λ z k. inl (rw e (omega (arith, k.0)))) b) in
      let yes : around y x.first x.after ≡ true = rw (e, le-leb y.first y.first (omega arith), le-leb y.after y.after (omega arith)) in
      rw (yes, holders_append x inner rest, none_inside, none-behind, ← e) (there (Memᴰ.head refl))

  inside_it : Memᴰ x inner → Path x (members_of y) (holders x inner) → Path x (y ∷ ts) (holders x (y ∷ (inner ++ rest)))
  inside_it m p =
      let k = all_of a m in
      let none-behind : holders x rest ≡ [] = no_holders x rest (all_map (λ z l. inl (omega (arith, k.1, k.2, l.0))) b) in
      let yes : around y x.first x.after ≡ true = rw (le-leb y.first x.first (omega (arith, k.0)), le-leb x.after y.after k.2) in
      rw (yes, holders_append x inner rest, none-behind, append-nil (holders x inner)) (down (Memᴰ.head refl) p)

  behind_it : Memᴰ x rest → Path x ts (holders x rest) → Path x (y ∷ ts) (holders x (y ∷ (inner ++ rest)))
  behind_it m p =
      let k = all_of b m in
      let none_inside : holders x inner ≡ [] = no_holders x inner (all_map (λ z l. inr (omega (arith, k.0, k.1, l.2))) a) in
      let no : around y x.first x.after ≡ false = apart x y (inr (omega (arith, k.0, k.1))) in
      rw (no, holders_append x inner rest, none_inside) (more_tops p)

  one_item : Memᴰ x (y ∷ (inner ++ rest)) → (Memᴰ x inner → Path x (members_of y) (holders x inner)) → (Memᴰ x rest → Path x ts (holders x rest))
      → Path x (y ∷ ts) (holders x (y ∷ (inner ++ rest)))
  one_item (Memᴰ.head e) f g = itself e
  one_item (Memᴰ.tail m) f g = go (mem_split inner rest m)
    where
      go : (Memᴰ x inner) ⊎ (Memᴰ x rest) → Path x (y ∷ ts) (holders x (y ∷ (inner ++ rest)))
      go (inl k) = inside_it k (f k)
      go (inr k) = behind_it k (g k)

pub path : (x : Spot) (g : Items) (more : Bool) (v : Level) (prev : List ℕ) (p d : ℕ) → Fit g more v prev → Memᴰ x (spots g more v p d)
    → Path x (tops g more v p d) (holders x (spots g more v p d))
path x none more v prev p d f m = absurd (Memᴰ.not-nil m)
path x (item l str ms rs) false done prev p d f m = absurd (Memᴰ.not-nil m)
path x (item l str ms rs) true done prev p d f m =
    let s : Slot = ari message in
    let q : ℕ = inside_at p l str in
    let e : ℕ = q + length (encode ms) in
    one_item x (spot_at s p d l str ms) (spots ms false (members s l) q (suc d)) (spots rs true ((rule s).next l.arg 0) e d) (tops rs true ((rule s).next l.arg 0) e d) q
    (e + length (encode rs)) (omega arith) (omega arith) (between (forest ms false (members s l) [] q (suc d) f.1)) (between (forest rs true ((rule s).next l.arg 0) _ e d f.2)) m
    (λ k. path x ms false (members s l) [] q (suc d) f.1 k)
    (λ k. path x rs true ((rule s).next l.arg 0) _ e d f.2 k)
path x (item l str ms rs) more (due s n) prev p d f m =
    let q : ℕ = inside_at p l str in
    let e : ℕ = q + length (encode ms) in
    one_item x (spot_at s p d l str ms) (spots ms false (members s l) q (suc d)) (spots rs more ((rule s).next l.arg n) e d) (tops rs more ((rule s).next l.arg n) e d) q
    (e + length (encode rs)) (omega arith) (omega arith) (between (forest ms false (members s l) [] q (suc d) f.1)) (between (forest rs more ((rule s).next l.arg n) _ e d f.2)) m
    (λ k. path x ms false (members s l) [] q (suc d) f.1 k)
    (λ k. path x rs more ((rule s).next l.arg n) _ e d f.2 k)

-- as many as containers are open down to it
tops_around : (g : Items) (more : Bool) (v : Level) (p d : ℕ) → All (λ z. z.around ≡ d) (tops g more v p d)
tops_around none more v p d = no_spot_lem
tops_around (item l str ms rs) false done p d = no_spot_lem
tops_around (item l str ms rs) true done p d =
    spot_too {x = spot_at (ari message) p d l str ms} refl (tops_around rs true ((rule (ari message)).next l.arg 0) (inside_at p l str + length (encode ms)) d)
tops_around (item l str ms rs) more (due s n) p d =
    spot_too {x = spot_at s p d l str ms} refl (tops_around rs more ((rule s).next l.arg n) (inside_at p l str + length (encode ms)) d)

pub path_length : {x : Spot} {ts ys : List Spot} (d : ℕ) → All (λ z. z.around ≡ d) ts → Path x ts ys → length ys + d ≡ suc x.around
path_length d a (there m) = let e = all_of a m in omega arith
path_length d a (down {y = y} m p) =
    let e : y.around ≡ d = all_of a m in
    let i = path_length (suc y.around) (tops_around y.inside false (members y.slot y.lead) (inside_at y.first y.lead y.str) (suc y.around)) p in
    omega (arith, i, e)

-- a container is one of those that may be open
abbrev Deep : ℕ → Spot → Type 0
Deep most x = is_container x.lead.kind ≡ true → x.around < most

deep_item : (s : Slot) (p d : ℕ) (l : Lead) (str : List ℕ) (ms : Items) (k most : ℕ) → d + k ≡ most → cond (is_container l.kind) (suc (depth ms)) 0 ≤ k
    → Deep most (spot_at s p d l str ms)
deep_item s p d l str ms k most m h e = let z = rw e at h in omega (arith, z)

module _ (s : Slot) (l : Lead) (d k most : ℕ) (m : d + k ≡ most) where
  deeper : (g : Items) (p : ℕ) → (t : Bool) → is_container l.kind ≡ t → Fit g false (members s l) [] → cond t (suc (depth g)) 0 ≤ k
      → ((k' : ℕ) → suc d + k' ≡ most → depth g ≤ k' → All (Deep most) (spots g false (members s l) p (suc d))) → All (Deep most) (spots g false (members s l) p (suc d))
  deeper g p true e f h r = r (k - 1) (omega arith) (omega arith)
  deeper none p false e f h r = no_spot_lem
  deeper (item l' s' ms rs) p false e f h r = absurd (rw (members_leaf s l e) at f)

deep_all : (g : Items) (more : Bool) (v : Level) (prev : List ℕ) (p d k most : ℕ) → d + k ≡ most → Fit g more v prev → depth g ≤ k → All (Deep most) (spots g more v p d)
deep_all none more v prev p d k most m f h = no_spot_lem
deep_all (item l str ms rs) false done prev p d k most m f h = no_spot_lem
deep_all (item l str ms rs) true done prev p d k most m f h =
    let s : Slot = ari message in
    let q : ℕ = inside_at p l str in
    spot_too {x = spot_at s p d l str ms} (deep_item s p d l str ms k most m (omega arith))
    (all_append (deeper s l d k most m ms q (is_container l.kind) refl f.1 (omega arith) (λ k' e y. deep_all ms false (members s l) [] q (suc d) k' most e f.1 y))
    (deep_all rs true ((rule s).next l.arg 0) _ (q + length (encode ms)) d k most m f.2 (omega arith)))
deep_all (item l str ms rs) more (due s n) prev p d k most m f h =
    let q : ℕ = inside_at p l str in
    spot_too {x = spot_at s p d l str ms} (deep_item s p d l str ms k most m (omega arith))
    (all_append (deeper s l d k most m ms q (is_container l.kind) refl f.1 (omega arith) (λ k' e y. deep_all ms false (members s l) [] q (suc d) k' most e f.1 y))
    (deep_all rs more ((rule s).next l.arg n) _ (q + length (encode ms)) d k most m f.2 (omega arith)))

module _ {m : Limits} {b : List ℕ} {g : Items} {n : ℕ} (c : Is m Message b g n) (x : Spot) (at : Memᴰ x (spots_of Message g)) where
  fit : Fit g true (due version 0) []
  fit = stands_fit c.stands

  -- the way down from one of the message's own items
  pub way_down : Path x (tops g true (due version 0) 0 0) (holders x (spots_of Message g))
  way_down = path x g true (due version 0) [] 0 0 fit at

  pub few_holders : is_container x.lead.kind ≡ true → length (holders x (spots_of Message g)) ≤ m.containers
  few_holders e =
      let h : x.around < m.containers = all_of (deep_all g true (due version 0) [] 0 0 m.containers m.containers (omega arith) fit c.shallow) at e in
      let l = path_length 0 (tops_around g true (due version 0) 0 0) way_down in
      omega (arith, h, l)
