-- Nothing inside a target or report of a message is one. The idea: it would have two numbers, its own and that of the one around it.
use Prim.Native.Nat.{ℕ, suc, ◌+◌, ◌<◌}
use mathlib.Core.Path.{◌≡◌, refl, sym, ◌∙◌, ap}
use mathlib.Core.Logic.{inl, inr}
use mathlib.Core.Bool.{Bool, true, false}
use mathlib.Core.List.Memᴰ
use mathlib.Core.List.{List, [], ◌∷◌, Memᴰ}
use native.Mathlib.Omega.{arith}
use lib.ListN.{length, get_or}
use Rattle.ari.specs.Table.{message, ari, Level, done, due, rule, members}
use Rattle.ari.specs.declared.Limits.{Limits}
use Rattle.ari.specs.declared.Input.TheVariants.{Message}
use Rattle.ari.specs.declared.Target.{Target}
use Rattle.ari.specs.declared.Target.TheVariants.{None, Number}
use Rattle.ari.specs.Items.{Items, none, item, encode, Spot, inside_at, spot_at, spots, spots_of}
use Rattle.ari.specs.Table.{version}
use Rattle.ari.specs.Rules.{Is}
use Rattle.ari.specs.Targets.{is_target, targets}
use Rattle.ari.proofs.Spots.{All, no_spot_lem, spot_too, all_append, all_map, Between}
use Rattle.ari.proofs.Members.{within, all_mems, all_of}
use Rattle.ari.proofs.Targets.{Lies, numbered}
use Rattle.strike.proofs.Runs.{bounds}
use Rattle.strike.proofs.Seeking.{NoTarget, Clear}

-- what stands inside one of some items is one of them
abbrev Within : List Spot → Spot → Type 0
Within xs x = (y : Spot) → Memᴰ y (within x) → Memᴰ y xs

within_all : (g : Items) (more : Bool) (v : Level) (p d : ℕ) → All (Within (spots g more v p d)) (spots g more v p d)
within_all none more v p d = no_spot_lem
within_all (item l str ms rs) false done p d = no_spot_lem
within_all (item l str ms rs) true done p d =
    let q : ℕ = inside_at p l str in
    let inner : List Spot = spots ms false (members (ari message) l) q (suc d) in
    let rest : List Spot = spots rs true ((rule (ari message)).next l.arg 0) (q + length (encode ms)) d in
    spot_too {x = spot_at (ari message) p d l str ms} (λ y m. Memᴰ.tail (Memᴰ.append_left rest m))
    (all_append (all_map (λ x h y m. Memᴰ.tail (Memᴰ.append_left rest (h y m))) (within_all ms false (members (ari message) l) q (suc d)))
    (all_map (λ x h y m. Memᴰ.tail (Memᴰ.append_right inner (h y m))) (within_all rs true ((rule (ari message)).next l.arg 0) (q + length (encode ms)) d)))
within_all (item l str ms rs) more (due s n) p d =
    let q : ℕ = inside_at p l str in
    let inner : List Spot = spots ms false (members s l) q (suc d) in
    let rest : List Spot = spots rs more ((rule s).next l.arg n) (q + length (encode ms)) d in
    spot_too {x = spot_at s p d l str ms} (λ y m. Memᴰ.tail (Memᴰ.append_left rest m))
    (all_append (all_map (λ x h y m. Memᴰ.tail (Memᴰ.append_left rest (h y m))) (within_all ms false (members s l) q (suc d)))
    (all_map (λ x h y m. Memᴰ.tail (Memᴰ.append_right inner (h y m))) (within_all rs more ((rule s).next l.arg n) (q + length (encode ms)) d)))

-- a target's or report's number
record Numbered (xs : List Spot) (d x : Spot) : Type 0 where
  number : ℕ
  below : number < length (targets xs)
  it : get_or (targets xs) number d ≡ x

number_of : (xs : List Spot) (d x : Spot) → Memᴰ x xs → is_target x.slot ≡ true → Numbered xs d x
number_of [] d x x4 e = elim x4 [ ]
number_of (y ∷ ys) d x (Memᴰ.head q) e =
    let f : is_target y.slot ≡ true = ap (λ (z : Spot). is_target z.slot) (sym q) ∙ e in
    record { number = 0; below = rw f (omega arith); it = rw f (sym q) }
number_of (y ∷ ys) d x (Memᴰ.tail m) e = go (is_target y.slot) refl (number_of ys d x m e)
  where
    go : (t : Bool) → is_target y.slot ≡ t → Numbered ys d x → Numbered (y ∷ ys) d x
    go true q n = record { number = suc n.number; below = rw q (let h = n.below in omega arith); it = rw q n.it }
    go false q n = record { number = n.number; below = rw q n.below; it = rw q n.it }

abbrev number_in : Target → ℕ
number_in None = 0
number_in (Number a) = suc a

module _ {m : Limits} {b : List ℕ} {g : Items} {n : ℕ} (c : Is m Message b g n) where
  abbrev xs : List Spot
  xs = spots_of Message g

  one : (x y : Spot) → Memᴰ x xs → is_target x.slot ≡ true → Memᴰ y (within x) → is_target y.slot ≡ true → y ≡ x
  one x y here e inside f =
      let there = all_of (within_all g true (due version 0) 0 0) here y inside in
      let a = number_of xs y x here e in
      let o = number_of xs y y there f in
      let its : Lies xs a.number y = record { below = a.below; there = inr (rw a.it inside) } in
      let own : Lies xs o.number y = record { below = o.below; there = inl (sym o.it) } in
      let same : ◌≡◌ {A = Target} (Number a.number) (Number o.number) = sym (numbered c y there a.number its) ∙ numbered c y there o.number own in
      let z : a.number ≡ o.number = (let w = ap number_in same in omega arith) in
      sym o.it ∙ (ap (λ (j : ℕ). get_or (targets xs) j y) (sym z) ∙ a.it)

  pub all_clear : All Clear xs
  all_clear = all_map (λ x here e. all_map (λ y h. apart x y here e h.0 h.1) (both x)) (all_mems xs)
    where
      both : (x : Spot) → All (λ y. Memᴰ y (within x) × Between (inside_at x.first x.lead x.str) (inside_at x.first x.lead x.str + length (encode x.inside)) y) (within x)
      both x = pair (all_mems (within x)) (bounds x.inside false (members x.slot x.lead) (inside_at x.first x.lead x.str) (suc x.around))
        where
          pair : {P Q : Spot → Type 0} {ys : List Spot} → All P ys → All Q ys → All (λ y. P y × Q y) ys
          pair no_spot_lem k = no_spot_lem
          pair (spot_too h a) (spot_too k o) = spot_too (h, k) (pair a o)

      apart : (x y : Spot) → Memᴰ x xs → is_target x.slot ≡ true → Memᴰ y (within x)
          → Between (inside_at x.first x.lead x.str) (inside_at x.first x.lead x.str + length (encode x.inside)) y → NoTarget y
      apart x y here e inside h = go (is_target y.slot) refl
        where
          go : (t : Bool) → is_target y.slot ≡ t → t ≡ false
          go true f = let q = ap (λ (z : Spot). z.first) (one x y here e inside f) in absurd (omega (arith, h.0))
          go false f = refl
