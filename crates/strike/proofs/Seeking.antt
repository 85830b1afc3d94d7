-- Where a message is cut, as `seek` finds it. The idea: of a set only its own targets or reports are counted, since nothing inside one of these is one; and
-- before each of them the last item that lies directly in a set is the inner array.
use Prim.Native.Nat.{ℕ, suc, ◌+◌, ◌-◌, ◌≤◌}
use mathlib.Core.Path.{◌≡◌, refl, sym, ◌∙◌, ap}
use mathlib.Core.Bool.{Bool, true, false, cond}
use mathlib.Core.List.{List, [], ◌∷◌, ◌++◌, append_assoc}
use native.Mathlib.Omega.{arith}
use lib.ListN.{length, length-append}
use lib.Dec.{eqb}
use borrow.Author.Tests.{ne_eqb}
use Rattle.cbor.specs.Head.{Lead}
use Rattle.ari.specs.Table.{Slot, done, members}
use Rattle.ari.specs.Items.{Items, none, item, encode, Spot, inside_at, spots}
use Rattle.ari.specs.Rules.{Sets, no_more, set}
use Rattle.ari.specs.Targets.{is_target, targets}
use Rattle.ari.proofs.Well.{trees}
use Rattle.ari.proofs.Spots.{All, no_spot_lem, spot_too, all_map}
use Rattle.ari.proofs.Members.{within}
use Rattle.strike.specs.Strike.{count_in, seek}
use Rattle.strike.proofs.Runs.{run, deep}
use Rattle.strike.proofs.Sets.{Frame, Set, set_of}
use Rattle.strike.proofs.Cutting.{set_count, two_of, set_whole, set_count_lem, set_spot, type_spot, inner_spot, frame_place, frame_spots, body_place, body_spots, set_spots}

pub all_apart : {P : Spot → Type 0} (xs : List Spot) {ys : List Spot} → All P (xs ++ ys) → All P xs × All P ys
all_apart [] a = (no_spot_lem, a)
all_apart (x ∷ xs) (spot_too h a) = let (u, v) = all_apart xs a in (spot_too h u, v)

-- nothing inside a target or report is one
abbrev pub NoTarget : Spot → Type 0
NoTarget x = is_target x.slot ≡ false

abbrev pub Clear : Spot → Type 0
Clear x = is_target x.slot ≡ true → All NoTarget (within x)

-- what is passed over
abbrev Passed : Spot → Type 0
Passed x = NoTarget x × (eqb x.around 1 ≡ false)

both_all : {P Q : Spot → Type 0} {xs : List Spot} → All P xs → All Q xs → All (λ x. P x × Q x) xs
both_all no_spot_lem b = no_spot_lem
both_all (spot_too h a) (spot_too k b) = spot_too (h, k) (both_all a b)

passed_inside : (s : Slot) (l : Lead) (g : Items) (p : ℕ) → All NoTarget (spots g false (members s l) p 3) → All Passed (spots g false (members s l) p 3)
passed_inside s l g p a = all_map (λ y h. (h.0, ne_eqb y.around 1 (λ e. omega (arith, h.1)))) (both_all a (deep g false (members s l) p 3))

passed_frame : {xs : List Spot} → All (Frame 2) xs → All Passed xs
passed_frame a = all_map (λ y h. (h.no_target, ne_eqb y.around 1 (λ e. omega (arith, h.around_is)))) a

module _ (k : ℕ) where
  seek_passed : (xs ys : List Spot) (c : ℕ) (v : Spot) (i : ℕ) → All Passed xs → seek k c v i (xs ++ ys) ≡ seek k c v (i + length xs) ys
  seek_passed [] ys c v i a = let e : i + 0 ≡ i = omega arith in rw e
  seek_passed (x ∷ xs) ys c v i (spot_too h a) =
      let e : suc i + length xs ≡ i + suc (length xs) = omega arith in
      rw (h.0, h.1) (seek_passed xs ys c v (suc i) a ∙ ap (λ (j : ℕ). seek k c v j ys) e)

  pub seek_run : (s : Slot) (g : Items) (p : ℕ) (ys : List Spot) (c : ℕ) (v : Spot) (i : ℕ) → is_target s ≡ true → All Clear (run s g p 2) → c + trees g ≤ k
      → seek k c v i (run s g p 2 ++ ys) ≡ seek k (c + trees g) v (i + length (run s g p 2)) ys
  seek_run s none p ys c v i t a h = let e : c + 0 ≡ c = omega arith in let f : i + 0 ≡ i = omega arith in rw (e, f)
  seek_run s (item l str ms rs) p ys c v i t (spot_too q a) h =
      let w : List Spot = spots ms false (members s l) (inside_at p l str) 3 in
      let r : ℕ = inside_at p l str + length (encode ms) in
      let (u, z) = all_apart w a in
      let e : suc c + trees rs ≡ c + suc (trees rs) = omega arith in
      let f : suc i + length w + length (run s rs r 2) ≡ i + suc (length (w ++ run s rs r 2)) = omega (arith, length-append w (run s rs r 2)) in
      let over = seek_passed w (run s rs r 2 ++ ys) (suc c) v (suc i) (passed_inside s l ms (inside_at p l str) (q t)) in
      let on = seek_run s rs r ys (suc c) v (suc i + length w) t z (omega arith) in
      rw (t, ne_eqb c k (λ x. omega arith))
      (ap (seek k (suc c) v (suc i)) (append_assoc w (run s rs r 2) ys)
      ∙ (over ∙ (on ∙ (ap (λ (j : ℕ). seek k j v (suc i + length w + length (run s rs r 2)) ys) e ∙ ap (λ (j : ℕ). seek k (c + suc (trees rs)) v j ys) f))))

  -- the head of a set, its type, its inner array, and what stands before its targets or reports
  module _ {l : Lead} {s : List ℕ} {ms : Items} (x : Set l s ms) (h : Lead) (g : Items) (p : ℕ) where
    pub seek_set : (ys : List Spot) (c : ℕ) (v : Spot) (i : ℕ)
        → seek k c v i (set_spot x h g p ∷ (type_spot x h g p ∷ (inner_spot x h g p ∷ (frame_spots x h g p ++ ys))))
        ≡ seek k c (inner_spot x h g p) (suc (suc (suc i)) + length (frame_spots x h g p)) ys
    seek_set ys c v i =
        seek_passed (frame_spots x h g p) ys c (inner_spot x h g p) (suc (suc (suc i))) (passed_frame (x.inner.each_frame (frame_place x h g p) 2))

-- all of a set, in a message
module _ {l : Lead} {s : List ℕ} {ms : Items} (x : Set l s ms) (rs : Items) (p : ℕ) where
  abbrev pub behind_set : List Spot
  behind_set = spots rs true done (p + length (encode (item l s (two_of x x.lead x.inner.body) none))) 0

  pub whole_set :
      let h : Lead = x.lead in
      let g : Items = x.inner.body in
      spots (item l s ms rs) true done p 0
      ≡ set_spot x h g p ∷ (type_spot x h g p ∷ (inner_spot x h g p ∷ (frame_spots x h g p ++ (body_spots x h g p ++ behind_set))))
  whole_set = ap (λ (m : Items). spots (item l s m rs) true done p 0) (set_whole x) ∙ set_spots x x.lead x.inner.body p rs x.inner.kind_is x.inner.arg_is

module _ (k : ℕ) where
  pub seek_sets : {g : Items} → Sets g → (p : ℕ) (ys : List Spot) (c : ℕ) (v : Spot) (i : ℕ) → All Clear (spots g true done p 0) → c + set_count g ≤ k
      → (u : Spot) × (seek k c v i (spots g true done p 0 ++ ys) ≡ seek k (c + set_count g) u (i + length (spots g true done p 0)) ys)
  seek_sets no_more p ys c v i a h = let e : c + 0 ≡ c = omega arith in let f : i + 0 ≡ i = omega arith in (v, rw (e, f))
  seek_sets (set {l = l} {s = s} {ms = ms} {rs = rs} a r) p ys c v i clear h =
      let (u, on) = seek_sets r (p + length (encode (item l s (two_of x x.lead body) none))) ys (c + trees body) inner (suc (suc (suc i)) + length F + length B) parts.1.1 (omega (arith, set_count_lem x)) in (
        u,
        ap (λ (z : List Spot). seek k c v i (z ++ ys)) whole
            ∙ (ap (λ (z : List Spot). seek k c v i (set_spot x x.lead body p ∷ (type_spot x x.lead body p ∷ (inner ∷ z)))) (append_assoc F (B ++ R) ys ∙ ap (λ (z : List Spot). F ++ z) (append_assoc B R ys))
            ∙ (seek_set k x x.lead body p (B ++ (R ++ ys)) c v i
            ∙ (seek_run k x.inner.slot body (body_place x x.lead body p) (R ++ ys) c inner (suc (suc (suc i)) + length F) x.inner.is_target_lem parts.1.0 (omega (arith, set_count_lem x))
            ∙ (on ∙ (ap (λ (j : ℕ). seek k j u (suc (suc (suc i)) + length F + length B + length R) ys) counted
            ∙ (ap (λ (j : ℕ). seek k (c + (count_in ms + set_count rs)) u j ys) long
            ∙ ap (λ (z : List Spot). seek k (c + (count_in ms + set_count rs)) u (i + length z) ys) (sym whole))))))),
      )
    where
      x : Set l s ms
      x = set_of a

      body : Items
      body = x.inner.body

      inner : Spot
      inner = inner_spot x x.lead body p

      F : List Spot
      F = frame_spots x x.lead body p

      B : List Spot
      B = body_spots x x.lead body p

      R : List Spot
      R = behind_set x rs p

      whole : spots (item l s ms rs) true done p 0 ≡ set_spot x x.lead body p ∷ (type_spot x x.lead body p ∷ (inner ∷ (F ++ (B ++ R))))
      whole = whole_set x rs p

      parts : All Clear F × (All Clear B × All Clear R)
      parts = go (rw whole at clear)
        where
          go : All Clear (set_spot x x.lead body p ∷ (type_spot x x.lead body p ∷ (inner ∷ (F ++ (B ++ R))))) → All Clear F × (All Clear B × All Clear R)
          go (spot_too q₁ (spot_too q₂ (spot_too q₃ z))) = let (u, w) = all_apart F z in (u, all_apart B w)

      counted : c + trees body + set_count rs ≡ c + (count_in ms + set_count rs)
      counted = omega (arith, set_count_lem x)

      long : suc (suc (suc i)) + length F + length B + length R ≡ i + suc (suc (suc (length (F ++ (B ++ R)))))
      long = omega (arith, length-append F (B ++ R), length-append B R)

-- The targets and reports among items.
pub targets_append : (xs ys : List Spot) → targets (xs ++ ys) ≡ targets xs ++ targets ys
targets_append [] ys = refl
targets_append (x ∷ xs) ys = go (is_target x.slot) (targets_append xs ys)
  where
    go : (t : Bool) → targets (xs ++ ys) ≡ targets xs ++ targets ys → cond t (x ∷ targets (xs ++ ys)) (targets (xs ++ ys)) ≡ cond t (x ∷ targets xs) (targets xs) ++ targets ys
    go true e = ap (λ (z : List Spot). x ∷ z) e
    go false e = e

pub targets_none : {xs : List Spot} → All NoTarget xs → targets xs ≡ []
targets_none no_spot_lem = refl
targets_none (spot_too h a) = rw (h, targets_none a)

pub targets_run : (s : Slot) (g : Items) (p d : ℕ) → is_target s ≡ true → All Clear (run s g p d) → length (targets (run s g p d)) ≡ trees g
targets_run s none p d t a = refl
targets_run s (item l str ms rs) p d t (spot_too q a) =
    let w : List Spot = spots ms false (members s l) (inside_at p l str) (suc d) in
    let r : ℕ = inside_at p l str + length (encode ms) in
    let (u, z) = all_apart w a in
    rw (t, targets_append w (run s rs r d), targets_none (q t)) (ap suc (targets_run s rs r d t z))

pub targets_frame : {d : ℕ} {xs : List Spot} → All (Frame d) xs → targets xs ≡ []
targets_frame a = targets_none (all_map (λ y h. h.no_target) a)

pub targets_sets : {g : Items} → Sets g → (p : ℕ) → All Clear (spots g true done p 0) → length (targets (spots g true done p 0)) ≡ set_count g
targets_sets no_more p a = refl
targets_sets (set {l = l} {s = s} {ms = ms} {rs = rs} a r) p clear =
    ap (λ (z : List Spot). length (targets z)) whole
    ∙ (ap length (targets_append F (B ++ R) ∙ ap (λ (z : List Spot). z ++ targets (B ++ R)) (targets_frame (x.inner.each_frame (frame_place x x.lead body p) 2)) ∙ targets_append B R)
    ∙ (length-append (targets B) (targets R) ∙ omega (arith, targets_run x.inner.slot body (body_place x x.lead body p) 2 x.inner.is_target_lem parts.0, targets_sets r (p + length (encode (item l s (two_of x x.lead body) none))) parts.1, set_count_lem x)))
  where
    x : Set l s ms
    x = set_of a

    body : Items
    body = x.inner.body

    F : List Spot
    F = frame_spots x x.lead body p

    B : List Spot
    B = body_spots x x.lead body p

    R : List Spot
    R = behind_set x rs p

    whole : spots (item l s ms rs) true done p 0 ≡ set_spot x x.lead body p ∷ (type_spot x x.lead body p ∷ (inner_spot x x.lead body p ∷ (F ++ (B ++ R))))
    whole = whole_set x rs p

    parts : All Clear B × All Clear R
    parts = go (rw whole at clear)
      where
        go : All Clear (set_spot x x.lead body p ∷ (type_spot x x.lead body p ∷ (inner_spot x x.lead body p ∷ (F ++ (B ++ R))))) → All Clear B × All Clear R
        go (spot_too q₁ (spot_too q₂ (spot_too q₃ z))) = all_apart B (all_apart F z).1
