-- The targets and reports of a message before and after a cut: the same, in order, without the struck one. The idea: a target or report is one at whatever
-- place it stands, and as many stand before the struck one as its number says.
use Prim.Native.Nat.{ℕ, suc, ◌+◌}
use mathlib.Core.Path.{◌≡◌, refl, sym, ◌∙◌, ap}
use mathlib.Core.Bool.{Bool, true, false, cond}
use mathlib.Core.List.{List, [], ◌∷◌, ◌++◌, append_assoc, map, map-append}
use native.Mathlib.Omega.{arith}
use lib.ListN.{length, length-append, length-map}
use Rattle.cbor.specs.Head.{Lead}
use Rattle.ari.specs.Table.{message, Slot, ari, Level, done, due, rule, members}
use Rattle.ari.specs.Items.{Items, none, item, encode, Spot, inside_at, spot_at, spots}
use Rattle.ari.specs.Targets.{is_target, targets}
use Rattle.ari.proofs.Spots.{All, spot_too}
use Rattle.ari.proofs.Members.{within}
use Rattle.strike.specs.Strike.{shorter, without, struck_sets}
use Rattle.strike.proofs.Runs.{run}
use Rattle.strike.proofs.Sets.{Frame, Set}
use Rattle.strike.proofs.Cutting.{Cutting, two_of, set_spot, type_spot, inner_spot, frame_place, frame_spots, body_place}
use Rattle.strike.proofs.Seeking.{Clear, all_apart, targets_append, targets_none, targets_run, targets_frame, targets_sets}
use Rattle.strike.proofs.Parts.{set_place, spots_before, spots_front, struck_spot, spots_rest, spots_behind, old_spots}
use Rattle.struck_messages.specs.Moved.{Unplaced, unplaced, left_out}
use Rattle.struck_messages.proofs.Shorter.{new_front, new_rest, new_behind, new_spots}

-- targets and reports, wherever they stand
abbrev pub kept : List Spot → List Unplaced
kept xs = map unplaced (targets xs)

pub kept_append : (xs ys : List Spot) → kept (xs ++ ys) ≡ kept xs ++ kept ys
kept_append xs ys = ap (map unplaced) (targets_append xs ys) ∙ map-append unplaced (targets xs) (targets ys)

kept_item : (s : Slot) (p q d e : ℕ) (l : Lead) (str : List ℕ) (ms : Items) (xs ys : List Spot) → kept xs ≡ kept ys → kept (spot_at s p d l str ms ∷ xs) ≡ kept (spot_at s q e l str ms ∷ ys)
kept_item s p q d e l str ms xs ys h = go (is_target s)
  where
    go : (t : Bool) → map unplaced (cond t (spot_at s p d l str ms ∷ targets xs) (targets xs)) ≡ map unplaced (cond t (spot_at s q e l str ms ∷ targets ys) (targets ys))
    go true = ap (λ (z : List Unplaced). unplaced (spot_at s q e l str ms) ∷ z) h
    go false = h

kept_both : (xs xr ys yr : List Spot) → kept xs ≡ kept ys → kept xr ≡ kept yr → kept (xs ++ xr) ≡ kept (ys ++ yr)
kept_both xs xr ys yr h k =
    kept_append xs xr ∙ (ap (λ (z : List Unplaced). z ++ kept xr) h ∙ (ap (λ (z : List Unplaced). kept ys ++ z) k ∙ sym (kept_append ys yr)))

kept_spots : (g : Items) (more : Bool) (v : Level) (p q d e : ℕ) → kept (spots g more v p d) ≡ kept (spots g more v q e)
kept_spots none more v p q d e = refl
kept_spots (item l str ms rs) false done p q d e = refl
kept_spots (item l str ms rs) true done p q d e =
    let s : Slot = ari message in
    let v : Level = (rule s).next l.arg 0 in
    let i : ℕ = inside_at p l str in
    let j : ℕ = inside_at q l str in
    kept_item s p q d e l str ms (spots ms false (members s l) i (suc d) ++ spots rs true v (i + length (encode ms)) d) (spots ms false (members s l) j (suc e) ++ spots rs true v (j + length (encode ms)) e)
    (kept_both (spots ms false (members s l) i (suc d)) (spots rs true v (i + length (encode ms)) d) (spots ms false (members s l) j (suc e)) (spots rs true v (j + length (encode ms)) e)
    (kept_spots ms false (members s l) i j (suc d) (suc e)) (kept_spots rs true v (i + length (encode ms)) (j + length (encode ms)) d e))
kept_spots (item l str ms rs) more (due s n) p q d e =
    let v : Level = (rule s).next l.arg n in
    let i : ℕ = inside_at p l str in
    let j : ℕ = inside_at q l str in
    kept_item s p q d e l str ms (spots ms false (members s l) i (suc d) ++ spots rs more v (i + length (encode ms)) d) (spots ms false (members s l) j (suc e) ++ spots rs more v (j + length (encode ms)) e)
    (kept_both (spots ms false (members s l) i (suc d)) (spots rs more v (i + length (encode ms)) d) (spots ms false (members s l) j (suc e)) (spots rs more v (j + length (encode ms)) e)
    (kept_spots ms false (members s l) i j (suc d) (suc e)) (kept_spots rs more v (i + length (encode ms)) (j + length (encode ms)) d e))

kept_run : (s : Slot) (g : Items) (p q d e : ℕ) → kept (run s g p d) ≡ kept (run s g q e)
kept_run s none p q d e = refl
kept_run s (item l str ms rs) p q d e =
    let i : ℕ = inside_at p l str in
    let j : ℕ = inside_at q l str in
    kept_item s p q d e l str ms (spots ms false (members s l) i (suc d) ++ run s rs (i + length (encode ms)) d) (spots ms false (members s l) j (suc e) ++ run s rs (j + length (encode ms)) e)
    (kept_both (spots ms false (members s l) i (suc d)) (run s rs (i + length (encode ms)) d) (spots ms false (members s l) j (suc e)) (run s rs (j + length (encode ms)) e)
    (kept_spots ms false (members s l) i j (suc d) (suc e)) (kept_run s rs (i + length (encode ms)) (j + length (encode ms)) d e))

kept_frames : {d : ℕ} (xs ys : List Spot) → All (Frame d) xs → kept (xs ++ ys) ≡ kept ys
kept_frames xs ys a = kept_append xs ys ∙ ap (λ (z : List Spot). map unplaced z ++ kept ys) (targets_frame a)

left_out_lem : (xs : List Unplaced) (x : Unplaced) (ys : List Unplaced) → left_out (length xs) (xs ++ (x ∷ ys)) ≡ xs ++ ys
left_out_lem [] x ys = refl
left_out_lem (y ∷ xs) x ys = ap (λ (z : List Unplaced). y ∷ z) (left_out_lem xs x ys)

module _ {k : ℕ} {g : Items} (c : Cutting k g) (p : ℕ) where
  abbrev x : Set c.lead c.str c.inside
  x = c.the_set

  abbrev new : Lead
  new = shorter x.lead

  abbrev left : Items
  left = without c.place x.inner.body

  abbrev struck : Spot
  struck = struck_spot c p

  abbrev before : List Unplaced
  before = kept (spots_before c p)

  new_kept : kept (spots (struck_sets k g) true done p 0) ≡ (before ++ kept (spots_front c p)) ++ (kept (spots_rest c p) ++ kept (spots_behind c p))
  new_kept =
      ap kept (new_spots c p)
      ∙ (kept_append (spots_before c p) _
      ∙ (ap (λ (z : List Unplaced). before ++ z)
      (kept_frames (frame_spots x new left (set_place c p)) (new_front c p ++ (new_rest c p ++ new_behind c p)) (x.inner.each_frame (frame_place x new left (set_place c p)) 2)
      ∙ (kept_append (new_front c p) (new_rest c p ++ new_behind c p)
      ∙ (ap (λ (z : List Unplaced). z ++ kept (new_rest c p ++ new_behind c p)) (kept_run x.inner.slot c.parts.front _ (body_place x x.lead x.inner.body (set_place c p)) 2 2)
      ∙ ap (λ (z : List Unplaced). kept (spots_front c p) ++ z)
      (kept_append (new_rest c p) (new_behind c p)
      ∙ (ap (λ (z : List Unplaced). z ++ kept (new_behind c p)) (kept_run x.inner.slot c.parts.rest _ struck.after 2 2)
      ∙ ap (λ (z : List Unplaced). kept (spots_rest c p) ++ z) (kept_spots c.behind true done _ (set_place c p + length (encode (item c.lead c.str (two_of x x.lead x.inner.body) none))) 0 0))))))
      ∙ sym (append_assoc before (kept (spots_front c p)) (kept (spots_rest c p) ++ kept (spots_behind c p)))))

  module _ (clear : All Clear (spots g true done p 0)) where
    abbrev tail : List Spot
    tail = within struck ++ (spots_rest c p ++ spots_behind c p)

    abbrev frames : List Spot
    frames = frame_spots x x.lead x.inner.body (set_place c p)

    abbrev rest : List Spot
    rest = frames ++ (spots_front c p ++ (struck ∷ tail))

    abbrev at : ℕ
    at = set_place c p

    parts : All Clear (spots_before c p) × (All Clear (spots_front c p) × Clear struck)
    parts = go (all_apart (spots_before c p) (rw (old_spots c p) at clear))
      where
        last : All Clear (struck ∷ tail) → Clear struck
        last (spot_too h a) = h

        go : All Clear (spots_before c p) × All Clear (set_spot x x.lead x.inner.body at ∷ (type_spot x x.lead x.inner.body at ∷ (inner_spot x x.lead x.inner.body at ∷ rest)))
            → All Clear (spots_before c p) × (All Clear (spots_front c p) × Clear struck)
        go (a, spot_too q₁ (spot_too q₂ (spot_too q₃ z))) = let (u, v) = all_apart (spots_front c p) (all_apart frames z).1 in (a, (u, last v))

    old_kept : kept (spots g true done p 0) ≡ (before ++ kept (spots_front c p)) ++ (unplaced struck ∷ (kept (spots_rest c p) ++ kept (spots_behind c p)))
    old_kept =
        ap kept (old_spots c p)
        ∙ (kept_append (spots_before c p) _
        ∙ (ap (λ (z : List Unplaced). before ++ z)
        (kept_frames frames (spots_front c p ++ (struck ∷ tail)) (x.inner.each_frame (frame_place x x.lead x.inner.body at) 2)
        ∙ (kept_append (spots_front c p) (struck ∷ tail) ∙ ap (λ (z : List Unplaced). kept (spots_front c p) ++ z) struck_kept))
        ∙ sym (append_assoc before (kept (spots_front c p)) (unplaced struck ∷ (kept (spots_rest c p) ++ kept (spots_behind c p))))))
      where
        struck_kept : kept (struck ∷ tail) ≡ unplaced struck ∷ (kept (spots_rest c p) ++ kept (spots_behind c p))
        struck_kept =
            rw x.inner.is_target_lem
            (ap (λ (z : List Unplaced). unplaced struck ∷ z)
            (kept_append (within struck) (spots_rest c p ++ spots_behind c p)
            ∙ (ap (λ (z : List Spot). map unplaced z ++ kept (spots_rest c p ++ spots_behind c p)) (targets_none (parts.1.1 x.inner.is_target_lem))
            ∙ kept_append (spots_rest c p) (spots_behind c p))))

    so_many : length (before ++ kept (spots_front c p)) ≡ k
    so_many =
        length-append before (kept (spots_front c p))
        ∙ omega (arith, length-map (targets (spots_before c p)) unplaced, length-map (targets (spots_front c p)) unplaced, targets_sets c.stand_before p parts.0, targets_run x.inner.slot c.parts.front (body_place x x.lead x.inner.body at) 2 x.inner.is_target_lem parts.1.0, c.parts.before, c.number)

    pub kept_without : kept (spots (struck_sets k g) true done p 0) ≡ left_out k (kept (spots g true done p 0))
    kept_without =
        new_kept
        ∙ sym
        (ap (left_out k) old_kept
        ∙ (ap (λ (i : ℕ). left_out i ((before ++ kept (spots_front c p)) ++ (unplaced struck ∷ (kept (spots_rest c p) ++ kept (spots_behind c p))))) (sym so_many)
        ∙ left_out_lem (before ++ kept (spots_front c p)) (unplaced struck) (kept (spots_rest c p) ++ kept (spots_behind c p))))
