-- The shortened form of a message has the same listing but for places (R182).
use Prim.Native.Nat.{ℕ, suc, ◌+◌}
use mathlib.Core.Path.{◌≡◌, refl, sym, ◌∙◌, ap}
use mathlib.Core.Bool.{Bool, true, false, cond}
use mathlib.Core.List.{List, ◌∷◌, ◌++◌, map, map-append}
use lib.ListN.{length}
use lib.IntN.{pos, negsuc}
use lib.Dec.{eqb}
use Rattle.cbor.specs.Head.{unsigned, negative, text, Lead}
use Rattle.ari.specs.Table.{Slot, version, ari, message, Level, done, due, rule, members, is_reference}
use Rattle.ari.specs.declared.Limits.{Limits}
use Rattle.ari.specs.declared.Input.TheVariants.{Message}
use Rattle.ari.specs.Items.{Items, none, item, encode, Spot, inside_at, spot_at, spots}
use Rattle.ari.specs.Decode.{decode}
use Rattle.ari.specs.Rules.{Is}
use Rattle.ari.specs.Listing.{Space, number, name, relative, Entry, space_at, space_in, entry_of, referring, listing}
use Rattle.ari.specs.Shortened.{short_lead, shortened, short_form, unplaced, namespaces}
use Rattle.ari.proofs.Shortened.{short_kind, short_arg, short_members, shortened_is}
use Rattle.ari.proofs.Demand.{unique}
use Rattle.ari.proofs.Referring.{referring_append}

-- of items with their places, what they say without
abbrev spaces_of : List Spot → List Space
spaces_of xs = namespaces (map entry_of (referring xs))

spaces_append : (xs ys : List Spot) → spaces_of (xs ++ ys) ≡ spaces_of xs ++ spaces_of ys
spaces_append xs ys = rw (referring_append xs ys, map-append entry_of (referring xs) (referring ys), map-append (λ (e : Entry). unplaced e.space) (map entry_of (referring xs)) (map entry_of (referring ys)))

short_space_at : (p q : ℕ) (l : Lead) (s : List ℕ) → unplaced (space_at q (short_lead l) s) ≡ unplaced (space_at p l s)
short_space_at p q l s = rw (short_kind l, short_arg l) (go (eqb l.kind unsigned) (eqb l.kind negative) (eqb l.kind text))
  where
    go : (a b c : Bool)
        → unplaced (cond a (number (pos l.arg)) (cond b (number (negsuc l.arg)) (cond c (name q s) relative)))
        ≡ unplaced (cond a (number (pos l.arg)) (cond b (number (negsuc l.arg)) (cond c (name p s) relative)))
    go true b c = refl
    go false true c = refl
    go false false true = refl
    go false false false = refl

short_space_in : (p q : ℕ) (ms : Items) → unplaced (space_in q (shortened ms)) ≡ unplaced (space_in p ms)
short_space_in p q none = refl
short_space_in p q (item l s ms rs) = short_space_at p q l s

short_reference : (t : Slot) (l : Lead) → is_reference t (short_lead l) ≡ is_reference t l
unfolding is_reference
short_reference t l = rw (short_kind l, short_arg l)

-- an item and what stands behind it
short_one : (t : Slot) (p q d e : ℕ) (l : Lead) (s : List ℕ) (ms : Items) (xs ys : List Spot) → spaces_of xs ≡ spaces_of ys
    → spaces_of (spot_at t q e (short_lead l) s (shortened ms) ∷ xs) ≡ spaces_of (spot_at t p d l s ms ∷ ys)
short_one t p q d e l s ms xs ys h = rw (short_reference t l) (go (is_reference t l))
  where
    x : Spot
    x = spot_at t q e (short_lead l) s (shortened ms)

    y : Spot
    y = spot_at t p d l s ms

    go : (c : Bool) → namespaces (map entry_of (cond c (x ∷ referring xs) (referring xs))) ≡ namespaces (map entry_of (cond c (y ∷ referring ys) (referring ys)))
    go true = ap (λ (z : List Space). unplaced (entry_of x).space ∷ z) h ∙ ap (λ (z : Space). z ∷ spaces_of ys) (short_space_in (inside_at p l s) (inside_at q (short_lead l) s) ms)
    go false = h

-- and with the members between
short_both : (xs xr ys yr : List Spot) → spaces_of xs ≡ spaces_of ys → spaces_of xr ≡ spaces_of yr → spaces_of (xs ++ xr) ≡ spaces_of (ys ++ yr)
short_both xs xr ys yr h k = spaces_append xs xr ∙ (ap (λ (z : List Space). z ++ spaces_of xr) h ∙ (ap (λ (z : List Space). spaces_of ys ++ z) k ∙ sym (spaces_append ys yr)))

short_spaces : (g : Items) (more : Bool) (v : Level) (p q d e : ℕ) → spaces_of (spots (shortened g) more v q e) ≡ spaces_of (spots g more v p d)
short_spaces none more v p q d e = refl
short_spaces (item l s ms rs) false done p q d e = refl
short_spaces (item l s ms rs) true done p q d e =
    let v : Level = (rule (ari message)).next l.arg 0 in
    let ip : ℕ = inside_at p l s in
    let iq : ℕ = inside_at q (short_lead l) s in
    let xs : List Spot = spots (shortened ms) false (members (ari message) l) iq (suc e) in
    let xr : List Spot = spots (shortened rs) true v (iq + length (encode (shortened ms))) e in
    let ys : List Spot = spots ms false (members (ari message) l) ip (suc d) in
    let yr : List Spot = spots rs true v (ip + length (encode ms)) d in
    let h : spaces_of xs ≡ spaces_of ys = short_spaces ms false (members (ari message) l) ip iq (suc d) (suc e) in
    let k : spaces_of xr ≡ spaces_of yr = short_spaces rs true v (ip + length (encode ms)) (iq + length (encode (shortened ms))) d e in
    rw (short_members (ari message) l, short_arg l) (short_one (ari message) p q d e l s ms (xs ++ xr) (ys ++ yr) (short_both xs xr ys yr h k))
short_spaces (item l s ms rs) more (due t n) p q d e =
    let v : Level = (rule t).next l.arg n in
    let ip : ℕ = inside_at p l s in
    let iq : ℕ = inside_at q (short_lead l) s in
    let xs : List Spot = spots (shortened ms) false (members t l) iq (suc e) in
    let xr : List Spot = spots (shortened rs) more v (iq + length (encode (shortened ms))) e in
    let ys : List Spot = spots ms false (members t l) ip (suc d) in
    let yr : List Spot = spots rs more v (ip + length (encode ms)) d in
    let h : spaces_of xs ≡ spaces_of ys = short_spaces ms false (members t l) ip iq (suc d) (suc e) in
    let k : spaces_of xr ≡ spaces_of yr = short_spaces rs more v (ip + length (encode ms)) (iq + length (encode (shortened ms))) d e in
    rw (short_members t l, short_arg l) (short_one t p q d e l s ms (xs ++ xr) (ys ++ yr) (short_both xs xr ys yr h k))

-- The listings of an accepted message and of its shortened form have the same namespaces, one entry each.
pub same_namespaces : (m : Limits) (b : List ℕ) (n : ℕ) → Is m Message b (decode b) n → namespaces (listing (short_form b)) ≡ namespaces (listing b)
unfolding listing
same_namespaces m b n c =
    let u : shortened (decode b) ≡ decode (short_form b) = unique m Message (short_form b) (shortened_is c) in
    ap (λ (g : Items). spaces_of (spots g true (due version 0) 0 0)) (sym u) ∙ short_spaces (decode b) true (due version 0) 0 0 0 0
