-- Demand 3, the listing of an accepted message: every reference that stands in it, once, in the order of their first bytes, and nothing else.
use Prim.Native.Nat.{ℕ, suc, ◌-◌, ◌≤◌, ◌<◌}
use mathlib.Core.Logic.{◌⊎◌, inl, inr, ⊎_elim}
use mathlib.Core.Path.{◌≡◌, refl, sym, ◌∙◌, ap, subst}
use mathlib.Core.Bool.{Bool, true, false, cond, true≢false}
use mathlib.Core.List.Memᴰ
use mathlib.Core.List.{List, [], ◌∷◌, ◌++◌, append-nil, append_assoc, map, Memᴰ}
use native.Mathlib.Omega.{arith}
use lib.ListN.{length, take, drop, length-append}
use lib.Seq.{take_at}
use borrow.Author.Tests.{lt-leb}
use Rattle.buffer.specs.Bytes.{within}
use Rattle.cbor.specs.Head.{bytes, text, array, Lead, is_container}
use Rattle.buffer.proofs.ByteLaws.{within_true}
use Rattle.cbor.proofs.HeadLaws.{length_lead}
use Rattle.ari.specs.Table.{message, Slot, version, ari, Level, done, due, rule, members, is_reference}
use Rattle.ari.specs.declared.Limits.{Limits}
use Rattle.ari.specs.declared.Input.TheVariants.{Message}
use Rattle.ari.specs.Items.{Items, none, item, encode, Spot, inside_at, spot_at, spots, spots_of}
use Rattle.ari.specs.Rules.{Is}
use Rattle.ari.specs.Listing.{Entry, entry_of, referring, listing}
use Rattle.ari.specs.References.{Placed, past, references, entry_for}
use Rattle.ari.proofs.Due.{Fit, prev_after, members_leaf}
use Rattle.ari.proofs.Demand.{stands_fit, unique}
use Rattle.ari.proofs.Spots.{All, no_spot_lem, spot_too, all_append, Later, Rising, Covers, spot_rising, spot_covers}
use Rattle.ari.proofs.Referring.{place_of, not_array, found_references}

-- a spot that ends where its last member ends, and has members only if it is a container
abbrev Own : Spot → Type 0
Own x = (x.after ≡ past x.first x.lead x.str x.inside) × (is_container x.lead.kind ≡ false → x.inside ≡ none)

nothing_held : (s : Slot) (l : Lead) (g : Items) → Fit g false (members s l) [] → is_container l.kind ≡ false → g ≡ none
nothing_held s l none f e = refl
nothing_held s l (item k str ms rs) f e = absurd (rw (members_leaf s l e) at f)

own : (g : Items) (more : Bool) (v : Level) (prev : List ℕ) (p d : ℕ) → Fit g more v prev → All Own (spots g more v p d)
own none more v prev p d f = no_spot_lem
own (item l str ms rs) false done prev p d f = no_spot_lem
own (item l str ms rs) true done prev p d f =
    spot_too {x = spot_at (ari message) p d l str ms} (refl, nothing_held (ari message) l ms f.1)
    (all_append (own ms false (members (ari message) l) [] (inside_at p l str) (suc d) f.1)
    (own rs true ((rule (ari message)).next l.arg 0) (prev_after (ari message) [] l str) (past p l str ms) d f.2))
own (item l str ms rs) more (due s n) prev p d f =
    spot_too {x = spot_at s p d l str ms} (refl, nothing_held s l ms f.1)
    (all_append (own ms false (members s l) [] (inside_at p l str) (suc d) f.1)
    (own rs more ((rule s).next l.arg n) (prev_after s prev l str) (past p l str ms) d f.2))

all_mem : {P : Spot → Type 0} {x : Spot} {xs : List Spot} → All P xs → Memᴰ x xs → P x
all_mem no_spot_lem m = elim m [ ]
all_mem {P} (spot_too h a) (Memᴰ.head e) = subst P (sym e) h
all_mem (spot_too h a) (Memᴰ.tail m) = all_mem a m

same_entries : (xs : List Spot) → All Own xs → map entry_of (referring xs) ≡ map entry_for (map place_of (referring xs))
same_entries [] a = refl
same_entries (x ∷ xs) (spot_too h a) = go (is_reference x.slot x.lead) (same_entries xs a)
  where
    go : (t : Bool) → map entry_of (referring xs) ≡ map entry_for (map place_of (referring xs))
        → map entry_of (cond t (x ∷ referring xs) (referring xs)) ≡ map entry_for (map place_of (cond t (x ∷ referring xs) (referring xs)))
    go true e = rw (h.0, e)
    go false e = e

-- Each entry's first byte comes before those of all entries behind it.
abbrev pub Rise : List Entry → Type 0
Rise [] = Unit {0}
Rise (e ∷ es) = ((f : Entry) → Memᴰ f es → e.first < f.first) × Rise es

-- a spot found to be a reference
referring_mem : {x : Spot} (xs : List Spot) → Memᴰ x (referring xs) → Memᴰ x xs × (is_reference x.slot x.lead ≡ true)
referring_mem [] m = absurd (Memᴰ.not-nil m)
referring_mem {x} (y ∷ ys) m = go (is_reference y.slot y.lead) refl m (referring_mem ys)
  where
    more : Memᴰ x ys × (is_reference x.slot x.lead ≡ true) → Memᴰ x (y ∷ ys) × (is_reference x.slot x.lead ≡ true)
    more r = (Memᴰ.tail r.0, r.1)

    go : (t : Bool) → is_reference y.slot y.lead ≡ t → Memᴰ x (cond t (y ∷ referring ys) (referring ys))
        → (Memᴰ x (referring ys) → Memᴰ x ys × (is_reference x.slot x.lead ≡ true)) → Memᴰ x (y ∷ ys) × (is_reference x.slot x.lead ≡ true)
    go true e k ih = ⊎_elim (λ q. (Memᴰ.head q, rw q e)) (λ r. more (ih r)) (Memᴰ.cases_cons k)
    go false e k ih = more (ih k)

rise : (xs : List Spot) → Rising xs → Rise (map entry_of (referring xs))
rise [] r = tt
rise (x ∷ xs) r = go (is_reference x.slot x.lead) (rise xs r.1)
  where
    go : (t : Bool) → Rise (map entry_of (referring xs)) → Rise (map entry_of (cond t (x ∷ referring xs) (referring xs)))
    go true ih = (
      λ f m. (let k = Memᴰ.of_map entry_of (referring xs) m in rw (← k.2) (all_mem r.0 (referring_mem xs k.1).0).0),
      ih,
    )
    go false ih = ih

-- the bytes from a spot's first to its end
bytes_of : (b : List ℕ) (x : Spot) → Covers b x
    → take (past x.first x.lead x.str x.inside - x.first) (drop x.first b) ≡ encode (item x.lead x.str x.inside none)
bytes_of b x v =
    let w : List ℕ = encode (item x.lead x.str x.inside none) in
    let z : ℕ = past x.first x.lead x.str x.inside - x.first in
    let e : drop x.first b ≡ w ++ drop x.after b = v ∙ simp append_assoc in
    let l : length w ≡ z = simp (length-append, append-nil) (omega (arith, length_lead x.lead)) in
    rw e (take_at w (drop x.after b) z l)

-- of two spots one comes first
ordered : {x y : Spot} (xs : List Spot) → Rising xs → Memᴰ x xs → Memᴰ y xs → (x ≡ y) ⊎ (Later x y ⊎ Later y x)
ordered [] r k l = absurd (Memᴰ.not-nil k)
ordered {x} {y} (z ∷ zs) r k l = go (Memᴰ.cases_cons k) (Memᴰ.cases_cons l) (ordered zs r.1)
  where
    go : (x ≡ z) ⊎ Memᴰ x zs → (y ≡ z) ⊎ Memᴰ y zs → (Memᴰ x zs → Memᴰ y zs → (x ≡ y) ⊎ (Later x y ⊎ Later y x))
        → (x ≡ y) ⊎ (Later x y ⊎ Later y x)
    go (inl p) (inl q) ih = inl (p ∙ sym q)
    go (inl p) (inr q) ih = inr (inl (rw p (all_mem r.0 q)))
    go (inr p) (inl q) ih = inr (inr (rw q (all_mem r.0 p)))
    go (inr p) (inr q) ih = ih p q

apart : {x y : Spot} → x.inside ≡ none → (x ≡ y → ⊥) → (x ≡ y) ⊎ (Later x y ⊎ Later y x) → (y.first < x.first) ⊎ (x.after ≤ y.first)
apart e n (inl q) = absurd (n q)
apart e n (inr (inl h)) = inr (h.2 e)
apart e n (inr (inr h)) = inl h.0

module _ {m : Limits} {b : List ℕ} {g : Items} {n : ℕ} (c : Is m Message b g n) where
  spots_own : All Own (spots_of Message g)
  spots_own = own g true (due version 0) [] 0 0 (stands_fit c.stands)

  -- In one equation: the listing is the list of the references that the rules make.
  pub listing_is : listing b ≡ map entry_for (references c.stands)
  unfolding listing
  listing_is = rw (← unique m Message b c) (same_entries (spots_of Message g) spots_own ∙ ap (map entry_for) (found_references c.stands))

  -- Every reference that stands in it is listed,
  pub each_is_listed : (r : Placed) → Memᴰ r (references c.stands) → Memᴰ (entry_for r) (listing b)
  each_is_listed r k = rw listing_is (Memᴰ.map entry_for k)

  -- and nothing else,
  pub nothing_else_is_listed : (e : Entry) → Memᴰ e (listing b) → (r : Placed) × Memᴰ r (references c.stands) × (entry_for r ≡ e)
  nothing_else_is_listed e k = Memᴰ.of_map entry_for (references c.stands) (rw listing_is at k)

  -- once: the first bytes rise.
  pub first_bytes_rise : Rise (listing b)
  unfolding listing
  first_bytes_rise = rw (← unique m Message b c) (rise (spots_of Message g) (spot_rising c))

  -- Each entry gives that reference's own first byte and end: the bytes from the one to the other are those of the reference.
  pub own_bytes : (r : Placed) → Memᴰ r (references c.stands)
      → take ((entry_for r).after - (entry_for r).first) (drop (entry_for r).first b) ≡ encode (item r.lead r.str r.inside none)
  own_bytes r k =
      let f = Memᴰ.of_map place_of (referring (spots_of Message g)) (rw (← found_references c.stands) at k) in
      rw (← f.2) (bytes_of b f.0 (all_mem (spot_covers c) (referring_mem (spots_of Message g) f.1).0))

  -- Nothing is listed from inside a byte string (type 15's value is one) or a text string: no entry begins within one.
  pub outside_strings : (x : Spot) → Memᴰ x (spots_of Message g) → within bytes text x.lead.kind ≡ true → (e : Entry) → Memᴰ e (listing b)
      → (e.first < x.first) ⊎ (x.after ≤ e.first)
  unfolding listing is_container
  outside_strings x k i e l =
      let (lo, hi) = within_true bytes text x.lead.kind i in
      let leaf : is_container x.lead.kind ≡ false = rw (lt-leb array x.lead.kind (omega arith)) in
      let f = Memᴰ.of_map entry_of (referring (spots_of Message g)) (rw (← unique m Message b c) at l) in
      let (y-in, y_is) = referring_mem (spots_of Message g) f.1 in
      rw (← f.2) (apart ((all_mem spots_own k).1 leaf) (λ q. true≢false (sym y_is ∙ rw (← q) (not_array x.slot x.lead leaf))) (ordered (spots_of Message g) (spot_rising c) k y-in))
