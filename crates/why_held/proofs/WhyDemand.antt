-- The chain is real: from one of the message's own items each link directly holds the next, in the tree, and the last is the entry; each has its item's
-- bytes and meaning, and a map's value the place of its own key. And the answer is release's own.
use Prim.Native.Nat.{ℕ, ◌<◌}
use mathlib.Core.Path.{◌≡◌, refl, sym, ◌∙◌, ap}
use mathlib.Core.Bool.{Bool, true, false, cond, true≢false}
use mathlib.Core.List.Memᴰ
use mathlib.Core.List.{List, [], ◌∷◌, Memᴰ}
use native.Mathlib.Omega.{arith}
use lib.ListN.{length, get_or}
use lib.Dec.{eqb}
use Rattle.ari.specs.Table.{alone, message, inside, param, Slot, version, ari, type, value, namespace, object_namespace, object_type, object_id, params, key, entry, nonce, set_time, target, report, report_time, report_source, due, max64}
use Rattle.ari.specs.declared.Limits.{Limits}
use Rattle.ari.specs.declared.Input.TheVariants.{Message}
use Rattle.ari.specs.Items.{Spot, spots_of}
use Rattle.ari.specs.Decode.{decode}
use Rattle.ari.specs.Rules.{Is}
use Rattle.ari.specs.Listing.{Entry, referring, listing}
use Rattle.ari.specs.Listing as ari
use Rattle.ari.specs.Targets.{around}
use Rattle.ari.proofs.Spots.{All, spot_too}
use Rattle.ari.proofs.Members.{all_mems}
use Rattle.item_table.specs.Entries.{no_spot}
use Rattle.release.specs.Release.{Release, refused, yes, no, release_bytes}
use Rattle.why_held.specs.declared.Link.{Link}
use Rattle.why_held.specs.declared.Outcome.{Outcome}
use Rattle.why_held.specs.declared.Outcome.TheVariants.{Released, Held}
use Rattle.std.specs.declared.result.Result.{Result}
use Rattle.std.specs.declared.result.Result.TheVariants.{Ok, Err}
use Rattle.ari.specs.declared.Refusal.{Refusal}
use Rattle.ari.specs.Refusals.{number_of}
use Rattle.ari.specs.Refusals as refusals
use Rattle.ari.proofs.Refusals.{number_of-fault_of}
use Rattle.release.proofs.Compared.{Numbered, refusal, bytes_numbered}
use Rattle.why_held.specs.Chain.{a_set, map_value, member_of, slot_meaning, meaning_of, link_of, chain_from, chain}
use Rattle.why_held.specs.Why.{no_entry, outcome_of, answer_of, why_by, why}
use Rattle.why_held.proofs.Paths.{Path, tops, holders, way_down}
use Rattle.why_held.proofs.Keys.{is_key, is_value, InTurn, spot_turns}
use Rattle.why_held.proofs.Going.{reference_mem}
use Rattle.why_held.proofs.Answered.{mem_at}

-- a place is that of an item's key
pub record KeyOf (xs : List Spot) (y : Spot) (place : ℕ) : Type 0 where
  pub key : Spot
  pub at : Memᴰ key xs
  pub is : is_key key.slot ≡ true
  pub ends : key.after ≡ y.first
  pub place_is : place ≡ key.first

-- links that say what items are: their bytes, their meaning by the container around, the key of a map's value
pub data Links (xs : List Spot) : ℕ → List Spot → List Link → Type 0 where
  no_links : {m : ℕ} → Links xs m [] []
  link : {m : ℕ} {y : Spot} {ys : List Spot} {l : Link} {ls : List Link} → l.first ≡ y.first → l.after ≡ y.after → l.meaning ≡ meaning_of m y.slot
      → (is_value y.slot ≡ true → KeyOf xs y l.key) → (is_value y.slot ≡ false → l.key ≡ max64) → Links xs l.meaning ys ls → Links xs m (y ∷ ys) (l ∷ ls)

-- a map's value is what means one
member_no_value : (m : ℕ) → eqb (member_of m) map_value ≡ false
member_no_value m = go (eqb m 3) (eqb m 6)
  where
    go : (t u : Bool) → eqb (cond t 4 (cond u 8 9)) map_value ≡ false
    go true u = refl
    go false true = refl
    go false false = refl

means_value : (m : ℕ) (s : Slot) → eqb (meaning_of m s) map_value ≡ is_value s
unfolding slot_meaning
means_value m version = refl
means_value m (ari alone) = member_no_value m
means_value m (ari message) = refl
means_value m (ari inside) = member_no_value m
means_value m (ari param) = member_no_value m
means_value m (type w) = refl
means_value m (value t w) = refl
means_value m namespace = refl
means_value m (object_namespace p) = refl
means_value m (object_type p) = refl
means_value m (object_id p) = refl
means_value m params = refl
means_value m (key w) = refl
means_value m (entry w) = refl
means_value m (nonce t) = refl
means_value m set_time = refl
means_value m target = refl
means_value m report = refl
means_value m report_time = refl
means_value m report_source = refl

module _ (xs : List Spot) where
  -- the item before a map's value is one of them
  before_in : {z : Spot} → Memᴰ z (no_spot ∷ xs) → is_key z.slot ≡ true → Memᴰ z xs
  before_in (Memᴰ.head e) k = absurd (true≢false (sym k ∙ rw e))
  before_in (Memᴰ.tail m) k = m

  linked : (x z : Spot) (m p : ℕ) (ys : List Spot) → p ≡ z.first → Memᴰ z (no_spot ∷ xs) → InTurn z ys → All (λ y. Memᴰ y xs) ys
      → Links xs m (holders x ys) (chain_from m p ys x.first x.after)
  linked x z m p [] e at t a = no_links
  linked x z m p (y ∷ ys) e at t (spot_too h a) =
      go (around y x.first x.after) (linked x y (meaning_of m y.slot) y.first ys refl (Memᴰ.tail h) t.1 a)
      (linked x y m y.first ys refl (Memᴰ.tail h) t.1 a)
    where
      keyed : is_value y.slot ≡ true → KeyOf xs y (link_of (meaning_of m y.slot) p y).key
      keyed v =
          let u = t.0 v in
          record { key = z; at = before_in at u.0; is = u.0; ends = u.1; place_is = rw (means_value m y.slot, v) e }

      unkeyed : is_value y.slot ≡ false → (link_of (meaning_of m y.slot) p y).key ≡ max64
      unkeyed v = rw (means_value m y.slot, v)

      go : (b : Bool) → Links xs (meaning_of m y.slot) (holders x ys) (chain_from (meaning_of m y.slot) y.first ys x.first x.after)
          → Links xs m (holders x ys) (chain_from m y.first ys x.first x.after)
          → Links xs m (cond b (y ∷ holders x ys) (holders x ys))
          (cond b (link_of (meaning_of m y.slot) p y ∷ chain_from (meaning_of m y.slot) y.first ys x.first x.after) (chain_from m y.first ys x.first x.after))
      go true r n = link refl refl refl keyed unkeyed r
      go false r n = n

-- the chain to a listed entry
pub record Real (b : List ℕ) (e : Entry) : Type 0 where
  pub spot : Spot
  pub is_entry : ari.entry_of spot ≡ e
  pub ways : List Spot
  pub way : Path spot (tops (decode b) true (due version 0) 0 0) ways
  pub says : Links (spots_of Message (decode b)) a_set ways (chain b e.first e.after)

module _ {m : Limits} {b : List ℕ} {n : ℕ} (c : Is m Message b (decode b) n) where
  real_of : (x : Spot) → Memᴰ x (spots_of Message (decode b)) → {e : Entry} → ari.entry_of x ≡ e → Real b e
  unfolding chain
  real_of x at q =
      let xs : List Spot = spots_of Message (decode b) in
      rw (← q)
      (record {
        spot = x;
        is_entry = refl;
        ways = holders x xs;
        way = way_down c x at;
        says = linked xs x no_spot a_set 0 xs refl (Memᴰ.head refl) (spot_turns c no_spot) (all_mems xs);
      })

  pub chain_is_real : (k : ℕ) → k < length (listing b) → Real b (get_or (listing b) k no_entry)
  unfolding listing
  chain_is_real k h =
      let (x, r, e) = Memᴰ.of_map ari.entry_of (referring (spots_of Message (decode b))) (mem_at (listing b) k no_entry h) in
      real_of x (reference_mem (spots_of Message (decode b)) r).0 e

-- released, refused and held as release says
module _ (m : Limits) (b t published own : List ℕ) (s : ℕ) where
  abbrev r : Release
  r = release_bytes m b t published own s

  abbrev outcome : Result Outcome Refusal
  outcome = answer_of (why m b t published own s)

  pub released_alike : (r ≡ yes → outcome ≡ Ok Released) × (outcome ≡ Ok Released → r ≡ yes)
  unfolding why
  released_alike = (λ e. rw e, λ e. go r e)
    where
      go : (x : Release) → answer_of (why_by b published own x) ≡ Ok Released → x ≡ yes
      go yes q = refl
      go (no k) q = absurd (let z : ◌≡◌ {A = ℕ} 0 1 = cc in omega arith)
      go (refused n p) q = absurd (let z : ◌≡◌ {A = ℕ} 0 1 = cc in omega arith)

  pub refused_alike : ((n p : ℕ) → r ≡ refused n p → outcome ≡ refusals.refused n p) × ((e : Refusal) → outcome ≡ Err e → r ≡ refused (number_of e.fault) e.place)
  unfolding why
  refused_alike = (λ n p e. rw e, λ e q. go r (bytes_numbered m b published own s t) q)
    where
      go : (x : Release) → Numbered x → {e : Refusal} → answer_of (why_by b published own x) ≡ Err e → x ≡ refused (number_of e.fault) e.place
      go yes h q = absurd (let z : ◌≡◌ {A = ℕ} 0 1 = cc in omega arith)
      go (no k) h q = absurd (let z : ◌≡◌ {A = ℕ} 0 1 = cc in omega arith)
      go (refused n p) (refusal i) {e} q =
          let f : refusals.refusal_of n p ≡ e = cc in rw (← f) (ap (λ (k : ℕ). refused k p) (sym (number_of-fault_of n i)))

  pub held_alike : (k q i : ℕ) → outcome ≡ Ok (Held k q i) → r ≡ no k
  unfolding why
  held_alike k q i e = go r e
    where
      go : (x : Release) → answer_of (why_by b published own x) ≡ Ok (Held k q i) → x ≡ no k
      go yes e = absurd (let z : ◌≡◌ {A = ℕ} 0 1 = cc in omega arith)
      go (no k') e = let y : k' ≡ k = cc in ap no y
      go (refused n p) e = absurd (let z : ◌≡◌ {A = ℕ} 0 1 = cc in omega arith)
