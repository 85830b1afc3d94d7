-- The listed entry of a number, over the words of the item table. The idea: it is, among the entries from item k on, the one with so many before it.
use Prim.Native.Nat.{ℕ, suc, ◌+◌, ◌-◌, ◌<◌, ◌≤◌}
use mathlib.Core.Path.{◌≡◌, refl, sym, ◌∙◌, ap}
use mathlib.Core.List.{List, ◌∷◌, map}
use native.Mathlib.Omega.{arith}
use lib.ListN.{length, get_or}
use Rattle.ari.specs.declared.Limits.{Limits}
use Rattle.ari.specs.declared.Input.TheVariants.{Message}
use Rattle.ari.specs.Listing.{Space, number, name, relative, Entry, listing}
use Rattle.item_table.specs.Entries.{Tabled}
use Rattle.listing.specs.declared.Reference.{Reference}
use Rattle.listing.specs.declared.Reference.TheVariants.{Nothing, To}
use Rattle.listing.specs.declared.Namespace.{Namespace}
use Rattle.listing.specs.Entries.{reference_from, space_code, NameStands}
use Rattle.listing.proofs.Table.{listing_from, Here, from_start, from_end, no_reference, here}
use Rattle.names.specs.Translated.{stands_for, translate, translated, stands_by}
use Rattle.names.proofs.Translation.{stands_code}
use Rattle.why_held.specs.declared.Place.{Place}
use Rattle.why_held.specs.Why.{reason_of, no_entry}
use Rattle.why_held.specs.Code.{reason_by, place_of}

reason_code : (x : Space) → reason_by (space_code x) ≡ reason_of x
reason_code (number z) = refl
reason_code (name p n) = refl
reason_code relative = refl

-- an entry with what its namespace stands for
place_of_lem : (published own b : List ℕ) (x : Entry) {fst aft : ℕ} {v y : Namespace} {q : ℕ} → fst ≡ x.first → aft ≡ x.after → v ≡ space_code x.space → NameStands b x.space
    → y ≡ stands_by published own b v → q ≡ reason_by y → ◌≡◌ {A = Place} (record { first = fst; after = aft; reason = q }) (place_of (translate published own x))
place_of_lem published own b x e f g n h d =
    rw (e, f, d, h, g, stands_code published own b x.space n, reason_code (stands_for published own x.space))

-- so many entries from item k on are left before it
pub record Ahead (b published own : List ℕ) (entry left k : ℕ) : Type 0 where
  pub it : get_or (translated published own b) entry no_entry ≡ get_or (map (translate published own) (listing_from b k)) left no_entry
  pub below : left < length (listing_from b k)

module _ {m : Limits} {b t : List ℕ} {n : ℕ} (c : Tabled m Message b n t) (published own : List ℕ) where
  pub ahead_all : (entry : ℕ) → entry < length (listing b) → Ahead b published own entry entry 0
  ahead_all entry h = record { it = rw (from_start c); below = rw (← from_start c) h }

  module _ {entry left k : ℕ} (a : Ahead b published own entry left k) where
    pub found_before : n ≤ k → k ≤ n → ⊥
    found_before h l = let z = ap length (from_end c k h l) in omega (arith, z, a.below)

    module _ (h : k < n) {r : Reference} (f : r ≡ reference_from b (get_or t k 0)) where
      pub no_entry_lem : r ≡ Nothing → Ahead b published own entry left (k + 1)
      no_entry_lem g = let e = no_reference c k h f g in record { it = a.it ∙ rw e; below = rw (← e) a.below }

      module _ {fst aft : ℕ} {v : Namespace} (g : r ≡ To fst aft v) where
        abbrev x : Here b k fst aft v
        x = here c k h f g

        pub another : (left ≡ 0 → ⊥) → Ahead b published own entry (left - 1) (k + 1)
        another z =
            let s : left ≡ suc (left - 1) = omega arith in
            record {
              it = a.it ∙ rw x.listed (ap (λ (j : ℕ). get_or (map (translate published own) (x.entry ∷ listing_from b (k + 1))) j no_entry) s);
              below = omega (arith, a.below, ap length x.listed);
            }

        pub this_one : left ≡ 0 → {y : Namespace} → y ≡ stands_by published own b v → {q : ℕ} → q ≡ reason_by y
            → ◌≡◌ {A = Place} (record { first = fst; after = aft; reason = q }) (place_of (get_or (translated published own b) entry no_entry))
        this_one z e d =
            place_of_lem published own b x.entry x.first_is x.after_is x.space_is x.name_is e d
            ∙ ap place_of (sym it_is)
          where
            it_is : get_or (translated published own b) entry no_entry ≡ translate published own x.entry
            it_is = a.it ∙ rw (z, x.listed)

pub ruleset findings = (ahead_all, found_before, no_entry_lem, another, this_one)
