-- Each word of the table of references, and the listing. The idea: reference k is one of the items, so what the item table's words are known to say
-- its word says too.
use Prim.Native.Nat.{ℕ, zero, suc, ◌+◌, ◌^◌, ◌<◌}
use mathlib.Core.Path.{◌≡◌, refl, sym, ◌∙◌, ap}
use mathlib.Core.Bool.{Bool, true, false}
use mathlib.Core.List.{List, [], ◌∷◌, map}
use native.Mathlib.Omega.{arith}
use native.Mathlib.Numerals.{add-one}
use lib.ListN.{length, get_or, drop, length-map}
use lib.Seq.{drop-drop}
use Rattle.cbor.specs.Head.{size}
use Rattle.cbor.specs.Answer.{head_at}
use Rattle.cbor.proofs.HeadLaws.{width_le}
use Rattle.ari.specs.Table.{is_reference}
use Rattle.ari.specs.declared.Limits.{Limits}
use Rattle.ari.specs.declared.Input.TheVariants.{Message}
use Rattle.ari.specs.Items.{Spot, spots_of}
use Rattle.ari.specs.Decode.{decode}
use Rattle.ari.specs.Listing.{Entry, referring, listing}
use Rattle.ari.specs.Listing as ari
use Rattle.ari.proofs.Spots.{spot_count}
use Rattle.item_table.specs.declared.Item.{Item}
use Rattle.item_table.specs.Entries.{item_of, head_of, entry_of, no_spot, Tabled}
use Rattle.item_table.specs.References.{Referenced}
use Rattle.item_table.proofs.Entries.{get_d_entries, head_of_at}
use Rattle.reader.proofs.Results.{as_many}
use Rattle.listing.specs.declared.Namespace.{Namespace}
use Rattle.listing.specs.declared.Reference.TheVariants.{To}
use Rattle.listing.specs.Entries.{namespace_of, reference_from, space_code}
use Rattle.listing.proofs.ReferenceWays.{a_reference as a_word}
use Rattle.listing.proofs.Table.{listing_from, Here, here}

-- reference k among the items
record Found (xs : List Spot) (d : Spot) (k : ℕ) : Type 0 where
  number : ℕ
  within : number < length xs
  same : get_or (referring xs) k d ≡ get_or xs number d
  one : is_reference (get_or xs number d).slot (get_or xs number d).lead ≡ true
  rest : referring (drop number xs) ≡ drop k (referring xs)

found : (xs : List Spot) (d : Spot) (k : ℕ) → k < length (referring xs) → Found xs d k
found [] d k h = absurd (omega arith)
found (x ∷ xs) d k h = go (is_reference x.slot x.lead) refl k h (found xs d)
  where
    later : {k k' : ℕ} → Found xs d k → get_or (referring (x ∷ xs)) k' d ≡ get_or (referring xs) k d → drop k' (referring (x ∷ xs)) ≡ drop k (referring xs) → Found (x ∷ xs) d k'
    later f e g = record { number = suc f.number; within = let w = f.within in omega arith; same = e ∙ f.same; one = f.one; rest = f.rest ∙ sym g }

    go : (y : Bool) → is_reference x.slot x.lead ≡ y → (k : ℕ) → k < length (referring (x ∷ xs)) → ((k : ℕ) → k < length (referring xs) → Found xs d k) → Found (x ∷ xs) d k
    go true e zero h f = record { number = 0; within = omega arith; same = rw e; one = e; rest = refl }
    go true e (suc k) h f = later (f k (let z = rw e at h in omega arith)) (rw e) (rw e)
    go false e k h f = later (f k (rw e at h)) (rw e) (rw e)

-- what is listed from entry k on
drop_map : (f : Spot → Entry) (k : ℕ) (xs : List Spot) → drop k (map f xs) ≡ map f (drop k xs)
drop_map f zero xs = refl
drop_map f (suc k) [] = refl
drop_map f (suc k) (x ∷ xs) = drop_map f k xs

-- A reference that word k of the references stands for.
pub record Stands (b : List ℕ) (k first after : ℕ) (n : Namespace) : Type 0 where
  pub entry : Entry
  pub listed : drop k (listing b) ≡ entry ∷ drop (k + 1) (listing b)
  pub first_is : first ≡ entry.first
  pub after_is : after ≡ entry.after
  pub space_is : n ≡ space_code entry.space
  pub short : (first < 65536) × (after < 65536)

module _ {m : Limits} {b t : List ℕ} {n : ℕ} (c : Referenced m Message b n t) where
  abbrev xs : List Spot
  xs = spots_of Message (decode b)

  pub number_is : get_or t 0 0 ≡ length (listing b)
  number_is = c.number ∙ as_many b

  pub words : length (listing b) < length t
  words = omega (arith, c.room, as_many b)

  -- the words that the table of all items has
  whole : Tabled m Message b n (map entry_of xs)
  whole = record {
    is = c.is;
    small = c.small;
    shallow = c.shallow;
    room = omega (arith, length-map xs entry_of, spot_count c.is);
    kept = λ k h. get_d_entries xs k no_spot (omega (arith, spot_count c.is));
  }

  module _ (k : ℕ) (h : k < length (listing b)) where
    among : Found xs no_spot k
    among = found xs no_spot k (omega (arith, as_many b))

    abbrev j : ℕ
    j = among.number

    in_whole : j < n
    in_whole = omega (arith, among.within, spot_count c.is)

    word_is : get_or t (k + 1) 0 ≡ get_or (map entry_of xs) j 0
    word_is = ap (λ (i : ℕ). get_or t i 0) (add-one k) ∙ c.kept k (omega (arith, as_many b)) ∙ ap entry_of among.same ∙ sym (get_d_entries xs j no_spot among.within)

    from_here : drop k (listing b) ≡ listing_from b j
    unfolding listing_from listing
    from_here = drop_map ari.entry_of k (referring xs) ∙ ap (map ari.entry_of) (sym among.rest)

    module _ {x : Item} (ex : x ≡ item_of (get_or t (k + 1) 0)) {head : ℕ} (eh : head ≡ head_of (get_or t (k + 1) 0)) where
      head_is : head ≡ size (get_or xs j no_spot).lead
      head_is = eh ∙ ap head_of word_is ∙ head_of_at whole j in_whole ∙ rw among.one

      filled : head ≡ 0 → ⊥
      filled e = omega (arith, head_is)

      pub inside : x.first + head < 2 ^ 64
      unfolding item_of
      inside = omega (arith, ap (λ (y : Item). y.first) ex, head_is, width_le (get_or xs j no_spot).lead.info)

      pub stands : {s : Namespace} → s ≡ namespace_of (x.first + head) (head_at b (x.first + head)) → Stands b k x.first x.after s
      stands {s} es =
          let w = get_or (map entry_of xs) j 0 in
          let r : To x.first x.after s ≡ reference_from b w = a_word b w (eh ∙ ap head_of word_is) (ex ∙ ap item_of word_is) filled es in
          let z : Here b j x.first x.after s = here whole j in_whole r refl in
          let now : drop k (listing b) ≡ z.entry ∷ listing_from b (j + 1) = from_here ∙ z.listed in
          record {
            entry = z.entry;
            listed = now ∙ ap (λ (es : List Entry). z.entry ∷ es) (sym (sym (drop-drop 1 k (listing b)) ∙ ap (drop 1) now));
            first_is = z.first_is;
            after_is = z.after_is;
            space_is = z.space_is;
            short = z.short;
          }
