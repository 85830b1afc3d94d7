-- Item by item through two tables, and the answer from there.
use Rattle.std.proofs.Common.{ℕ, suc, ◌+◌, ◌<◌, ◌≤◌, ◌≡◌, refl, sym, ◌∙◌, ap, Bool, true, false, List, [], ◌∷◌, map, length, get_or, take, arith, Ok, Err, Result}
use Rattle.std.specs.Cmp.{both_ways}
use Rattle.std.specs.List.{list_all, zip}
use Rattle.std.proofs.lemmas.List.{get_or-take, length-take-le}
use Rattle.std.proofs.Math.ListN.{get_or-map, length-map}
use Rattle.std.proofs.lemmas.List.Elements.{All-from_get_or}
use Rattle.std.proofs.lemmas.List.Sums.{AllPass-from_list_all, list_all-from_AllPass}
use Rattle.std.proofs.lemmas.Slice.Zip.{length-zip, get_or-zip}
use Rattle.ari.specs.declared.Limits.{Limits}
use Rattle.ari.specs.declared.Input.TheVariants.{Single}
use Rattle.ari.specs.declared.Refusal.{Refusal}
use Rattle.ari.specs.Reader.{accept, read}
use Rattle.ari.specs.Items.{Spot, spots_of}
use Rattle.ari.specs.Decode.{decode}
use Rattle.ari.specs.Rules.{Is}
use Rattle.ari.specs.Same.{is_same, Seen, seen}
use Rattle.ari.proofs.Spots.{spot_count}
use Rattle.ari.proofs.Same.{same_items, items_same}
use Rattle.item_table.specs.Entries.{no_spot, Tabled}
use Rattle.reader.specs.Results.{result_of}
use Rattle.reader.proofs.Results.{is_accepted, is_refused}
use Rattle.sameness.specs.Sameness.{sameness_by, sameness}
use Rattle.sameness.specs.Code.{same_item_by, all_same_by}
use Rattle.sameness.proofs.Alike.{same_seen, seen_same}

all_seen : (xs ys : List Spot) → length xs ≡ length ys → ((j : ℕ) → j < length xs → seen (get_or xs j no_spot) ≡ seen (get_or ys j no_spot)) → map seen xs ≡ map seen ys
all_seen [] [] l f = refl
all_seen [] (y ∷ ys) l f = absurd (omega arith)
all_seen (x ∷ xs) [] l f = absurd (omega arith)
all_seen (x ∷ xs) (y ∷ ys) l f =
    ap (λ (z : Seen). z ∷ map seen xs) (f 0 (omega arith))
    ∙ ap (λ (z : List Seen). seen y ∷ z) (all_seen xs ys (omega arith) (λ j h. f (suc j) (omega arith)))

-- at item k
at_item : (xs ys : List Spot) (k : ℕ) → map seen xs ≡ map seen ys → seen (get_or xs k no_spot) ≡ seen (get_or ys k no_spot)
at_item xs ys k e = sym (get_or-map seen xs k no_spot) ∙ (ap (λ (z : List Seen). get_or z k (seen no_spot)) e ∙ get_or-map seen ys k no_spot)

false_if : (x : Bool) → (x ≡ true → ⊥) → false ≡ x
false_if true n = absurd (n refl)
false_if false n = refl

-- item by item through two tables
module _ {m : Limits} {a b : List ℕ} {n : ℕ} {t t' : List ℕ} (c : Tabled m Single a n t) (c' : Tabled m Single b n t') where
  abbrev alike : ℕ × ℕ → Bool
  alike p = same_item_by a p.0 b p.1

  abbrev pairs : List (ℕ × ℕ)
  pairs = zip (take n t) (take n t')

  long : length (take n t) ≡ n
  long = length-take-le n t c.room

  long' : length (take n t') ≡ n
  long' = length-take-le n t' c'.room

  pair : (k : ℕ) → k < n → get_or pairs k (0, 0) ≡ (get_or t k 0, get_or t' k 0)
  pair k h = get_or-zip (take n t) (take n t') k (0, 0) (omega (arith, long)) (omega (arith, long')) ∙ rw (get_or-take n t k 0 h, get_or-take n t' k 0 h)

  pub by_tables : all_same_by a b (take n t) (take n t') ≡ is_same a b
  by_tables = both_ways _ _ so_same so_alike
    where
      so_same : list_all alike pairs ≡ true → is_same a b ≡ true
      so_same e =
          let l : length (spots_of Single (decode a)) ≡ length (spots_of Single (decode b)) = spot_count c.is ∙ sym (spot_count c'.is) in
          items_same a b (all_seen (spots_of Single (decode a)) (spots_of Single (decode b)) l
          (λ j g.
          let h : j < n = omega (arith, spot_count c.is) in
          let passes : alike (get_or pairs j (0, 0)) ≡ true = AllPass-from_list_all alike pairs e j (0, 0) (omega (arith, length-zip (take n t) (take n t'), long, long')) in
          same_seen c c' j j h h (sym (ap alike (pair j h)) ∙ passes)))

      so_alike : is_same a b ≡ true → list_all alike pairs ≡ true
      so_alike e =
          list_all-from_AllPass alike pairs
          (All-from_get_or (λ p. alike p ≡ true) pairs (0, 0)
          (λ k g.
          let h : k < n = omega (arith, length-zip (take n t) (take n t'), long, long') in
          ap alike (pair k h) ∙ (seen_same c c' k k h h (at_item (spots_of Single (decode a)) (spots_of Single (decode b)) k (same_items c.is c'.is e)))))

-- the answers
other_count : {m m' : Limits} {a b : List ℕ} {n n' : ℕ} → Is m Single a (decode a) n → Is m' Single b (decode b) n' → (n ≡ n' → ⊥) → false ≡ is_same a b
other_count {a = a} {b = b} c d f =
    false_if (is_same a b)
    (λ i.
    let e = ap length (same_items c d i) in
    f (omega (arith, e, length-map (spots_of Single (decode a)) seen, length-map (spots_of Single (decode b)) seen, spot_count c, spot_count d)))

module _ (m : Limits) (a b : List ℕ) {x : Result ℕ Refusal} (ex : x ≡ result_of (read m Single a)) where
  pub first_refused : {e : Refusal} → x ≡ Err e → Err e ≡ sameness m a b
  unfolding sameness
  first_refused f = is_refused m Single a ex f (λ z. sameness_by z (read m Single b) (is_same a b)) (λ r p. refl)

  module _ {n : ℕ} (f : x ≡ Ok n) {y : Result ℕ Refusal} (ey : y ≡ result_of (read m Single b)) where
    pub second_refused : {e : Refusal} → y ≡ Err e → Err e ≡ sameness m a b
    unfolding sameness
    second_refused g = rw (is_accepted m Single a ex f) (is_refused m Single b ey g (λ z. sameness_by (accept n) z (is_same a b)) (λ r p. refl))

    module _ {n' : ℕ} (g : y ≡ Ok n') where
      both_accepted : Ok (is_same a b) ≡ sameness m a b
      unfolding sameness
      both_accepted = rw (is_accepted m Single a ex f, is_accepted m Single b ey g) refl

      pub counts_differ : {t t' : List ℕ} → Tabled m Single a n t → Tabled m Single b n' t' → (n ≡ n' → ⊥) → Ok false ≡ sameness m a b
      counts_differ c d q = ap Ok (other_count c.is d.is q) ∙ both_accepted

      pub counts_agree : {t t' : List ℕ} → Tabled m Single a n t → Tabled m Single b n' t' → n ≡ n' → {r : Bool} → r ≡ all_same_by a b (take n t) (take n t') → Ok r ≡ sameness m a b
      counts_agree c d q e = ap Ok (e ∙ by_tables c (rw (← q) at d)) ∙ both_accepted
