-- Words in a row. The idea: a word that is carried up still has to be inserted, and that gives the whole.
use Prim.Native.Nat.{ℕ, zero, suc, ◌+◌, ◌<◌, ◌≤◌}
use mathlib.Core.Path.{◌≡◌, sym, ◌∙◌, ap, refl}
use mathlib.Core.List.{List, [], ◌∷◌, ◌++◌}
use native.Mathlib.Omega.{arith}
use native.Mathlib.Numerals.{add-one}
use lib.ListN.{length, take, drop, get_or, set, drop_of_length-le}
use lib.Seq.{append_snoc, set_split, drop-set-lt, take_all, length-take-le}
use Rattle.month_lines.specs.Code.{inserted, shifted}

-- the insertion
module _ {ℓ} {A : Type ℓ} where
  insert_step : (d : A) (l : List A) (i : ℕ) (c : A) → i < length l → inserted (suc i) (get_or l i d) (set l i c) ≡ inserted i c l
  insert_step d [] i c h = absurd (omega arith)
  insert_step d (y ∷ l) zero c h = refl
  insert_step d (y ∷ l) (suc i) c h = ap (λ (r : List A). y ∷ r) (insert_step d l i c (omega arith))

  insert_split : (l : List A) (i : ℕ) (c : A) → i ≤ length l → inserted i c l ≡ take i l ++ c ∷ drop i l
  insert_split l zero c h = refl
  insert_split [] (suc i) c h = absurd (omega arith)
  insert_split (y ∷ l) (suc i) c h = ap (λ (r : List A). y ∷ r) (insert_split l i c (omega arith))

  pub insert_take : (l : List A) (n i : ℕ) (c : A) → i ≤ n → n ≤ length l → take (suc n) (inserted i c l) ≡ inserted i c (take n l)
  insert_take l n zero c h k = refl
  insert_take l zero (suc i) c h k = absurd (omega arith)
  insert_take [] (suc n) (suc i) c h k = absurd (omega arith)
  insert_take (y ∷ l) (suc n) (suc i) c h k = ap (λ (r : List A). y ∷ r) (insert_take l n i c (omega arith) (omega arith))

  pub insert_length : (l : List A) (i : ℕ) (c : A) → length (inserted i c l) ≡ suc (length l)
  insert_length l zero c = refl
  insert_length [] (suc i) c = refl
  insert_length (y ∷ l) (suc i) c = ap suc (insert_length l i c)

module _ (ws : List ℕ) (n : ℕ) where
  -- the whole, x, is what is left to insert
  pub shift_on : (i c : ℕ) (x : List ℕ) → shifted n i c ws ≡ x → i < n → n < length ws → shifted n (i + 1) (get_or ws i 0) (set ws i c) ≡ x
  unfolding shifted
  shift_on i c x e h l = rw (add-one i, insert_step 0 ws i c (omega arith), drop-set-lt (suc n) ws i c (omega arith)) e

  pub shift_done : (i c : ℕ) (x : List ℕ) → shifted n i c ws ≡ x → n ≤ i → i ≤ n → n < length ws → set ws i c ≡ x
  unfolding shifted
  shift_done i c x e h k l =
      let at_end : i ≡ n = omega arith in
      let size : length (take n ws) ≡ n = length-take-le n ws (omega arith) in
      let front : take (suc n) (inserted n c ws) ≡ take n ws ++ (c ∷ []) =
      insert_take ws n n c (omega arith) (omega arith) ∙ insert_split (take n ws) n c (omega arith) ∙ rw (take_all n (take n ws) (omega arith), drop_of_length-le (take n ws) {i = n} (omega arith)) in
      let whole : set ws n c ≡ take (suc n) (inserted n c ws) ++ drop (suc n) ws = set_split ws n c l ∙ sym (rw front (append_snoc (take n ws) c (drop (suc n) ws))) in
      rw at_end (whole ∙ rw at_end at e)
