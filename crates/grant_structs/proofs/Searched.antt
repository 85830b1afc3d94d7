-- A search, turn by turn: what is left to look at decides, until a turn hits or nothing is left.
use Prim.Native.Nat.{ℕ, suc, ◌+◌, ◌<◌, ◌≤◌}
use mathlib.Core.Path.{◌≡◌, refl, sym, ◌∙◌, ap}
use mathlib.Core.Bool.{Bool, true, false, ◌||◌, cond, true≢false}
use mathlib.Core.List.{List, [], ◌∷◌, ◌++◌}
use native.Mathlib.Omega.{arith}
use lib.ListN.{length, take, drop, length-map}
use lib.Seq.{drop-cons, drop-length, get_or-take, length-take-le, take-length, take-suc}
use lib.Dec.{ltb}
use borrow.Author.Tests.{lt-ltb, le-ltb}
use Rattle.grants.specs.Grants.{Grant, some, clash, passes, refused, check_from, check}
use Rattle.grant_structs.specs.declared.Grant.{Grant as Row}
use Rattle.release.specs.Compared.{rows_up_to}
use Rattle.grant_structs.specs.Structs.{grant_of, grants, first_row, compared_by, none, row_at, found_at}

-- the first row below m
module _ (p : Grant → Bool) (ys : List Row) (m : ℕ) (most : m ≤ length ys) where
  abbrev pub Sought : ℕ → Type 0
  Sought i = first_row p (grants (take m ys)) ≡ i + first_row p (grants (drop i (take m ys)))

  many : length (take m ys) ≡ m
  many = length-take-le m ys most

  here : (i : ℕ) → i < m → grants (drop i (take m ys)) ≡ grant_of (row_at ys i) ∷ grants (drop (suc i) (take m ys))
  here i l = rw (drop-cons (take m ys) i none (omega (arith, many)), get_or-take m ys i none l)

  pub none_sought : Sought 0
  none_sought = omega arith

  pub missed : (i : ℕ) → i < m → Sought i → p (grant_of (row_at ys i)) ≡ false → Sought (suc i)
  missed i l q e = q ∙ rw (here i l, e) (omega arith)

  pub hit : (i : ℕ) → i < m → Sought i → p (grant_of (row_at ys i)) ≡ true → i ≡ first_row p (grants (take m ys))
  hit i l q e = sym (q ∙ rw (here i l, e) (omega arith))

  pub none_left : (i : ℕ) → i ≡ m → Sought i → i ≡ first_row p (grants (take m ys))
  none_left i e q = sym (q ∙ rw (e ∙ sym many, drop-length (take m ys)) (omega arith))

-- what it tells: whether some row is as asked, and how many were compared
module _ (p : Grant → Bool) where
  is_there_lem : (gs : List Grant) → some p gs ≡ true → (first_row p gs < length gs) × (rows_up_to p gs ≡ suc (first_row p gs))
  is_there_lem [] e = absurd (true≢false (sym e))
  is_there_lem (g ∷ gs) e = go (p g) e (is_there_lem gs)
    where
      go : (x : Bool) → (x || some p gs) ≡ true → (some p gs ≡ true → (first_row p gs < length gs) × (rows_up_to p gs ≡ suc (first_row p gs)))
          → (cond x 0 (suc (first_row p gs)) < length (g ∷ gs)) × (suc (cond x 0 (rows_up_to p gs)) ≡ suc (cond x 0 (suc (first_row p gs))))
      go true f h = (omega arith, refl)
      go false f h = (omega (arith, (h f).0), ap suc (h f).1)

  is_not : (gs : List Grant) → some p gs ≡ false → (first_row p gs ≡ length gs) × (rows_up_to p gs ≡ length gs)
  is_not [] e = (refl, refl)
  is_not (g ∷ gs) e = go (p g) e (is_not gs)
    where
      go : (x : Bool) → (x || some p gs) ≡ false → (some p gs ≡ false → (first_row p gs ≡ length gs) × (rows_up_to p gs ≡ length gs))
          → (cond x 0 (suc (first_row p gs)) ≡ length (g ∷ gs)) × (suc (cond x 0 (rows_up_to p gs)) ≡ length (g ∷ gs))
      go true f h = absurd (true≢false f)
      go false f h = (omega (arith, (h f).0), omega (arith, (h f).1))

  tells : (gs : List Grant) (n : ℕ) → length gs ≡ n → (ltb (first_row p gs) n ≡ some p gs) × (compared_by (first_row p gs) n ≡ rows_up_to p gs)
  tells gs n e = go (some p gs) refl
    where
      go : (x : Bool) → some p gs ≡ x → (ltb (first_row p gs) n ≡ x) × (compared_by (first_row p gs) n ≡ rows_up_to p gs)
      go true f =
          let less : ltb (first_row p gs) n ≡ true = lt-ltb (first_row p gs) n (omega (arith, (is_there_lem gs f).0)) in
          (less, rw less (sym (is_there_lem gs f).1))
      go false f =
          let past : ltb (first_row p gs) n ≡ false = le-ltb (first_row p gs) n (omega (arith, (is_not gs f).0)) in
          (past, rw past (sym e ∙ sym (is_not gs f).1))

  -- the same of the rows below m, and of all
  module _ (ys : List Row) where
    below : (m : ℕ) → m ≤ length ys → length (grants (take m ys)) ≡ m
    below m most = length-map (take m ys) grant_of ∙ length-take-le m ys most

    pub row_tells : (m : ℕ) → m ≤ length ys → {r : ℕ} → r ≡ first_row p (grants (take m ys)) → ltb r m ≡ some p (grants (take m ys))
    row_tells m most e = ap (λ (j : ℕ). ltb j m) e ∙ (tells (grants (take m ys)) m (below m most)).0

    all : grants (take (length ys) ys) ≡ grants ys
    all = ap grants (take-length ys)

    pub row_of_all : {r : ℕ} → r ≡ first_row p (grants (take (length ys) ys)) → ltb r (length ys) ≡ some p (grants ys)
    row_of_all e = row_tells (length ys) (omega arith) e ∙ ap (some p) all

    pub compared_of_all : {r : ℕ} → r ≡ first_row p (grants (take (length ys) ys)) → compared_by r (length ys) ≡ rows_up_to p (grants ys)
    compared_of_all e = ap (λ (j : ℕ). compared_by j (length ys)) e ∙ (tells (grants (take (length ys) ys)) (length ys) (below (length ys) (omega arith))).1 ∙ ap (rows_up_to p) all

-- the table's check
module _ (ys : List Row) where
  abbrev pub Unseen : ℕ → Type 0
  Unseen i = check (grants ys) ≡ check_from (grants (take i ys)) i (grants (drop i ys))

  abbrev pub partner : ℕ → Bool
  partner i = some (clash (grant_of (row_at ys i))) (grants (take i ys))

  pub at_first : Unseen 0
  unfolding check
  at_first = refl

  joined : (a b : List Row) → grants (a ++ b) ≡ grants a ++ grants b
  joined [] b = refl
  joined (r ∷ a) b = ap (λ (l : List Grant). grant_of r ∷ l) (joined a b)

  pub alone : (i : ℕ) → i < length ys → Unseen i → partner i ≡ false → Unseen (suc i)
  alone i l q e = q ∙ rw (drop-cons ys i none l, e, take-suc ys i none l, joined (take i ys) (row_at ys i ∷ []))

  pub paired : (i : ℕ) → i < length ys → Unseen i → partner i ≡ true → found_at i (length ys) ≡ check (grants ys)
  paired i l q e = sym (q ∙ rw (drop-cons ys i none l, e, lt-ltb i (length ys) l))

  pub all_seen : (i : ℕ) → i ≡ length ys → Unseen i → found_at i (length ys) ≡ check (grants ys)
  all_seen i e q = sym (q ∙ rw (e, drop-length ys, le-ltb (length ys) (length ys) (omega arith)))

-- where the search ended, as its answer
module _ (i n : ℕ) where
  pub found_below : i < n → refused 18 i ≡ found_at i n
  found_below l = rw (lt-ltb i n l)

  pub found_none : n ≤ i → passes ≡ found_at i n
  found_none l = rw (le-ltb i n l)
