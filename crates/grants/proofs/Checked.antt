-- The table's check, in words.
use Prim.Native.Nat.{ℕ, suc, ◌+◌}
use mathlib.Core.Logic.{◌⊎◌, inl, inr, ◌↔◌}
use mathlib.Core.Path.{◌≡◌, refl, sym, ◌∙◌, ap}
use mathlib.Core.Bool.{Bool, true, false, not, ◌&&◌, cond, true≢false}
use mathlib.Core.List.Memᴰ
use mathlib.Core.List.{List, [], ◌∷◌, ◌++◌, append-nil, append_assoc, Memᴰ}
use native.Mathlib.Omega.{arith}
use native.Mathlib.Nat.{add-zero}
use lib.ListN.{length}
use lib.IntN.{ℤ, pos, negsuc}
use lib.Dec.{eqb}
use borrow.Author.Tests.{eqb-false, eq-eqb, ne_eqb}
use Rattle.buffer.proofs.ByteLaws.{and-true, not-true}
use Rattle.grants.specs.Grants.{Grant, some, same, below0, clash, Check, passes, check_from, check}
use Rattle.grants.proofs.Grants.{some_row, row_some, same_is}

-- R84: -1 - number
pub record Clash (g h : Grant) : Type 0 where
  pub different : g.subscriber ≡ h.subscriber → ⊥
  pub number : ℕ
  pub one : g.namespace ≡ negsuc number
  pub other : h.namespace ≡ negsuc number

clash_sym : {g h : Grant} → Clash g h → Clash h g
clash_sym c = record { different = λ e. c.different (sym e); number = c.number; one = c.other; other = c.one }

clash_is : (g h : Grant) → clash g h ≡ true → Clash g h
clash_is g h e =
    let (p, r) = and-true (not (eqb h.subscriber g.subscriber)) (same h.namespace g.namespace && below0 g.namespace) e in
    let (q, n) = and-true (same h.namespace g.namespace) (below0 g.namespace) r in
    let (a, z) = negative g.namespace n in
    record {
      different = λ k. eqb-false h.subscriber g.subscriber (not-true _ p) (sym k);
      number = a;
      one = z;
      other = same_is h.namespace g.namespace q ∙ z;
    }
  where
    negative : (z : ℤ) → below0 z ≡ true → (a : ℕ) × (z ≡ negsuc a)
    negative (pos a) n = absurd (true≢false (sym n))
    negative (negsuc a) n = (a, refl)

is_clash : (g h : Grant) → Clash g h → clash g h ≡ true
is_clash g h c = rw (ne_eqb h.subscriber g.subscriber (λ e. c.different (sym e)), c.one, c.other, eq-eqb c.number c.number refl)

abbrev pub NoClash : List Grant → Type 0
NoClash t = (g h : Grant) → Memᴰ g t → Memᴰ h t → Clash g h → ⊥

passed : (before : List Grant) (i : ℕ) (g : Grant) (t : List Grant) → check_from before i (g ∷ t) ≡ passes
    → (some (clash g) before ≡ false) × (check_from (before ++ (g ∷ [])) (suc i) t ≡ passes)
passed before i g t e = go (some (clash g) before) e
  where
    go : (x : Bool) → cond x (Check.refused 18 i) (check_from (before ++ (g ∷ [])) (suc i) t) ≡ passes → (x ≡ false) × (check_from (before ++ (g ∷ [])) (suc i) t ≡ passes)
    go true q = absurd (let z : ◌≡◌ {A = ℕ} 0 1 = cc in omega arith)
    go false q = (refl, q)

-- a row of those that passed, against the rows before and them
no_clash : (before : List Grant) (i : ℕ) (t : List Grant) → check_from before i t ≡ passes → (g h : Grant) → Memᴰ g before ⊎ Memᴰ g t → Memᴰ h t → Clash g h → ⊥
no_clash before i [] e g h k l c = Memᴰ.not-nil l
no_clash before i (x ∷ t) e g h k l c =
    let (n, r) = passed before i x t e in
    let ih = no_clash (before ++ (x ∷ [])) (suc i) t r in
    go n ih k (Memᴰ.cases_cons l)
  where
    here : Memᴰ x (before ++ (x ∷ []))
    here = Memᴰ.append_right before (Memᴰ.head refl)

    both : (x ≡ h) → (g ≡ x) ⊎ Memᴰ g t → ((g h : Grant) → Memᴰ g (before ++ (x ∷ [])) ⊎ Memᴰ g t → Memᴰ h t → Clash g h → ⊥) → ⊥
    both q (inl p) ih = c.different (ap (λ (y : Grant). y.subscriber) (p ∙ q))
    both q (inr p) ih = ih x g (inl here) p (rw q (clash_sym c))

    later : (g ≡ x) ⊎ Memᴰ g t → Memᴰ h t → ((g h : Grant) → Memᴰ g (before ++ (x ∷ [])) ⊎ Memᴰ g t → Memᴰ h t → Clash g h → ⊥) → ⊥
    later (inl p) q ih = ih x h (inl here) q (rw (← p) c)
    later (inr p) q ih = ih g h (inr p) q c

    go : some (clash x) before ≡ false → ((g h : Grant) → Memᴰ g (before ++ (x ∷ [])) ⊎ Memᴰ g t → Memᴰ h t → Clash g h → ⊥)
        → Memᴰ g before ⊎ Memᴰ g (x ∷ t) → (h ≡ x) ⊎ Memᴰ h t → ⊥
    go n ih (inl p) (inl q) = true≢false (sym (row_some (clash x) before p (is_clash x g (rw (← q) (clash_sym c)))) ∙ n)
    go n ih (inl p) (inr q) = ih g h (inl (Memᴰ.append_left (x ∷ []) p)) q c
    go n ih (inr p) (inl q) = both (sym q) (Memᴰ.cases_cons p) ih
    go n ih (inr p) (inr q) = later (Memᴰ.cases_cons p) q ih

no_clash_passes : (before : List Grant) (i : ℕ) (t : List Grant) → NoClash (before ++ t) → check_from before i t ≡ passes
no_clash_passes before i [] n = refl
no_clash_passes before i (x ∷ t) n =
    rw (none_there (some (clash x) before) refl) (no_clash_passes (before ++ (x ∷ [])) (suc i) t (rw (append_assoc before (x ∷ []) t) n))
  where
    none_there : (y : Bool) → some (clash x) before ≡ y → y ≡ false
    none_there true e =
        let (h, k, q) = some_row (clash x) before e in
        absurd (n x h (Memᴰ.append_right before (Memᴰ.head refl)) (Memᴰ.append_left (x ∷ t) k) (clash_is x h q))
    none_there false e = refl

-- A table passes exactly if no two rows clash; equal rows do not.
pub passes_exactly_if : (t : List Grant) → (check t ≡ passes) ↔ NoClash t
unfolding check
passes_exactly_if t = (λ e g h k l. no_clash [] 0 t e g h (inr k) l, no_clash_passes [] 0 t)

-- Row i is the first that has a partner among the rows before it (R85).
pub record FirstClash (t : List Grant) (i : ℕ) : Type 0 where
  pub before : List Grant
  pub row : Grant
  pub behind : List Grant
  pub table : t ≡ before ++ (row ∷ behind)
  pub number_of : length before ≡ i
  pub partner : Grant
  pub among : Memᴰ partner before
  pub clashes : Clash row partner
  pub first : NoClash before

-- the same behind the rows acc
record Stop (acc : List Grant) (i : ℕ) (t : List Grant) (k : ℕ) : Type 0 where
  before : List Grant
  row : Grant
  behind : List Grant
  table : t ≡ before ++ (row ∷ behind)
  number_of : i + length before ≡ k
  clashes : some (clash row) (acc ++ before) ≡ true
  passing : check_from acc i before ≡ passes

stop : (acc : List Grant) (i : ℕ) (t : List Grant) (k : ℕ) → check_from acc i t ≡ Check.refused 18 k → Stop acc i t k
stop acc i [] k e = absurd (let z : ◌≡◌ {A = ℕ} 0 1 = cc in omega arith)
stop acc i (x ∷ t) k e = go (some (clash x) acc) refl e (stop (acc ++ (x ∷ [])) (suc i) t k)
  where
    go : (y : Bool) → some (clash x) acc ≡ y → cond y (Check.refused 18 i) (check_from (acc ++ (x ∷ [])) (suc i) t) ≡ Check.refused 18 k
        → (check_from (acc ++ (x ∷ [])) (suc i) t ≡ Check.refused 18 k → Stop (acc ++ (x ∷ [])) (suc i) t k) → Stop acc i (x ∷ t) k
    go true h q ih = record {
      before = [];
      row = x;
      behind = t;
      table = refl;
      number_of = (let n : i ≡ k = cc in omega arith);
      clashes = rw append-nil h;
      passing = refl;
    }
    go false h q ih =
        let f = ih q in
        record {
          before = x ∷ f.before;
          row = f.row;
          behind = f.behind;
          table = ap (λ (r : List Grant). x ∷ r) f.table;
          number_of = omega (arith, f.number_of);
          clashes = rw (append_assoc acc (x ∷ []) f.before) at f.clashes;
          passing = rw h f.passing;
        }

go_on : (acc : List Grant) (i : ℕ) (t rest : List Grant) → check_from acc i t ≡ passes → check_from acc i (t ++ rest) ≡ check_from (acc ++ t) (i + length t) rest
go_on acc i [] rest e = rw (append-nil acc, add-zero i)
go_on acc i (x ∷ t) rest e =
    let (n, r) = passed acc i x t e in
    let q : i + suc (length t) ≡ suc i + length t = omega arith in
    rw (n, ← append_assoc acc (x ∷ []) t, q) (go_on (acc ++ (x ∷ [])) (suc i) t rest r)

-- 18 with row i exactly if it is that row.
pub eighteen_exactly_if : (t : List Grant) (i : ℕ) → (check t ≡ Check.refused 18 i) ↔ FirstClash t i
unfolding check
eighteen_exactly_if t i = (there, back)
  where
    there : check t ≡ Check.refused 18 i → FirstClash t i
    there e =
        let f = stop [] 0 t i e in
        let (h, k, q) = some_row (clash f.row) f.before f.clashes in
        record {
          before = f.before;
          row = f.row;
          behind = f.behind;
          table = f.table;
          number_of = omega (arith, f.number_of);
          partner = h;
          among = k;
          clashes = clash_is f.row h q;
          first = (passes_exactly_if f.before).0 f.passing;
        }

    back : FirstClash t i → check t ≡ Check.refused 18 i
    back f =
        let n : 0 + length f.before ≡ i = omega (arith, f.number_of) in
        rw f.table
        (go_on [] 0 f.before (f.row ∷ f.behind) ((passes_exactly_if f.before).1 f.first)
        ∙ rw (row_some (clash f.row) f.before f.among (is_clash f.row f.partner f.clashes), n))
