-- The first entry that a table doesn't grant, in words.
use Prim.Native.Nat.{ℕ, suc, ◌+◌}
use mathlib.Core.Logic.{◌⊎◌, inl, inr, ◌↔◌, ⊎_elim}
use mathlib.Core.Path.{◌≡◌, refl, sym, ◌∙◌, ap}
use mathlib.Core.Bool.{Bool, true, false, cond, true≢false}
use mathlib.Core.List.Memᴰ
use mathlib.Core.List.{List, [], ◌∷◌, ◌++◌, append-nil, Memᴰ}
use native.Mathlib.Omega.{arith}
use native.Mathlib.Nat.{add-zero}
use lib.ListN.{length}
use Rattle.ari.specs.Listing.{Entry}
use Rattle.grants.specs.Grants.{Grant, granted}
use Rattle.grants.proofs.Grants.{Granted, granted_is, is_granted}
use Rattle.release.specs.Release.{yes, no, judge_from}

-- Entry k is the first that isn't granted.
pub record FirstHeld (t : List Grant) (s : ℕ) (es : List Entry) (k : ℕ) : Type 0 where
  pub before : List Entry
  pub entry : Entry
  pub behind : List Entry
  pub listed : es ≡ before ++ (entry ∷ behind)
  pub number_of : length before ≡ k
  pub granted_before : (e : Entry) → Memᴰ e before → Granted t s e.space
  pub not_granted : Granted t s entry.space → ⊥

module _ (t : List Grant) (s : ℕ) where
  all_granted : (i : ℕ) (es : List Entry) → judge_from (granted t s) i es ≡ yes → (e : Entry) → Memᴰ e es → Granted t s e.space
  all_granted i [] j e k = absurd (Memᴰ.not-nil k)
  all_granted i (f ∷ es) j e k = go (granted t s f.space) refl j (all_granted (suc i) es) (Memᴰ.cases_cons k)
    where
      go : (x : Bool) → granted t s f.space ≡ x → cond x (judge_from (granted t s) (suc i) es) (no i) ≡ yes
          → (judge_from (granted t s) (suc i) es ≡ yes → (e : Entry) → Memᴰ e es → Granted t s e.space)
          → (e ≡ f) ⊎ Memᴰ e es → Granted t s e.space
      go true h q ih (inl m) = rw m (granted_is t s f.space h)
      go true h q ih (inr m) = ih q e m
      go false h q ih m = absurd (let z : ◌≡◌ {A = ℕ} 0 1 = cc in omega arith)

  passed_over : (i : ℕ) (es rest : List Entry) → ((e : Entry) → Memᴰ e es → Granted t s e.space)
      → judge_from (granted t s) i (es ++ rest) ≡ judge_from (granted t s) (i + length es) rest
  passed_over i [] rest a = rw add-zero
  passed_over i (e ∷ es) rest a =
      let q : i + suc (length es) ≡ suc i + length es = omega arith in
      rw (is_granted t s (a e (Memᴰ.head refl)), q) (passed_over (suc i) es rest (λ f k. a f (Memᴰ.tail k)))

  pub judged_yes : (es : List Entry) → (judge_from (granted t s) 0 es ≡ yes) ↔ ((e : Entry) → Memᴰ e es → Granted t s e.space)
  judged_yes es = (all_granted 0 es, λ a. (let p = passed_over 0 es [] a in rw append-nil at p))

  first_held : (i k : ℕ) (es : List Entry) → judge_from (granted t s) i es ≡ no k → (j : ℕ) × (k ≡ i + j) × FirstHeld t s es j
  first_held i k [] q = absurd (let z : ◌≡◌ {A = ℕ} 0 1 = cc in omega arith)
  first_held i k (f ∷ es) q = go (granted t s f.space) refl q (first_held (suc i) k es)
    where
      go : (x : Bool) → granted t s f.space ≡ x → cond x (judge_from (granted t s) (suc i) es) (no i) ≡ no k
          → (judge_from (granted t s) (suc i) es ≡ no k → (j : ℕ) × (k ≡ suc i + j) × FirstHeld t s es j) → (j : ℕ) × (k ≡ i + j) × FirstHeld t s (f ∷ es) j
      go true h r ih =
          let (j, e, l) = ih r in (
            suc j,
            omega arith,
            record {
              before = f ∷ l.before;
              entry = l.entry;
              behind = l.behind;
              listed = ap (λ (r : List Entry). f ∷ r) l.listed;
              number_of = ap suc l.number_of;
              granted_before = λ e k. ⊎_elim (λ m. rw m (granted_is t s f.space h)) (l.granted_before e) (Memᴰ.cases_cons k);
              not_granted = l.not_granted;
            },
          )
      go false h r ih = (
        0,
        (let e : k ≡ i = cc in omega arith),
        record {
          before = [];
          entry = f;
          behind = es;
          listed = refl;
          number_of = refl;
          granted_before = λ e k. absurd (Memᴰ.not-nil k);
          not_granted = λ g. true≢false (sym (is_granted t s g) ∙ h);
        },
      )

  pub judged_no : (k : ℕ) (es : List Entry) → (judge_from (granted t s) 0 es ≡ no k) ↔ FirstHeld t s es k
  judged_no k es = (there, back)
    where
      there : judge_from (granted t s) 0 es ≡ no k → FirstHeld t s es k
      there q = let (j, e, l) = first_held 0 k es q in let r : j ≡ k = omega arith in rw (← r) l

      not_true_is : (x : Bool) → (x ≡ true → ⊥) → x ≡ false
      not_true_is true n = absurd (n refl)
      not_true_is false n = refl

      back : FirstHeld t s es k → judge_from (granted t s) 0 es ≡ no k
      back l =
          let n : 0 + length l.before ≡ k = omega (arith, l.number_of) in
          rw l.listed (passed_over 0 l.before (l.entry ∷ l.behind) l.granted_before
          ∙ rw (not_true_is (granted t s l.entry.space) (λ e. l.not_granted (granted_is t s l.entry.space e)), n))
