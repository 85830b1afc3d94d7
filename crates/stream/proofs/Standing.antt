-- A refusal stands before the close exactly when every continuation gives it. The idea: more bytes change nothing but 2 and 9, and past the limit the answer
-- is neither.
use Prim.Native.Nat.{ℕ, zero, suc, ◌+◌, ◌-◌, ◌<◌, ◌≤◌}
use mathlib.Core.Logic.{◌↔◌}
use mathlib.Core.Path.{◌≡◌, refl, sym, ◌∙◌, ap}
use mathlib.Core.Bool.{Bool, true, false, cond, true≢false}
use mathlib.Core.List.{List, [], ◌∷◌, ◌++◌, append-nil}
use native.Mathlib.Omega.{arith}
use lib.ListN.{length, take, length-append}
use lib.Seq.{take-append-le, take-append-add, length-take-le}
use lib.Dec.{ltb}
use borrow.Author.Tests.{ltb-true, ltb-false, le-ltb, lt-ltb}
use Rattle.ari.specs.declared.Limits.{Limits}
use Rattle.ari.specs.declared.Input.TheVariants.{Message}
use Rattle.ari.specs.Reader.{Answer, refuse, accept, read}
use Rattle.ari.proofs.Prefix.{read_stays}
use Rattle.stream.specs.Stream.{open_ended, beyond, closing, none, stands, standing_of, standing}

pub within : (m : Limits) (b : List ℕ) → length b ≤ m.bytes → closing m b ≡ read m Message b
unfolding closing
within m b h = rw (le-ltb m.bytes (length b) h)

pub past_limit : (m : Limits) (b : List ℕ) → m.bytes < length b → closing m b ≡ beyond (read m Message (take m.bytes b))
unfolding closing
past_limit m b h = rw (lt-ltb m.bytes (length b) h)

-- an answer that stands, and one that doesn't
standing_is : (a : Answer) {r p : ℕ} → standing_of a ≡ stands r p → (a ≡ refuse r p) × (open_ended r ≡ false)
standing_is (refuse r' p') {r} {p} e = go (open_ended r') refl e
  where
    go : (t : Bool) → open_ended r' ≡ t → cond t none (stands r' p') ≡ stands r p → (refuse r' p' ≡ refuse r p) × (open_ended r ≡ false)
    go true o e = absurd (let z : ◌≡◌ {A = ℕ} 0 1 = cc in omega arith)
    go false o e = let z : r' ≡ r = cc in ((cc), rw (← z) o)
standing_is (accept n) e = absurd (let z : ◌≡◌ {A = ℕ} 0 1 = cc in omega arith)

stands_as : (a : Answer) {r p : ℕ} → a ≡ refuse r p → open_ended r ≡ false → standing_of a ≡ stands r p
stands_as a e o = rw (e, o)

not_two : {r : ℕ} → open_ended r ≡ false → r ≡ 2 → ⊥
not_two o e = true≢false (rw e at o)

not_nine : {r : ℕ} → open_ended r ≡ false → r ≡ 9 → ⊥
not_nine o e = true≢false (rw e at o)

-- past the limit no answer is 2 or 9
beyond_closed : (a : Answer) {r p : ℕ} → beyond a ≡ refuse r p → open_ended r ≡ false
beyond_closed (refuse r' p') {r} {p} e = go (open_ended r') refl e
  where
    go : (t : Bool) → open_ended r' ≡ t → cond t (refuse 1 0) (refuse r' p') ≡ refuse r p → open_ended r ≡ false
    go true o e = let z : 1 ≡ r = cc in rw (← z) refl
    go false o e = let z : r' ≡ r = cc in rw (← z) o
beyond_closed (accept n) {r} e = let z : 1 ≡ r = cc in rw (← z) refl

beyond_stays : (a : Answer) {r p : ℕ} → a ≡ refuse r p → open_ended r ≡ false → beyond a ≡ refuse r p
beyond_stays a e o = rw (e, o)

module _ (m : Limits) (b : List ℕ) where
  -- what stands is the answer of every continuation
  stands_on : (r p : ℕ) → closing m b ≡ refuse r p → open_ended r ≡ false → (c : List ℕ) → closing m (b ++ c) ≡ refuse r p
  stands_on r p e o c = go (ltb m.bytes (length b)) refl (ltb m.bytes (length (b ++ c))) refl
    where
      go : (t : Bool) → ltb m.bytes (length b) ≡ t → (u : Bool) → ltb m.bytes (length (b ++ c)) ≡ u → closing m (b ++ c) ≡ refuse r p
      go true x u y =
          let h : m.bytes < length b = ltb-true m.bytes (length b) x in
          rw (past_limit m (b ++ c) (omega (arith, length-append b c)), take-append-le m.bytes b c (omega arith)) (rw (past_limit m b h) at e)
      go false x false y =
          let h : length b ≤ m.bytes = ltb-false m.bytes (length b) x in
          let g : length (b ++ c) ≤ m.bytes = ltb-false m.bytes (length (b ++ c)) y in
          rw (within m (b ++ c) g) (read_stays c r p (not_two o) (not_nine o) m Message b g (rw (within m b h) at e))
      go false x true y =
          let h : length b ≤ m.bytes = ltb-false m.bytes (length b) x in
          let g : m.bytes < length (b ++ c) = ltb-true m.bytes (length (b ++ c)) y in
          let f = take (m.bytes - length b) c in
          let s : take m.bytes (b ++ c) ≡ b ++ f =
          let z : length b + (m.bytes - length b) ≡ m.bytes = omega arith in rw (z) at (take-append-add b c (m.bytes - length b)) in
          let l : length (b ++ f) ≤ m.bytes =
          omega (arith, length-append b f, length-append b c, length-take-le (m.bytes - length b) c (omega (arith, length-append b c))) in
          rw (past_limit m (b ++ c) g, s)
          (beyond_stays (read m Message (b ++ f)) (read_stays f r p (not_two o) (not_nine o) m Message b l (rw (within m b h) at e)) o)

  -- R132: a refusal stands exactly if every continuation, closing at once included, gives it
  pub stands_exactly_if : (r p : ℕ) → (standing m b ≡ stands r p) ↔ ((c : List ℕ) → closing m (b ++ c) ≡ refuse r p)
  unfolding standing
  stands_exactly_if r p = (λ e. let (q, o) = standing_is (closing m b) e in stands_on r p q o, back)
    where
      longer : ℕ → List ℕ
      longer zero = 0 ∷ []
      longer (suc n) = 0 ∷ longer n

      longer_length : (n : ℕ) → length (longer n) ≡ suc n
      longer_length zero = refl
      longer_length (suc n) = ap suc (longer_length n)

      back : ((c : List ℕ) → closing m (b ++ c) ≡ refuse r p) → standing_of (closing m b) ≡ stands r p
      back f =
          let c = longer m.bytes in
          let g : m.bytes < length (b ++ c) = omega (arith, length-append b c, longer_length m.bytes) in
          let o : open_ended r ≡ false = beyond_closed (read m Message (take m.bytes (b ++ c))) (sym (past_limit m (b ++ c) g) ∙ f c) in
          stands_as (closing m b) (rw append-nil at (f [])) o

  -- later fragments change nothing
  pub stands_still : (r p : ℕ) → standing m b ≡ stands r p → (c : List ℕ) → standing m (b ++ c) ≡ stands r p
  unfolding standing
  stands_still r p e c = let (q, o) = standing_is (closing m b) e in stands_as (closing m (b ++ c)) (stands_on r p q o c) o

  -- what stands is what a close answers
  pub stands_closes : (r p : ℕ) → standing m b ≡ stands r p → closing m b ≡ refuse r p
  unfolding standing
  stands_closes r p e = (standing_is (closing m b) e).0
