-- What a table grants, in words.
use Prim.Native.Nat.{ℕ}
use mathlib.Core.Logic.{◌↔◌, ⊎_elim}
use mathlib.Core.Path.{◌≡◌, refl, sym, ap}
use mathlib.Core.Bool.{Bool, true, false, true≢false}
use mathlib.Core.List.Memᴰ
use mathlib.Core.List.{List, [], ◌∷◌, Memᴰ}
use lib.IntN.{ℤ, pos, negsuc}
use lib.Dec.{eqb}
use borrow.Author.Tests.{eqb-true, eq-eqb}
use Rattle.buffer.proofs.ByteLaws.{and-true, or-true, or_right}
use Rattle.ari.specs.Listing.{Space, number, name, relative}
use Rattle.grants.specs.Grants.{Grant, some, same, holds, granted}

-- some, in words
pub some_row : (p : Grant → Bool) (t : List Grant) → some p t ≡ true → (g : Grant) × Memᴰ g t × (p g ≡ true)
some_row p [] e = absurd (true≢false (sym e))
some_row p (g ∷ gs) e = ⊎_elim (λ h. (g, Memᴰ.head refl, h)) (λ h. (let r = some_row p gs h in (r.0, Memᴰ.tail r.1, r.2))) (or-true (p g) (some p gs) e)

pub row_some : (p : Grant → Bool) {g : Grant} (t : List Grant) → Memᴰ g t → p g ≡ true → some p t ≡ true
row_some p [] k e = absurd (Memᴰ.not-nil k)
row_some p {g} (h ∷ hs) k e = ⊎_elim (λ q. rw (← q, e)) (λ q. or_right (p h) (some p hs) (row_some p hs q e)) (Memᴰ.cases_cons k)

pub same_is : (x y : ℤ) → same x y ≡ true → x ≡ y
same_is (pos a) (pos b) e = ap pos (eqb-true a b e)
same_is (pos a) (negsuc b) e = absurd (true≢false (sym e))
same_is (negsuc a) (pos b) e = absurd (true≢false (sym e))
same_is (negsuc a) (negsuc b) e = ap negsuc (eqb-true a b e)

is_same : (x : ℤ) → same x x ≡ true
is_same (pos a) = eq-eqb a a refl
is_same (negsuc a) = eq-eqb a a refl

-- some row holds both
pub record Row (t : List Grant) (s : ℕ) (z : ℤ) : Type 0 where
  pub grant : Grant
  pub among : Memᴰ grant t
  pub theirs : grant.subscriber ≡ s
  pub this : grant.namespace ≡ z

-- a namespace is a number and granted
pub record Granted (t : List Grant) (s : ℕ) (x : Space) : Type 0 where
  pub number_is : ℤ
  pub a_number : x ≡ number number_is
  pub row : Row t s number_is

module _ (t : List Grant) (s : ℕ) where
  -- R87
  pub granted_exactly_if : (z : ℤ) → (granted t s (number z) ≡ true) ↔ Row t s z
  granted_exactly_if z = (there, back)
    where
      there : granted t s (number z) ≡ true → Row t s z
      there e =
          let r = some_row (holds s z) t e in
          let (p, q) = and-true (eqb r.0.subscriber s) (same r.0.namespace z) r.2 in
          record { grant = r.0; among = r.1; theirs = eqb-true _ s p; this = same_is _ z q }

      back : Row t s z → granted t s (number z) ≡ true
      back r = row_some (holds s z) t r.among (rw (eq-eqb r.grant.subscriber s r.theirs, r.this) (is_same z))

  -- R88
  pub names_never : (p : ℕ) (n : List ℕ) → granted t s (name p n) ≡ false
  names_never p n = refl

  pub relative_never : granted t s relative ≡ false
  relative_never = refl

  pub granted_is : (x : Space) → granted t s x ≡ true → Granted t s x
  granted_is (number z) e = record { number_is = z; a_number = refl; row = (granted_exactly_if z).0 e }
  granted_is (name p n) e = absurd (true≢false (sym e))
  granted_is relative e = absurd (true≢false (sym e))

  pub is_granted : {x : Space} → Granted t s x → granted t s x ≡ true
  is_granted g = rw g.a_number ((granted_exactly_if g.number_is).1 g.row)
