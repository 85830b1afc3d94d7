-- Places stand for numbers: on those that a namespace may be, places rise as numbers do, and no two have the same.
use Prim.Native.Nat.{ℕ, ◌+◌, ◌-◌, ◌<◌, ◌≤◌}
use mathlib.Core.Logic.{◌↔◌}
use mathlib.Core.Path.{◌≡◌, refl, sym, ◌∙◌, ap}
use mathlib.Core.Bool.{Bool, true, false, cond}
use native.Mathlib.Omega.{arith}
use lib.IntN.{ℤ, pos, negsuc}
use lib.Dec.{ltb}
use borrow.Author.Tests.{lt-ltb, le-ltb}
use Rattle.ari.specs.Table.{max63, max64}
use Rattle.ari.specs.Signed.{word, signed}
use Rattle.ari.specs.Listing.{number}
use Rattle.ari.proofs.Named.{InRange}
use Rattle.ari.proofs.SignedLaws.{signed_word}
use Rattle.month_figures.specs.Figures.{half, turned, place_of}

-- the order of numbers
abbrev pub Below : ℤ → ℤ → Type 0
Below (pos a) (pos b) = a < b
Below (pos a) (negsuc b) = ⊥
Below (negsuc a) (pos b) = Unit {0}
Below (negsuc a) (negsuc b) = b < a

-- 0 is in the middle
pub place_of_pos : (a : ℕ) → a ≤ max63 → place_of (pos a) ≡ a + half
place_of_pos a h = rw (lt-ltb a half (omega arith))

pub place_of_negative : (a : ℕ) → a ≤ max63 → place_of (negsuc a) ≡ max63 - a
place_of_negative a h = rw (le-ltb (max64 - a) half (omega arith)) (omega arith)

pub places_rise_as_numbers : (y z : ℤ) → InRange (number y) → InRange (number z) → Below y z ↔ (place_of y < place_of z)
places_rise_as_numbers (pos a) (pos b) h k = rw (place_of_pos a h, place_of_pos b k) ((λ l. omega arith), (λ l. omega arith))
places_rise_as_numbers (pos a) (negsuc b) h k = rw (place_of_pos a h, place_of_negative b k) ((λ l. absurd l), (λ l. omega arith))
places_rise_as_numbers (negsuc a) (pos b) h k = rw (place_of_negative a h, place_of_pos b k) ((λ l. omega arith), (λ l. tt))
places_rise_as_numbers (negsuc a) (negsuc b) h k = rw (place_of_negative a h, place_of_negative b k) ((λ l. omega arith), (λ l. omega arith))

-- R215: the number of a line is its place's
pub number_of_place : (z : ℤ) → InRange (number z) → turned (place_of z) ≡ word z
number_of_place (pos a) h = rw (place_of_pos a h, le-ltb (a + half) half (omega arith)) (omega arith)
number_of_place (negsuc a) h = rw (place_of_negative a h, lt-ltb (max63 - a) half (omega arith)) (omega arith)

pub one_number_a_place : (y z : ℤ) → InRange (number y) → InRange (number z) → place_of y ≡ place_of z → y ≡ z
one_number_a_place y z h k e =
    sym (signed_word y h) ∙ ap signed (sym (number_of_place y h) ∙ ap turned e ∙ number_of_place z k) ∙ signed_word z k
