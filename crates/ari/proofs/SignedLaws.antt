-- Two's complement in 64 bits: words and numbers.
use Prim.Native.Nat.{ℕ, ◌-◌, ◌^◌, ◌<◌}
use mathlib.Core.Path.{◌≡◌, refl}
use mathlib.Core.Bool.{Bool, true, false, cond}
use native.Mathlib.Omega.{arith}
use lib.IntN.{ℤ, pos, negsuc}
use lib.Dec.{leb}
use borrow.Author.Tests.{leb-true, leb-false, le-leb, lt-leb}
use Rattle.ari.specs.Table.{max63, max64}
use Rattle.ari.specs.Signed.{word, signed}
use Rattle.ari.specs.Listing.{number}
use Rattle.ari.proofs.Named.{InRange}

pub signed_word : (z : ℤ) → InRange (number z) → signed (word z) ≡ z
unfolding signed
signed_word (pos a) h = rw (le-leb a max63 h)
signed_word (negsuc a) h = let e : max64 - (max64 - a) ≡ a = omega arith in rw (lt-leb (max64 - a) max63 (omega arith), e)

pub word_signed : (n : ℕ) → n < 2 ^ 64 → word (signed n) ≡ n
unfolding signed
word_signed n h = go (leb n max63)
  where
    go : (t : Bool) → word (cond t (pos n) (negsuc (max64 - n))) ≡ n
    go true = refl
    go false = omega arith

pub word_fits : (z : ℤ) → InRange (number z) → word z < 256 ^ 8
word_fits (pos a) h = omega arith
word_fits (negsuc a) h = omega arith

-- every word is a number in range
pub signed_in_range : (n : ℕ) → n < 2 ^ 64 → InRange (number (signed n))
unfolding signed
signed_in_range n h = go (leb n max63) refl
  where
    go : (t : Bool) → leb n max63 ≡ t → InRange (number (cond t (pos n) (negsuc (max64 - n))))
    go true e = leb-true n max63 e
    go false e = let l = leb-false n max63 e in omega arith
