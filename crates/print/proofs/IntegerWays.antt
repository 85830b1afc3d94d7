-- The ways through the functions; the premises are the facts that the code leaves.
use Prim.Native.Nat.{ℕ, ◌-◌, ◌≤◌, ◌<◌}
use mathlib.Core.List.{List}
use borrow.Author.Tests.{lt-ltb, le-ltb}
use Rattle.buffer.specs.Put.{Put}
use Rattle.buffer.specs.Decimal.{decimal}
use Rattle.print.specs.Texts.{negative_of}
use Rattle.print.specs.Integers.{integer_of}

module _ {xs ys : List ℕ} {at r : ℕ} (w : ℕ) where
  pub integer_positive : w < 9223372036854775808 → Put xs ys at r (decimal w) → Put xs ys at r (integer_of w)
  unfolding integer_of
  integer_positive h p = rw (lt-ltb w 9223372036854775808 h) p

  pub integer_negative : 9223372036854775808 ≤ w → Put xs ys at r (negative_of (18446744073709551615 - w)) → Put xs ys at r (integer_of w)
  unfolding integer_of
  integer_negative h p = rw (le-ltb w 9223372036854775808 h) p

pub ruleset ways = (integer_positive, integer_negative)
