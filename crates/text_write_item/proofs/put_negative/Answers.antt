-- The greatest has one more than 64 bits hold.
use Prim.Native.Nat.{◌+◌}
use mathlib.Core.Path.{◌≡◌}
use native.Mathlib.Omega.{arith}
use Rattle.text_write_item.proofs.Puts.{negative_most, a_negative}
use Rattle.text_write_item.proofs.put_negative.Goals as goal

pub returns-in-Some : goal.returns-in-Some
returns-in-Some c = let e : c.in-Some.n ≡ c.args.arg + 1 = c.in-Some.ensures.1 in a_negative _ c.put-q.ensures (rw e at c.put_decimal.ensures)

pub returns-in-None : goal.returns-in-None
returns-in-None c = negative_most (omega (arith, c.in-None.ensures, c.ranges.arg.fits)) c.put-q.ensures c.put_all.ensures
