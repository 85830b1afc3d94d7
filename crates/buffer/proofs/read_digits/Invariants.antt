use Rattle.std.proofs.Common.{◌≡◌, drop}
use Rattle.buffer.specs.Decimal.{digitsOf}
use Rattle.buffer.proofs.read_digits.Given as goal

abbrev pub invariant-loop-x : goal.invariant-loop-x
invariant-loop-x l = digitsOf l.n (drop l.x-index l.t) ≡ digitsOf 0 l.t
