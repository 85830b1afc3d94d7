-- `strike::find`: what is left from item k on finds it, with so many passed.
use Rattle.std.proofs.Common.{◌≤◌}
use Rattle.strike.proofs.Ways.{Sofar}
use Rattle.strike.proofs.find.Given as goal

abbrev pub invariant-loop-k : goal.invariant-loop-k
invariant-loop-k l = (l.passed ≤ l.k) × Sofar l.s l.number l.passed l.inner l.k
