-- All before line i are small.
use Rattle.month.proofs.Keeping.{Checking}
use Rattle.month.proofs.lines_small.Given as goal

abbrev pub invariant-loop-i : goal.invariant-loop-i
invariant-loop-i l = Checking l.amounts l.lines l.i
