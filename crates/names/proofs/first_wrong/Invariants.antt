-- What is wrong from here on is what is wrong in the whole.
use Rattle.std.proofs.Common.{◌-◌, length}
use Rattle.names.proofs.Lines.{WrongOn}
use Rattle.names.proofs.first_wrong.Given as goal

abbrev pub invariant-loop-p : goal.invariant-loop-p
invariant-loop-p l = WrongOn l.list l.p

abbrev pub decreases-loop-p : goal.decreases-loop-p
decreases-loop-p l = length l.list - l.p
