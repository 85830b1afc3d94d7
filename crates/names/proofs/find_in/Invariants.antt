-- What is found from here on is what is found in the whole.
use Rattle.std.proofs.Common.{◌-◌, length}
use Rattle.names.proofs.Lines.{Onward}
use Rattle.names.proofs.find_in.Given as goal

abbrev pub invariant-loop-p : goal.invariant-loop-p
invariant-loop-p l = Onward l.name l.list l.p

abbrev pub decreases-loop-p : goal.decreases-loop-p
decreases-loop-p l = length l.list - l.p
