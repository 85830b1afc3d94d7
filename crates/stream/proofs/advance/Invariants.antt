-- What was due where the walk began leads to what is due here.
use Rattle.std.proofs.Common.{length, ◌-◌}
use Rattle.stream.proofs.Going.{Leads}
use Rattle.stream.proofs.advance.Given as goal

abbrev pub invariant-loop-here : goal.invariant-loop-here
invariant-loop-here l = Leads l.limits l.s l.fn.state l.fn.start.at l.fn.start.count l.fn.start.opened l.state l.here.at l.here.count l.here.opened

abbrev pub decreases-loop-here : goal.decreases-loop-here
decreases-loop-here l = length l.s - l.here.at
