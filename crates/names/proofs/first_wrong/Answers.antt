-- A line is wrong that has no line feed, or is not well-formed.
use Rattle.std.proofs.Common.{ap}
use mathlib.Core.Bool.{not}
use Rattle.names.proofs.Lines.{wrong_unended, wrong_line}
use Rattle.names.proofs.first_wrong.Goals.{then-e-list-via-then-e-list, then-e-list-via-else-e-list+then-not-is_formed}
use Rattle.names.proofs.first_wrong.Goals as goal

pub returns-then-e-list : goal.returns-then-e-list
returns-then-e-list c =
    elim c.then-e-list.branch [
      | then-e-list-via-then-e-list w ↦ wrong_unended c.loop-p.invariant c.loop-p-test.true c.up_to-e.ensures w.if-e-list.true
      | then-e-list-via-else-e-list+then-not-is_formed w ↦
          wrong_line c.loop-p.invariant c.loop-p-test.true c.up_to-e.ensures w.if-e-list.false w.is_formed.ensures (ap not w.if-not-is_formed.true)
    ]
