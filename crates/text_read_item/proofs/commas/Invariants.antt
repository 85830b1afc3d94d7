use Rattle.text_read_item.proofs.Leaves.{Counted}
use Rattle.text_read_item.proofs.commas.Given as goal

abbrev pub invariant-loop-i : goal.invariant-loop-i
invariant-loop-i l = Counted l.t l.at l.e l.n l.i
