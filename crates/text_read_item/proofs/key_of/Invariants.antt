use Rattle.text_read_item.proofs.Leaves.{Keyed}
use Rattle.text_read_item.proofs.key_of.Given as goal

abbrev pub invariant-loop-x : goal.invariant-loop-x
invariant-loop-x l = Keyed l.u l.n l.x-index
