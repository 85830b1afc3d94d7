-- A run, byte by byte.
use Rattle.buffer.proofs.RunLaws.{Ahead}
use Rattle.names.specs.Names.{other_than}
use Rattle.names.proofs.up_to.Given as goal

abbrev pub invariant-loop-i : goal.invariant-loop-i
invariant-loop-i l = Ahead (other_than l.stop) l.t l.fn.from l.i
