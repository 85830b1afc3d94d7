use Rattle.std.proofs.Common.{take}
use Rattle.buffer.specs.Put.{Put}
use Rattle.buffer.proofs.put_all.Given as goal

abbrev pub invariant-loop-x : goal.invariant-loop-x
invariant-loop-x l = Put l.fn.out l.out l.at l.r (take l.x-index l.s)
