-- Byte after byte, as far as they fit.
use Prim.Native.Nat.{◌+◌}
use lib.ListN.{take}
use Rattle.buffer.specs.Put.{Put}
use Rattle.buffer.proofs.put_block.Given as goal

abbrev pub invariant-loop-i : goal.invariant-loop-i
invariant-loop-i l = Put l.initial.out l.out l.at (l.at + l.i) (take l.i l.s)
