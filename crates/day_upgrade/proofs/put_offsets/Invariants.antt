-- The offsets before k are put.
use Rattle.buffer.specs.Put.{Put}
use Rattle.day_upgrade.specs.Code.{wide_offsets}
use Rattle.day_upgrade.proofs.put_offsets.Given as goal

abbrev pub invariant-loop-k : goal.invariant-loop-k
invariant-loop-k l = Put l.initial.out l.out l.at l.p (wide_offsets l.file l.k)
