-- The bytes so far are put.
use lib.ListN.{take}
use Rattle.buffer.specs.Put.{Put}
use Rattle.text.specs.Chars.{each, escape}
use Rattle.text_write_item.proofs.put_escapes.Given as goal

abbrev pub invariant-loop-x : goal.invariant-loop-x
invariant-loop-x l = Put l.initial.out l.out l.at l.r (each escape (take l.x-index l.s))
