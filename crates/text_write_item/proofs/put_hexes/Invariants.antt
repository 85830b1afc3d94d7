-- The bytes so far are put.
use lib.ListN.{take}
use Rattle.buffer.specs.Put.{Put}
use Rattle.text.specs.Chars.{each, hexes}
use Rattle.text_write_item.proofs.put_hexes.Given as goal

abbrev pub invariant-loop-x : goal.invariant-loop-x
invariant-loop-x l = Put l.initial.out l.out l.at l.r (each (hexes 97) (take l.x-index l.s))
