-- `print::repeat`: so many copies are written.
use Rattle.buffer.specs.Put.{Put}
use Rattle.print.specs.Texts.{repeated}
use Rattle.print.proofs.repeat.Given as goal

abbrev pub invariant-loop : goal.invariant-loop
invariant-loop l = Put l.fn.out l.out l.at l.p (repeated l.counter l.text)
