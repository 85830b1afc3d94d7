-- No line feed so far.
use Rattle.buffer.proofs.RunLaws.{Ahead}
use Rattle.composer.specs.Code.{in_text}
use Rattle.composer.proofs.text_end.Given as goal

abbrev pub invariant-loop-i : goal.invariant-loop-i
invariant-loop-i l = Ahead in_text l.texts l.from l.i
