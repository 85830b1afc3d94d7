-- The line feeds so far and those that are left are all of them.
use Rattle.composer.proofs.Ways.{Counting}
use Rattle.composer.proofs.count_texts.Given as goal

abbrev pub invariant-loop-x : goal.invariant-loop-x
invariant-loop-x l = Counting l.texts l.n l.x-index
