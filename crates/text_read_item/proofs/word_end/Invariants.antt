-- No end of a word so far.
use Rattle.buffer.proofs.RunLaws.{Ahead}
use Rattle.text.specs.Parse.{in_word}
use Rattle.text_read_item.proofs.word_end.Given as goal

abbrev pub invariant-loop-i : goal.invariant-loop-i
invariant-loop-i l = Ahead in_word l.t l.at l.i
