-- The word that is carried, inserted where the loop is, gives the whole.
use mathlib.Core.Path.{◌≡◌}
use lib.ListN.{length}
use Rattle.month_lines.specs.Code.{shifted}
use Rattle.month_lines.proofs.insert.Given as goal

abbrev pub invariant-loop-i : goal.invariant-loop-i
invariant-loop-i l = (length l.words ≡ length l.initial.words) × (shifted l.lines l.i l.carried l.words ≡ shifted l.lines l.at l.word l.initial.words)
