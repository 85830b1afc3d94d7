-- What is put, and the lines from line i on, are all.
use Rattle.month_figures.proofs.Words.{Putting}
use Rattle.month_figures.proofs.put_lines.Given as goal

abbrev pub invariant-loop-i : goal.invariant-loop-i
invariant-loop-i l = Putting l.state l.lines l.i l.initial.out l.out l.at l.p
