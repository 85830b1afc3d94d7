-- What is held, with the references from item k on, gives the whole.
use Rattle.month.proofs.Walking.{Spacing}
use Rattle.month.proofs.count_table.Given as goal

abbrev pub invariant-loop-k : goal.invariant-loop-k
invariant-loop-k l = Spacing l.s l.published l.own l.initial.tally l.initial.places l.initial.amounts l.k l.tally l.places l.amounts
