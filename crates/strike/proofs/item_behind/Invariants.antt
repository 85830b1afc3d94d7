-- `strike::item_behind`: the items before item k begin before the place.
use Rattle.strike.proofs.Ways.{Upto}
use Rattle.strike.proofs.item_behind.Given as goal

abbrev pub invariant-loop-k : goal.invariant-loop-k
invariant-loop-k l = Upto l.s l.from l.place l.k
