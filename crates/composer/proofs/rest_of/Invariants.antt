-- What is gathered from where it began is what is gathered from here on behind others.
use Prim.Native.Nat.{◌-◌}
use lib.ListN.{length}
use Rattle.ari.specs.Limits.{capped}
use Rattle.composer.proofs.Going.{Onward}
use Rattle.composer.proofs.rest_of.Given as goal

abbrev pub invariant-loop-p : goal.invariant-loop-p
invariant-loop-p l = Onward (capped l.limits) l.texts l.initial.room l.room l.at l.number l.p l.k

abbrev pub decreases-loop-p : goal.decreases-loop-p
decreases-loop-p l = length l.texts - l.p
