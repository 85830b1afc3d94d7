-- The targets so far and those that are left are all.
use Prim.Native.Nat.{◌-◌}
use lib.ListN.{length}
use Rattle.ari.specs.Limits.{capped}
use Rattle.composer.proofs.Going.{Going}
use Rattle.composer.proofs.put_targets.Given as goal

abbrev pub invariant-loop-p : goal.invariant-loop-p
invariant-loop-p l = Going (capped l.limits) l.texts l.initial.room l.room l.at l.before l.p l.k l.q l.n

abbrev pub decreases-loop-p : goal.decreases-loop-p
decreases-loop-p l = length l.texts - l.p
