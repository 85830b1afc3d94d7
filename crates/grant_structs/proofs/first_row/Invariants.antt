-- What is left from row i on decides.
use Prim.Native.Nat.{◌+◌, ◌-◌, ◌≤◌}
use mathlib.Core.Path.{◌≡◌}
use lib.ListN.{take, drop}
use Rattle.grant_structs.specs.Structs.{grant_of, grants, meets_by, first_row}
use Rattle.grant_structs.proofs.first_row.Given as goal

abbrev pub invariant-rows : goal.invariant-rows
invariant-rows l =
    (l.i ≤ l.m)
    × (first_row (meets_by l.clash (grant_of l.g)) (grants (take l.m l.t)) ≡ l.i + first_row (meets_by l.clash (grant_of l.g)) (grants (drop l.i (take l.m l.t))))

abbrev pub decreases-rows : goal.decreases-rows
decreases-rows l = l.initial.m - l.i
