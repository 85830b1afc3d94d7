-- What is left to check from row i on decides.
use Prim.Native.Nat.{◌-◌, ◌≤◌}
use mathlib.Core.Path.{◌≡◌}
use lib.ListN.{take, drop, length}
use Rattle.grants.specs.Grants.{check_from, check}
use Rattle.grant_structs.specs.Structs.{grants}
use Rattle.grant_structs.proofs.check_grants.Given as goal

abbrev pub invariant-rows : goal.invariant-rows
invariant-rows l = (l.i ≤ l.n) × (l.n ≡ length l.t) × (check (grants l.t) ≡ check_from (grants (take l.i l.t)) l.i (grants (drop l.i l.t)))

abbrev pub decreases-rows : goal.decreases-rows
decreases-rows l = l.initial.n - l.i
