-- The entries before entry i are granted, and their rows are counted.
use Prim.Native.Nat.{◌-◌, ◌≤◌}
use Rattle.grant_structs.specs.Structs.{grants, granted_at, cost_at}
use Rattle.grant_structs.proofs.Entries.{Unjudged}
use Rattle.grant_structs.proofs.release_entries.Given as goal

abbrev pub invariant-entries : goal.invariant-entries
invariant-entries l =
    (l.i ≤ l.n) × Unjudged (granted_at (grants l.t) l.subscriber l.list) (cost_at (grants l.t) l.subscriber l.list) l.n l.i l.compared

abbrev pub decreases-entries : goal.decreases-entries
decreases-entries l = l.initial.n - l.i
