-- At each number the fault is that of the table; beyond them all it is the last.
use Prim.Native.Nat.{ℕ, ◌-◌, ◌≤◌}
use mathlib.Core.Path.{◌≡◌, sym}
use Rattle.std.proofs.Common.{arith, rules}
use Rattle.std.proofs.lemmas.List.{get_or_past}
use Rattle.ari.specs.declared.Fault.TheVariants.{NoSuchTarget}
use Rattle.ari.specs.Refusals.{faults, fault_of}
use Rattle.ari.proofs.fault_by.Goals as goal

beyond : (n : ℕ) → 28 ≤ n → NoSuchTarget ≡ fault_of n
beyond n h = sym (get_or_past faults (n - 1) NoSuchTarget (let g : 27 ≤ n - 1 = omega (arith, h) in g))

pub returns-in_default : goal.returns-in_default
returns-in_default c = search (beyond, rules)
