-- The numbers of refusals, for those who take answers apart: each that the rules have is a fault's, and the reading gives no others.
use Prim.Native.Nat.{ℕ, ◌≤◌}
use mathlib.Core.Path.{◌≡◌}
use mathlib.Core.List.{List}
use native.Mathlib.Omega.{arith}
use Rattle.ari.specs.declared.Limits.{Limits}
use Rattle.ari.specs.declared.Input.{Input}
use Rattle.ari.specs.Reader.{Answer, refuse, accept, read}
use Rattle.ari.specs.Refusals.{number_of, fault_of}
use Rattle.ari.proofs.Numbers.{number_back, numbered}
use Rattle.ari.proofs.Numbers as numbers

-- a number that the rules have
pub record IsNumber (r : ℕ) : Type 0 where
  pub from : 1 ≤ r
  pub to : r ≤ 27

pub number_of-fault_of : (r : ℕ) → IsNumber r → number_of (fault_of r) ≡ r
number_of-fault_of r i = number_back r (let f = i.from in omega arith) i.to

-- What the reading gives.
pub data Numbered : Answer → Type 0 where
  refused : {r p : ℕ} → IsNumber r → Numbered (refuse r p)
  accepted : {n : ℕ} → Numbered (accept n)

pub read_numbered : (m : Limits) (i : Input) (b : List ℕ) → Numbered (read m i b)
read_numbered m i b = go (read m i b) (numbered m i b)
  where
    go : (x : Answer) → numbers.Numbered m x → Numbered x
    go (refuse r p) h = let k = h.bounds in refused (record { from = omega (arith, k.0); to = omega (arith, k.1) })
    go (accept n) h = accepted
