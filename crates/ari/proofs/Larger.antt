-- Larger limits accept more: what is accepted under some limits is accepted under larger ones, with the same count. The idea: of all that makes
-- an input one (`Is`), the limits stand in three bounds only. The listing is one of the bytes, with no limits in it, so it is the same too.
use Prim.Native.Nat.{ℕ, ◌≤◌}
use mathlib.Core.Path.{◌≡◌}
use mathlib.Core.Bool.{true}
use mathlib.Core.List.{List}
use native.Mathlib.Omega.{arith}
use Rattle.buffer.specs.Bytes.{all, is_byte}
use Rattle.ari.specs.declared.Limits.{Limits}
use Rattle.ari.specs.declared.Input.{Input}
use Rattle.ari.specs.Reader.{accept, read}
use Rattle.ari.specs.Items.{Items}
use Rattle.ari.specs.Rules.{Is}
use Rattle.ari.proofs.Demand.{demand_two, is_read}

-- none of a binary input's limits is larger in m than in m'
pub record Within (m m' : Limits) : Type 0 where
  pub bytes : m.bytes ≤ m'.bytes
  pub items : m.items ≤ m'.items
  pub containers : m.containers ≤ m'.containers

module _ {m m' : Limits} (w : Within m m') (i : Input) (b : List ℕ) where
  pub larger_makes_it_one : {g : Items} {n : ℕ} → Is m i b g n → Is m' i b g n
  larger_makes_it_one c = record {
    stands = c.stands;
    bytes = c.bytes;
    count = c.count;
    short = omega (arith, c.short, w.bytes);
    few = omega (arith, c.few, w.items);
    shallow = omega (arith, c.shallow, w.containers);
  }

  pub larger_accepts : (n : ℕ) → all is_byte b ≡ true → read m i b ≡ accept n → read m' i b ≡ accept n
  larger_accepts n e a = is_read m' i b (larger_makes_it_one ((demand_two m i b n e).0 a))
