-- Private to src/: what is known of places in the buffers.
use Rattle.std.specs.Prelude.{ℕ, ◌≤◌}
use Rattle.gate_vectors.specs.declared.Bytes.{Bytes}
use Rattle.gate_vectors.specs.declared.Bytes.TheVariants.{Count, Bad}

-- so many bytes have room
abbrev pub Roomy : Bytes → ℕ → Type 0
Roomy (Count n) room = n ≤ room
Roomy Bad room = Unit {0}
