-- A head by its kind and argument: no text depends on its size. Interface: head_of.
use Rattle.std.specs.Prelude.{ℕ}
use Rattle.cbor.specs.Head.{Lead}

abbrev pub head_of : ℕ → ℕ → Lead
head_of k a = record { info = 0; kind = k; arg = a }
