-- Well-formed runs of items (RFC 8949), with no rule of a slot.
use Prim.Native.Nat.{ℕ, suc}
use mathlib.Core.Path.{◌≡◌}
use lib.ListN.{length}
use Rattle.cbor.specs.Head.{Sound, string_size, arity}
use Rattle.ari.specs.Items.{Items, none, item}

-- the items of a run, not counting what they hold
abbrev pub trees : Items → ℕ
trees none = 0
trees (item l s ms rs) = suc (trees rs)

-- Well-formed: each head may be written, each string has its length, each array and map as many members as its head says.
abbrev pub Well : Items → Type 0
Well none = Unit {0}
Well (item l s ms rs) = Sound l × (length s ≡ string_size l) × (trees ms ≡ arity l) × Well ms × Well rs
