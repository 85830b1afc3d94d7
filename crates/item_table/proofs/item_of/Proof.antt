-- `item_table::item_of` meets its contract: field by field.
use mathlib.Core.Path.{refl}
use Rattle.item_table.specs.Entries.{item_of}
use Rattle.item_table.proofs.item_of.Statement.{statement}
use Rattle.item_table.proofs.item_of.Tie as tie

returns : tie.Need-returns
unfolding item_of
returns c = refl

pub item_of_spec : {M : Type 1} → statement M
item_of_spec = tie.close (tie.spec returns)
