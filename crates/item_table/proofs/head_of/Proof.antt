-- `item_table::head_of` meets its contract: the word's highest bits.
use mathlib.Core.Path.{refl}
use Rattle.item_table.specs.Entries.{head_of}
use Rattle.item_table.proofs.head_of.Statement.{statement}
use Rattle.item_table.proofs.head_of.Tie as tie

returns : tie.Need-returns
unfolding head_of
returns c = refl

pub head_of_spec : {M : Type 1} → statement M
head_of_spec = tie.close (tie.spec returns)
