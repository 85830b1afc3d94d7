-- `reader::slot_known` meets its contract: a number that is no slot's stands for the version's.
use Rattle.reader.proofs.Alone.{known_slot, no_slots}
use borrow.Author.Rules.{rules}
use Rattle.reader.proofs.slot_known.Statement.{statement}
use Rattle.reader.proofs.slot_known.Tie as tie

pub slot_known_spec : {M : Type 1} → statement M
slot_known_spec = tie.close (tie.spec (λ c. search rules) (λ c. search (known_slot, no_slots, rules)))
