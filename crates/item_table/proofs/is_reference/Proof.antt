-- `item_table::is_reference` meets its contract: an array of another length than 2 where one is asked for.
use borrow.Author.Rules.{rules}
use Rattle.item_table.proofs.Entries.{reference_ways}
use Rattle.item_table.proofs.is_reference.Statement.{statement}
use Rattle.item_table.proofs.is_reference.Tie as tie

pub is_reference_spec : {M : Type 1} → statement M
is_reference_spec = tie.close (tie.spec (λ c. search (reference_ways, rules)) (λ c. search (reference_ways, rules)) (λ c κs. search rules)
    (λ c. search (reference_ways, rules)))
