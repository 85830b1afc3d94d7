-- `item_table::reserve` meets its contract: by what the head is, and by the room.
use borrow.Author.Rules.{rules}
use Rattle.item_table.proofs.References.{reserve_ways}
use Rattle.item_table.proofs.reserve.Statement.{statement}
use Rattle.item_table.proofs.reserve.Tie as tie

pub reserve_spec : {M : Type 1} → statement M
reserve_spec = tie.close (tie.spec (λ c. search (reserve_ways, rules)) (λ c κs. search rules) (λ c. search (reserve_ways, rules)) (λ c. search rules)
    (λ c. search rules) (λ c. search (reserve_ways, rules)) (λ c. search rules) (λ c. search rules) (λ c. search rules) (λ c. search rules)
    (λ c. search (reserve_ways, rules)))
