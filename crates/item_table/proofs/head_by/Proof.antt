-- `item_table::head_by` meets its contract: by whether it is a reference.
use borrow.Author.Rules.{rules}
use Rattle.item_table.proofs.Entries.{head_ways}
use Rattle.item_table.proofs.head_by.Statement.{statement}
use Rattle.item_table.proofs.head_by.Tie as tie

pub head_by_spec : {M : Type 1} → statement M
head_by_spec =
    tie.close
    (tie.spec (λ c κs. search rules) (λ c. search (head_ways, rules)) (λ c. search (head_ways, rules)))
