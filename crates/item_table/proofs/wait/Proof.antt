-- `item_table::wait` meets its contract: no place and past the end nothing is stored.
use borrow.Author.Rules.{rules}
use Rattle.item_table.proofs.References.{wait_ways}
use Rattle.item_table.proofs.wait.Statement.{statement}
use Rattle.item_table.proofs.wait.Tie as tie

pub wait_spec : {M : Type 1} → statement M
wait_spec = tie.close (tie.spec (λ c. search (wait_ways, rules)) (λ c κs. search rules) (λ c. search rules) (λ c. search rules) (λ c. search rules)
    (λ c. search (wait_ways, rules)) (λ c. search (wait_ways, rules)))
