-- `item_table::fill` meets its contract: no place and past the end nothing is stored.
use borrow.Author.Rules.{rules}
use Rattle.item_table.proofs.References.{fill_ways}
use Rattle.item_table.proofs.fill.Statement.{statement}
use Rattle.item_table.proofs.fill.Tie as tie

pub fill_spec : {M : Type 1} → statement M
fill_spec = tie.close (tie.spec (λ c. search (fill_ways, rules)) (λ c κs. search rules) (λ c. search rules) (λ c. search rules) (λ c. search rules)
    (λ c. search (fill_ways, rules)) (λ c. search (fill_ways, rules)))
