-- `item_table::end_all` meets its contract: what is left to do gives the whole.
use borrow.Author.Rules.{rules}
use Rattle.item_table.proofs.References.{Ending, endings}
use Rattle.item_table.proofs.end_all.Statement.{statement}
use Rattle.item_table.proofs.end_all.Tie as tie

abbrev invariant-loop-k : tie.invariant-loop-k
invariant-loop-k t₀ pending after k₀ t k = Ending t₀ pending after k t

abbrev decreases-loop-k : tie.decreases-loop-k
decreases-loop-k t₀ pending after k₀ t k = k

pub end_all_spec : {M : Type 1} → statement M
end_all_spec = tie.close (tie.spec invariant-loop-k decreases-loop-k (λ c. search (endings, rules)) (λ c. search (endings, rules)) (λ c. search (endings, rules)) (λ c. search (endings, rules)) (λ c. search rules)
    (λ c. search rules) (λ c κs. search rules) (λ c κs. search rules) (λ c. search rules) (λ c. search rules) (λ c. search (endings, rules))
    (λ c. search (endings, rules)) (λ c. search rules) (λ c. search (endings, rules)) (λ c. search (endings, rules)) (λ c. search (endings, rules)))
