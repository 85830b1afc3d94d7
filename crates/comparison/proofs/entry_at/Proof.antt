-- `comparison::entry_at` meets its contract: by what is reached.
use Rattle.comparison.proofs.Going.{entry_ways}
use borrow.Author.Rules.{rules}
use Rattle.comparison.proofs.entry_at.Statement.{statement}
use Rattle.comparison.proofs.entry_at.Tie as tie

pub entry_at_spec : {M : Type 1} → statement M
entry_at_spec = tie.close (tie.spec (λ c κs. search rules) (λ c. search (entry_ways, rules)) (λ c κs. search rules) (λ c. search (entry_ways, rules))
    (λ c κs. search rules) (λ c. search (entry_ways, rules)))
