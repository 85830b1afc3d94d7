-- `comparison::is_different` meets its contract.
use Rattle.comparison.proofs.Going.{entry_ways}
use borrow.Author.Rules.{rules}
use Rattle.comparison.proofs.is_different.Statement.{statement}
use Rattle.comparison.proofs.is_different.Tie as tie

pub is_different_spec : {M : Type 1} → statement M
is_different_spec = tie.close (tie.spec (λ c. search (entry_ways, rules)) (λ c. search (entry_ways, rules)))
