-- `comparison::target_behind` meets its contract.
use Rattle.comparison.proofs.Words.{behinds}
use borrow.Author.Rules.{rules}
use Rattle.comparison.proofs.target_behind.Statement.{statement}
use Rattle.comparison.proofs.target_behind.Tie as tie

pub target_behind_spec : {M : Type 1} → statement M
target_behind_spec = tie.close (tie.spec (λ c. search rules) (λ c κs. search rules) (λ c. search (behinds, rules)) (λ c. search (behinds, rules)))
