-- `reader::is_not_greater` meets its contract: only keys are ordered.
use borrow.Author.Rules.{rules}
use Rattle.reader.proofs.Keys.{owns}
use Rattle.reader.proofs.is_not_greater.Statement.{statement}
use Rattle.reader.proofs.is_not_greater.Tie as tie

pub is_not_greater_spec : {M : Type 1} → statement M
is_not_greater_spec = tie.close (tie.spec (λ c. search rules) (λ c. search rules) (λ c. search rules) (λ c. search rules) (λ c. search rules)
    (λ c. search rules) (λ c κs. search rules) (λ c. search (owns, rules)) (λ c. search (owns, rules)))
