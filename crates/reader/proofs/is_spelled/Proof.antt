-- `reader::is_spelled` meets its contract: one spelling for each number.
use borrow.Author.Rules.{rules}
use Rattle.reader.proofs.Keys.{spelled_by, spelled_else}
use Rattle.reader.proofs.is_spelled.Statement.{statement}
use Rattle.reader.proofs.is_spelled.Tie as tie

pub is_spelled_spec : {M : Type 1} → statement M
is_spelled_spec = tie.close (tie.spec (λ c κs. search rules) (λ c κs. search rules) (λ c κs. search rules) (λ c κs. search rules)
    (λ c κs. search rules) (λ c. search (spelled_by, rules)) (λ c. search (spelled_by, rules)) (λ c. search (spelled_by, rules))
    (λ c. search (spelled_else, rules)))
