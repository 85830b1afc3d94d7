-- `names::number_of` meets its contract: the number behind the first "=".
use Rattle.names.proofs.Lines.{line_ways}
use borrow.Author.Rules.{rules}
use Rattle.names.proofs.number_of.Statement.{statement}
use Rattle.names.proofs.number_of.Tie as tie

pub number_of_spec : {M : Type 1} → statement M
number_of_spec = tie.close (tie.spec (λ c κs. search rules) (λ c. search (line_ways, rules)) (λ c. search rules) (λ c. search rules)
    (λ c. search rules) (λ c. search rules) (λ c κs. search rules) (λ c. search (line_ways, rules)))
