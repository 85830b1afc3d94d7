-- `names::number_for` meets its contract: the number of the line that is found.
use Rattle.names.proofs.Lines.{search_ways}
use borrow.Author.Rules.{rules}
use Rattle.names.proofs.number_for.Statement.{statement}
use Rattle.names.proofs.number_for.Tie as tie

pub number_for_spec : {M : Type 1} → statement M
number_for_spec = tie.close (tie.spec (λ c κs. search rules) (λ c κs. search rules) (λ c. search (search_ways, rules)))
