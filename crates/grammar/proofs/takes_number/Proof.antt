-- `grammar::takes_number` meets its contract: a byte above 55 is no such number, one below has its bit.
use borrow.Author.Rules.{rules}
use Rattle.grammar.proofs.TableWays.{number_ways}
use Rattle.grammar.proofs.takes_number.Statement.{statement}
use Rattle.grammar.proofs.takes_number.Tie as tie

pub takes_number_spec : {M : Type 1} → statement M
takes_number_spec = tie.close (tie.spec (λ c κs. search rules) (λ c. search (number_ways, rules)) (λ c κs. search rules) (λ c. search rules)
    (λ c. search (number_ways, rules)))
