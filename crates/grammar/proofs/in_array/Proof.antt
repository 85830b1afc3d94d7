-- `grammar::in_array` meets its contract: by the form in the word.
use borrow.Author.Rules.{rules}
use Rattle.grammar.proofs.TableWays.{array_ways}
use Rattle.grammar.proofs.in_array.Statement.{statement}
use Rattle.grammar.proofs.in_array.Tie as tie

pub in_array_spec : {M : Type 1} → statement M
in_array_spec = tie.close (tie.spec (λ c κs. search rules) (λ c. search (array_ways, rules)) (λ c. search (array_ways, rules)) (λ c κs. search rules)
    (λ c. search (array_ways, rules)) (λ c κs. search rules) (λ c. search (array_ways, rules)) (λ c κs. search rules)
    (λ c. search (array_ways, rules)))
