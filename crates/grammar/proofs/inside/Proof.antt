-- `grammar::inside` meets its contract: by the kind.
use borrow.Author.Rules.{rules}
use Rattle.grammar.proofs.TableWays.{inside_ways}
use Rattle.grammar.proofs.inside.Statement.{statement}
use Rattle.grammar.proofs.inside.Tie as tie

pub inside_spec : {M : Type 1} → statement M
inside_spec = tie.close (tie.spec (λ c. search (inside_ways, rules)) (λ c. search (inside_ways, rules)) (λ c κs. search rules)
    (λ c κs. search (inside_ways, rules)) (λ c. search (inside_ways, rules)) (λ c κs. search (inside_ways, rules)) (λ c. search (inside_ways, rules)))
