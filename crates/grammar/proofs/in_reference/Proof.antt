-- `grammar::in_reference` meets its contract: by the length.
use borrow.Author.Rules.{rules}
use Rattle.grammar.proofs.TableWays.{reference_ways, without}
use Rattle.grammar.proofs.in_reference.Statement.{statement}
use Rattle.grammar.proofs.in_reference.Tie as tie

pub in_reference_spec : {M : Type 1} → statement M
in_reference_spec = tie.close (tie.spec (λ c. search (reference_ways, rules)) (λ c. search (reference_ways, rules))
    (λ c. without _ c.in_default.in_default-own.rest.0.1 c.in_default.in_default-own.rest.1))
