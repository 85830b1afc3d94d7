-- `grammar::in_ari` meets its contract: by the length.
use borrow.Author.Rules.{rules}
use Rattle.grammar.proofs.TableWays.{reference_ways}
use Rattle.grammar.proofs.in_ari.Statement.{statement}
use Rattle.grammar.proofs.in_ari.Tie as tie

pub in_ari_spec : {M : Type 1} → statement M
in_ari_spec = tie.close (tie.spec (λ c. search (reference_ways, rules)) (λ c κs. search rules) (λ c. search (reference_ways, rules)))
