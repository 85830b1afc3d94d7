use Rattle.grammar.proofs.NameWays.{names}
use borrow.Author.Rules.{rules}
use Rattle.grammar.proofs.is_namespace_name.Statement.{statement}
use Rattle.grammar.proofs.is_namespace_name.Tie as tie

pub is_namespace_name_spec : {M : Type 1} → statement M
is_namespace_name_spec = tie.close (tie.spec (λ c. search (names, rules)) (λ c. search rules) (λ c κs. search rules) (λ c. search (names, rules))
    (λ c κs. search rules) (λ c. search (names, rules)))
