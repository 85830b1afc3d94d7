-- `names::stands_for` meets its contract: by the namespace, and the line of its name.
use Rattle.names.proofs.Translation.{stands}
use borrow.Author.Rules.{rules}
use Rattle.names.proofs.stands_for.Statement.{statement}
use Rattle.names.proofs.stands_for.Tie as tie

pub stands_for_spec : {M : Type 1} → statement M
stands_for_spec = tie.close (tie.spec (λ c. search rules) (λ c. search rules) (λ c κs. search rules) (λ c κs. search rules) (λ c. search rules)
    (λ c. search rules) (λ c. search rules) (λ c. search (stands, rules)) (λ c. search (stands, rules)) (λ c. search (stands, rules))
    (λ c. search rules))
