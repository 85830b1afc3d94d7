-- `listing::namespace_at` meets its contract: by the head.
use Rattle.listing.proofs.ReferenceWays.{ways}
use borrow.Author.Rules.{rules}
use Rattle.listing.proofs.namespace_at.Statement.{statement}
use Rattle.listing.proofs.namespace_at.Tie as tie

pub namespace_at_spec : {M : Type 1} → statement M
namespace_at_spec = tie.close (tie.spec (λ c κs. search rules) (λ c. search rules) (λ c. search rules) (λ c. search (ways, rules)) (λ c. search rules)
    (λ c. search (ways, rules)) (λ c. search (ways, rules)) (λ c. search (ways, rules)) (λ c. search (ways, rules)))
