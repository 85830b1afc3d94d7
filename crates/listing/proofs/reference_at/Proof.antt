-- `listing::reference_at` meets its contract: by the bytes of the head.
use Rattle.listing.proofs.ReferenceWays.{ways}
use borrow.Author.Rules.{rules}
use Rattle.listing.proofs.reference_at.Statement.{statement}
use Rattle.listing.proofs.reference_at.Tie as tie

pub reference_at_spec : {M : Type 1} → statement M
reference_at_spec = tie.close (tie.spec (λ c κs. search (ways, rules)) (λ c. search (ways, rules)) (λ c κs. search (ways, rules))
    (λ c. search (ways, rules)) (λ c κs. search (ways, rules)) (λ c. search (ways, rules)))
