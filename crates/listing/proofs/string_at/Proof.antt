-- `listing::string_at` meets its contract: the bytes behind the head.
use Rattle.listing.proofs.ReferenceWays.{string_ways}
use borrow.Author.Rules.{rules}
use Rattle.listing.proofs.string_at.Statement.{statement}
use Rattle.listing.proofs.string_at.Tie as tie

pub string_at_spec : {M : Type 1} → statement M
string_at_spec = tie.close (tie.spec (λ c κs. search rules) (λ c. search rules) (λ c. search rules) (λ c. search rules) (λ c. search rules)
    (λ c. search rules) (λ c. search (string_ways, rules)) (λ c. search (string_ways, rules)) (λ c. search (string_ways, rules))
    (λ c. search (string_ways, rules)) (λ c. search rules) (λ c. search (string_ways, rules)) (λ c. search rules) (λ c. search rules)
    (λ c. search rules) (λ c. search (string_ways, rules)) (λ c. search (string_ways, rules)))
