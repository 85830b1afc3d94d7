-- `cbor::is_shortest` meets its contract: by the first two bytes.
use borrow.Author.Rules.{rules}
use Rattle.cbor.proofs.OrderWays.{keys}
use Rattle.cbor.proofs.is_shortest.Statement.{statement}
use Rattle.cbor.proofs.is_shortest.Tie as tie

pub is_shortest_spec : {M : Type 1} → statement M
is_shortest_spec = tie.close (tie.spec (λ c. search (keys, rules)) (λ c. search (keys, rules)) (λ c. search (keys, rules)) (λ c. search (keys, rules))
    (λ c. search (keys, rules)) (λ c. search (keys, rules)) (λ c. search (keys, rules)) (λ c. search (keys, rules)) (λ c. search (keys, rules)))
