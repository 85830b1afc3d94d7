-- `cbor::is_own_key` meets its contract: by the first byte.
use borrow.Author.Rules.{rules}
use Rattle.cbor.proofs.OrderWays.{keys}
use Rattle.cbor.proofs.is_own_key.Statement.{statement}
use Rattle.cbor.proofs.is_own_key.Tie as tie

pub is_own_key_spec : {M : Type 1} → statement M
is_own_key_spec =
    tie.close
    (tie.spec (λ c. search (keys, rules)) (λ c. search (keys, rules)) (λ c. search (keys, rules)) (λ c. search (keys, rules)) (λ c κs. search (keys, rules)) (λ c. search (keys, rules)))
