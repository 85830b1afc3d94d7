-- `cbor::long_again` meets its contract: by the info and the bytes that are left.
use borrow.Author.Rules.{rules}
use Rattle.cbor.proofs.HeadWays.{heads}
use Rattle.cbor.proofs.long_again.Statement.{statement}
use Rattle.cbor.proofs.long_again.Tie as tie

pub long_again_spec : {M : Type 1} → statement M
long_again_spec = tie.close (tie.spec (λ c. search (heads, rules)) (λ c κs. search (heads, rules)) (λ c. search (heads, rules))
    (λ c. search (heads, rules)) (λ c. search (heads, rules)) (λ c. search (heads, rules)) (λ c. search (heads, rules))
    (λ c κs. search (heads, rules)) (λ c. search (heads, rules)) (λ c κs. search (heads, rules)) (λ c. search (heads, rules))
    (λ c. search (heads, rules)) (λ c. search (heads, rules)) (λ c κs. search (heads, rules)) (λ c. search (heads, rules))
    (λ c. search (heads, rules)) (λ c κs. search (heads, rules)) (λ c. search (heads, rules)) (λ c. search (heads, rules))
    (λ c. search (heads, rules)) (λ c κs. search (heads, rules)) (λ c. search (heads, rules)) (λ c. search (heads, rules))
    (λ c κs. search (heads, rules)) (λ c. search (heads, rules)) (λ c. search (heads, rules)) (λ c. search (heads, rules))
    (λ c κs. search (heads, rules)) (λ c. search (heads, rules)) (λ c κs. search (heads, rules)) (λ c. search (heads, rules))
    (λ c. search (heads, rules)))
