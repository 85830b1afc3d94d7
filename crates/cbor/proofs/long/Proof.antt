-- `cbor::long` meets its contract: by the info, the bytes that are left, and the major type.
use Rattle.cbor.proofs.HeadWays.{heads}
use borrow.Author.Rules.{rules}
use Rattle.cbor.proofs.long.Statement.{statement}
use Rattle.cbor.proofs.long.Tie as tie

pub long_spec : {M : Type 1} → statement M
long_spec = tie.close (tie.spec (λ c. search rules) (λ c. search (heads, rules)) (λ c. search rules) (λ c. search rules) (λ c κs. search rules)
    (λ c. search rules) (λ c. search (heads, rules)) (λ c. search (heads, rules)) (λ c. search (heads, rules)) (λ c. search rules)
    (λ c κs. search rules) (λ c. search rules) (λ c. search rules) (λ c. search (heads, rules)) (λ c. search rules) (λ c κs. search rules)
    (λ c. search rules) (λ c. search rules) (λ c κs. search rules) (λ c. search (heads, rules)) (λ c. search (heads, rules)) (λ c. search rules)
    (λ c κs. search rules) (λ c. search rules) (λ c. search rules) (λ c. search (heads, rules)) (λ c. search rules) (λ c κs. search rules)
    (λ c. search rules) (λ c. search rules) (λ c κs. search rules) (λ c. search (heads, rules)) (λ c. search (heads, rules)) (λ c. search rules)
    (λ c κs. search rules) (λ c. search rules) (λ c. search (heads, rules)) (λ c. search rules) (λ c κs. search rules) (λ c. search rules)
    (λ c κs. search rules) (λ c. search (heads, rules)) (λ c. search (heads, rules)))
