use Rattle.cbor.proofs.FloatWays.{floats}
use borrow.Author.Rules.{rules}
use Rattle.cbor.proofs.is_long.Statement.{statement}
use Rattle.cbor.proofs.is_long.Tie as tie

pub is_long_spec : {M : Type 1} → statement M
is_long_spec = tie.close (tie.spec (λ c. search (floats, rules)) (λ c. search (floats, rules)) (λ c. search (floats, rules)) (λ c. search rules)
    (λ c. search rules) (λ c κs. search rules) (λ c. search (floats, rules)) (λ c κs. search rules) (λ c. search (floats, rules))
    (λ c. search (floats, rules)))
