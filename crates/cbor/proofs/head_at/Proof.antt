use Rattle.cbor.proofs.HeadWays.{heads}
use borrow.Author.Rules.{rules}
use Rattle.cbor.proofs.head_at.Statement.{statement}
use Rattle.cbor.proofs.head_at.Tie as tie

pub head_at_spec : {M : Type 1} → statement M
head_at_spec = tie.close (tie.spec (λ c. search (heads, rules)) (λ c. search rules) (λ c κs. search rules) (λ c κs. search rules)
    (λ c. search (heads, rules)) (λ c. search rules) (λ c κs. search rules) (λ c. search (heads, rules)))
