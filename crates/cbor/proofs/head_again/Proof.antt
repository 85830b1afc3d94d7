use Rattle.cbor.proofs.HeadWays.{heads}
use borrow.Author.Rules.{rules}
use Rattle.cbor.proofs.head_again.Statement.{statement}
use Rattle.cbor.proofs.head_again.Tie as tie

pub head_again_spec : {M : Type 1} → statement M
head_again_spec = tie.close (tie.spec (λ c. search (heads, rules)) (λ c. search rules) (λ c κs. search rules) (λ c κs. search rules)
    (λ c. search (heads, rules)) (λ c κs. search rules) (λ c. search (heads, rules)))
