use Rattle.cbor.proofs.HeadWays.{heads}
use borrow.Author.Rules.{rules}
use Rattle.cbor.proofs.short.Statement.{statement}
use Rattle.cbor.proofs.short.Tie as tie

pub short_spec : {M : Type 1} → statement M
short_spec = tie.close (tie.spec (λ c. search rules) (λ c. search rules) (λ c. search (heads, rules)) (λ c. search (heads, rules)) (λ c. search rules)
    (λ c. search (heads, rules)))
