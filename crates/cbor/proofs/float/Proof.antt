use Rattle.cbor.proofs.HeadWays.{heads}
use borrow.Author.Rules.{rules}
use Rattle.cbor.proofs.float.Statement.{statement}
use Rattle.cbor.proofs.float.Tie as tie

pub float_spec : {M : Type 1} → statement M
float_spec = tie.close (tie.spec (λ c. search (heads, rules)) (λ c. search rules) (λ c κs. search rules) (λ c. search (heads, rules)) (λ c. search (heads, rules)))
