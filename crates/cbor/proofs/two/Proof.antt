use Rattle.cbor.proofs.TextWays.{texts}
use borrow.Author.Rules.{rules}
use Rattle.cbor.proofs.two.Statement.{statement}
use Rattle.cbor.proofs.two.Tie as tie

pub two_spec : {M : Type 1} → statement M
two_spec = tie.close (tie.spec (λ c. search rules) (λ c κs. search rules) (λ c. search (texts, rules)) (λ c. search (texts, rules)))
