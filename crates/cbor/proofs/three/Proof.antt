use Rattle.cbor.proofs.TextWays.{texts}
use borrow.Author.Rules.{rules}
use Rattle.cbor.proofs.three.Statement.{statement}
use Rattle.cbor.proofs.three.Tie as tie

pub three_spec : {M : Type 1} → statement M
three_spec = tie.close (tie.spec (λ c. search rules) (λ c κs. search rules) (λ c. search rules) (λ c κs. search rules) (λ c. search (texts, rules))
    (λ c. search (texts, rules)) (λ c. search (texts, rules)))
