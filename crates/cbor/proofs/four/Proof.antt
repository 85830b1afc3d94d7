use Rattle.cbor.proofs.TextWays.{texts}
use borrow.Author.Rules.{rules}
use Rattle.cbor.proofs.four.Statement.{statement}
use Rattle.cbor.proofs.four.Tie as tie

pub four_spec : {M : Type 1} → statement M
four_spec = tie.close (tie.spec (λ c. search rules) (λ c κs. search rules) (λ c. search rules) (λ c κs. search rules) (λ c. search rules)
    (λ c κs. search rules) (λ c. search (texts, rules)) (λ c. search (texts, rules)) (λ c. search (texts, rules)) (λ c. search (texts, rules)))
