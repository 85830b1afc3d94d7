use Rattle.cbor.proofs.TextWays.{texts}
use borrow.Author.Rules.{rules}
use Rattle.cbor.proofs.sequence.Statement.{statement}
use Rattle.cbor.proofs.sequence.Tie as tie

pub sequence_spec : {M : Type 1} → statement M
sequence_spec = tie.close (tie.spec (λ c. search rules) (λ c. search (texts, rules)) (λ c κs. search rules) (λ c. search (texts, rules))
    (λ c κs. search rules) (λ c. search (texts, rules)) (λ c κs. search rules) (λ c. search (texts, rules)) (λ c κs. search rules)
    (λ c. search (texts, rules)) (λ c κs. search rules) (λ c. search (texts, rules)) (λ c κs. search rules) (λ c. search (texts, rules))
    (λ c κs. search rules) (λ c. search (texts, rules)) (λ c. search (texts, rules)))
