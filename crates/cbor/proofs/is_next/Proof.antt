use Rattle.cbor.proofs.TextWays.{texts}
use borrow.Author.Rules.{rules}
use Rattle.cbor.proofs.is_next.Statement.{statement}
use Rattle.cbor.proofs.is_next.Tie as tie

pub is_next_spec : {M : Type 1} → statement M
is_next_spec = tie.close (tie.spec (λ c. search (texts, rules)) (λ c. search rules) (λ c. search (texts, rules)) (λ c. search (texts, rules)))
