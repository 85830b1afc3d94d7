use Rattle.cbor.proofs.FloatWays.{floats}
use borrow.Author.Rules.{rules}
use Rattle.cbor.proofs.is_multiple.Statement.{statement}
use Rattle.cbor.proofs.is_multiple.Tie as tie

pub is_multiple_spec : {M : Type 1} → statement M
is_multiple_spec = tie.close (tie.spec (λ c. search rules) (λ c. search (floats, rules)) (λ c. search (floats, rules)))
