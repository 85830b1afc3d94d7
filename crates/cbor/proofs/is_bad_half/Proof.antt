use borrow.Author.Rules.{rules}
use Rattle.cbor.proofs.FloatWays.{floats}
use Rattle.cbor.proofs.is_bad_half.Statement.{statement}
use Rattle.cbor.proofs.is_bad_half.Tie as tie

pub is_bad_half_spec : {M : Type 1} → statement M
is_bad_half_spec = tie.close (tie.spec (λ c. search (floats, rules)) (λ c. search (floats, rules)) (λ c. search (floats, rules)))
