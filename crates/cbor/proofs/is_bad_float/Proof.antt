use Rattle.cbor.proofs.FloatWays.{floats}
use borrow.Author.Rules.{rules}
use Rattle.cbor.proofs.is_bad_float.Statement.{statement}
use Rattle.cbor.proofs.is_bad_float.Tie as tie

pub is_bad_float_spec : {M : Type 1} → statement M
is_bad_float_spec =
    tie.close
    (tie.spec (λ c κs. search rules) (λ c. search (floats, rules)) (λ c κs. search rules) (λ c. search (floats, rules)) (λ c κs. search rules) (λ c. search (floats, rules)))
