-- `cbor::put_head` meets its contract: by the size of the argument.
use Rattle.cbor.proofs.PutWays.{putting}
use borrow.Author.Rules.{rules}
use Rattle.cbor.proofs.put_head.Statement.{statement}
use Rattle.cbor.proofs.put_head.Tie as tie

pub put_head_spec : {M : Type 1} → statement M
put_head_spec = tie.close (tie.spec (λ c. search rules) (λ c. search rules) (λ c κs. search rules) (λ c. search rules) (λ c. search (putting, rules))
    (λ c. search (putting, rules)) (λ c. search (putting, rules)) (λ c. search rules) (λ c. search rules) (λ c. search rules) (λ c κs. search rules)
    (λ c. search rules) (λ c. search (putting, rules)) (λ c. search rules) (λ c. search rules) (λ c κs. search rules) (λ c. search rules)
    (λ c κs. search rules) (λ c. search rules) (λ c. search (putting, rules)) (λ c. search rules) (λ c. search rules) (λ c κs. search rules)
    (λ c. search rules) (λ c κs. search rules) (λ c. search rules) (λ c. search (putting, rules)) (λ c. search rules) (λ c. search rules)
    (λ c κs. search rules) (λ c. search rules) (λ c κs. search rules) (λ c. search rules) (λ c. search (putting, rules)) (λ c. search rules)
    (λ c. search rules) (λ c κs. search rules) (λ c κs. search rules) (λ c. search rules) (λ c. search (putting, rules)))
