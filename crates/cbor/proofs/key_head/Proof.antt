-- `cbor::key_head` meets its contract, as `head_again` does, at the front.
use Rattle.cbor.proofs.HeadWays.{heads}
use borrow.Author.Rules.{rules}
use Rattle.cbor.proofs.key_head.Statement.{statement}
use Rattle.cbor.proofs.key_head.Tie as tie

pub key_head_spec : {M : Type 1} → statement M
key_head_spec = tie.close (tie.spec (λ c. search rules) (λ c κs. search rules) (λ c κs. search rules) (λ c. search (heads, rules))
    (λ c κs. search rules) (λ c. search (heads, rules)) (λ c. search (heads, rules)))
