-- `cbor::judge` meets its contract: a number, a string or a container has no test more.
use borrow.Author.Rules.{rules}
use Rattle.cbor.proofs.HeadWays.{heads}
use Rattle.cbor.proofs.judge.Statement.{statement}
use Rattle.cbor.proofs.judge.Tie as tie

pub judge_spec : {M : Type 1} → statement M
judge_spec = tie.close (tie.spec (λ c. search (heads, rules)) (λ c. search (heads, rules)) (λ c κs. search (heads, rules)) (λ c. search (heads, rules)))
