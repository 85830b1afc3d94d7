-- `why_held::put_link` meets its contract: number after number.
use borrow.Author.Rules.{rules}
use Rattle.why_held.proofs.Writing.{link_put}
use Rattle.why_held.proofs.put_link.Statement.{statement}
use Rattle.why_held.proofs.put_link.Tie as tie

pub put_link_spec : {M : Type 1} → statement M
put_link_spec = tie.close (tie.spec (λ c. search rules) (λ c κs. search rules) (λ c. search rules) (λ c κs. search rules) (λ c κs. search rules)
    (λ c κs. search rules) (λ c. search rules) (λ c. search (link_put, rules)))
