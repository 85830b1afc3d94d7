-- `grant_text::grant` meets its contract.
use Rattle.grant_text.proofs.LineWays.{ways}
use borrow.Author.Rules.{rules}
use Rattle.grant_text.proofs.grant.Statement.{statement}
use Rattle.grant_text.proofs.grant.Tie as tie

pub grant_spec : {M : Type 1} → statement M
grant_spec = tie.close (tie.spec (λ c. search (ways, rules)) (λ c. search (ways, rules)) (λ c. search (ways, rules)) (λ c. search (ways, rules))
    (λ c. search (ways, rules)) (λ c. search (ways, rules)) (λ c. search (ways, rules)))
