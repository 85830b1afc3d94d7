-- `why_held::member_of` meets its contract: by the container around.
use borrow.Author.Rules.{rules}
use Rattle.why_held.proofs.Going.{link_ways}
use Rattle.why_held.proofs.member_of.Statement.{statement}
use Rattle.why_held.proofs.member_of.Tie as tie

pub member_of_spec : {M : Type 1} → statement M
member_of_spec = tie.close (tie.spec (λ c. search (link_ways, rules)) (λ c. search (link_ways, rules)) (λ c. search (link_ways, rules)))
