-- `why_held::link_of` meets its contract: with its key, or none.
use borrow.Author.Rules.{rules}
use Rattle.why_held.proofs.Going.{link_ways}
use Rattle.why_held.proofs.link_of.Statement.{statement}
use Rattle.why_held.proofs.link_of.Tie as tie

pub link_of_spec : {M : Type 1} → statement M
link_of_spec = tie.close (tie.spec (λ c. search (link_ways, rules)) (λ c. search (link_ways, rules)))
