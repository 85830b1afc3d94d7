-- `why_held::meaning_of` meets its contract: by the slot, or by the container around.
use borrow.Author.Rules.{rules}
use Rattle.why_held.proofs.Going.{link_ways}
use Rattle.why_held.proofs.meaning_of.Statement.{statement}
use Rattle.why_held.proofs.meaning_of.Tie as tie

pub meaning_of_spec : {M : Type 1} → statement M
meaning_of_spec = tie.close (tie.spec (λ c κs. search rules) (λ c κs. search rules) (λ c. search (link_ways, rules)) (λ c. search (link_ways, rules)))
