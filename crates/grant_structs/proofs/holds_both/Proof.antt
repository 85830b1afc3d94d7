-- `grant_structs::holds_both` meets its contract: by the subscribers, then by the bits of the namespaces.
use borrow.Author.Rules.{rules}
use Rattle.grant_structs.proofs.Decided.{holds_by, holds_not}
use Rattle.grant_structs.proofs.holds_both.Statement.{statement}
use Rattle.grant_structs.proofs.holds_both.Tie as tie

pub holds_both_spec : {M : Type 1} → statement M
holds_both_spec = tie.close (tie.spec (λ c. search (holds_not, rules)) (λ c. search (holds_by, rules)))
