-- `grant_structs::judged` meets its contract: the search ended before the last entry, or it did not.
use borrow.Author.Rules.{rules}
use Rattle.grant_structs.proofs.Entries.{held_below, held_none}
use Rattle.grant_structs.proofs.judged.Statement.{statement}
use Rattle.grant_structs.proofs.judged.Tie as tie

pub judged_spec : {M : Type 1} → statement M
judged_spec = tie.close (tie.spec (λ c. search (held_below, rules)) (λ c. search (held_none, rules)))
