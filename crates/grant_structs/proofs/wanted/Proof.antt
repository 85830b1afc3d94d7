-- `grant_structs::wanted` meets its contract: the entry's word as a number.
use borrow.Author.Rules.{rules}
use Rattle.grant_structs.proofs.Entries.{wanted_row}
use Rattle.grant_structs.proofs.wanted.Statement.{statement}
use Rattle.grant_structs.proofs.wanted.Tie as tie

pub wanted_spec : {M : Type 1} → statement M
wanted_spec = tie.close (tie.spec (λ c. search rules) (λ c. search rules) (λ c κs. search rules) (λ c κs. search rules)
    (λ c. search (wanted_row, rules)))
