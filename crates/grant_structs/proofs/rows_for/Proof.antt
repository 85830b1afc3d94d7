-- `grant_structs::rows_for` meets its contract: by the entry's kind.
use borrow.Author.Rules.{rules}
use Rattle.grant_structs.proofs.Entries.{rows_number, rows_other}
use Rattle.grant_structs.proofs.rows_for.Statement.{statement}
use Rattle.grant_structs.proofs.rows_for.Tie as tie

pub rows_for_spec : {M : Type 1} → statement M
rows_for_spec = tie.close (tie.spec (λ c. search rules) (λ c. search rules) (λ c κs. search rules) (λ c. search (rows_number, rules))
    (λ c. search (rows_other, rules)))
