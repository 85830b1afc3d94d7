-- `grant_structs::compared_rows` meets its contract: the search ended before the last row, or it did not.
use borrow.Author.Rules.{rules}
use Rattle.grant_structs.proofs.Entries.{compared_below, compared_all}
use Rattle.grant_structs.proofs.compared_rows.Statement.{statement}
use Rattle.grant_structs.proofs.compared_rows.Tie as tie

pub compared_rows_spec : {M : Type 1} → statement M
compared_rows_spec = tie.close (tie.spec (λ c. search rules) (λ c. search (compared_below, rules)) (λ c. search (compared_all, rules)))
