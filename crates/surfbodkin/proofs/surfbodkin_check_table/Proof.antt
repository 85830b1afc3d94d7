-- `surfbodkin::surfbodkin_check_table` meets its contract: the answer's code.
use borrow.Author.Rules.{rules}
use Rattle.surfbodkin.proofs.surfbodkin_check_table.Statement.{statement}
use Rattle.surfbodkin.proofs.surfbodkin_check_table.Tie as tie

pub surfbodkin_check_table_spec : {M : Type 1} → statement M
surfbodkin_check_table_spec = tie.close (tie.spec (λ c κs. search rules) (λ c κs. search rules) (λ c. cc))
