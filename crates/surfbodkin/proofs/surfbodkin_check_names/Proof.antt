-- `surfbodkin::surfbodkin_check_names` meets its contract: the answer's code.
use borrow.Author.Rules.{rules}
use Rattle.surfbodkin.proofs.surfbodkin_check_names.Statement.{statement}
use Rattle.surfbodkin.proofs.surfbodkin_check_names.Tie as tie

pub surfbodkin_check_names_spec : {M : Type 1} → statement M
surfbodkin_check_names_spec = tie.close (tie.spec (λ c κs. search rules) (λ c κs. search rules) (λ c. cc))
