-- `surfbodkin::surfbodkin_name_number` meets its contract: the answer's code, and the lent number.
use borrow.Author.Rules.{rules}
use Rattle.surfbodkin.proofs.surfbodkin_name_number.Statement.{statement}
use Rattle.surfbodkin.proofs.surfbodkin_name_number.Tie as tie

pub surfbodkin_name_number_spec : {M : Type 1} → statement M
surfbodkin_name_number_spec = tie.close (tie.spec (λ c κs. search rules) (λ c κs. search rules) (λ c κs. search rules) (λ c. (cc, cc)))
