-- `surfbodkin::surfbodkin_list` meets its contract: the answer's code.
use borrow.Author.Rules.{rules}
use Rattle.surfbodkin.proofs.surfbodkin_list.Statement.{statement}
use Rattle.surfbodkin.proofs.surfbodkin_list.Tie as tie

pub surfbodkin_list_spec : {M : Type 1} → statement M
surfbodkin_list_spec = tie.close (tie.spec (λ c κs. search rules) (λ c κs. search rules) (λ c. search rules) (λ c. (cc, cc)))
