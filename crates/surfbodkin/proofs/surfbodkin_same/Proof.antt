-- `surfbodkin::surfbodkin_same` meets its contract: the answer's code.
use borrow.Author.Rules.{rules}
use Rattle.surfbodkin.proofs.surfbodkin_same.Statement.{statement}
use Rattle.surfbodkin.proofs.surfbodkin_same.Tie as tie

pub surfbodkin_same_spec : {M : Type 1} → statement M
surfbodkin_same_spec = tie.close (tie.spec (λ c κs. search rules) (λ c κs. search rules) (λ c. cc))
