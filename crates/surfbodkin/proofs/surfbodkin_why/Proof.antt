-- `surfbodkin::surfbodkin_why` meets its contract: the answer's code, and the room as it was written.
use borrow.Author.Rules.{rules}
use Rattle.surfbodkin.proofs.surfbodkin_why.Statement.{statement}
use Rattle.surfbodkin.proofs.surfbodkin_why.Tie as tie

pub surfbodkin_why_spec : {M : Type 1} → statement M
surfbodkin_why_spec = tie.close (tie.spec (λ c κs. search rules) (λ c κs. search rules) (λ c. search rules) (λ c. (cc, cc)))
