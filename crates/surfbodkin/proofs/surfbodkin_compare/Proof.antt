-- `surfbodkin::surfbodkin_compare` meets its contract: the answer's code, and the room.
use borrow.Author.Rules.{rules}
use Rattle.surfbodkin.proofs.surfbodkin_compare.Statement.{statement}
use Rattle.surfbodkin.proofs.surfbodkin_compare.Tie as tie

pub surfbodkin_compare_spec : {M : Type 1} → statement M
surfbodkin_compare_spec = tie.close (tie.spec (λ c κs. search rules) (λ c κs. search rules) (λ c. search rules) (λ c. (cc, cc)))
