-- `surfbodkin::surfbodkin_strike` meets its contract: the answer's code, and the room.
use borrow.Author.Rules.{rules}
use Rattle.surfbodkin.proofs.surfbodkin_strike.Statement.{statement}
use Rattle.surfbodkin.proofs.surfbodkin_strike.Tie as tie

pub surfbodkin_strike_spec : {M : Type 1} → statement M
surfbodkin_strike_spec = tie.close (tie.spec (λ c κs. search rules) (λ c κs. search rules) (λ c. search rules) (λ c. (cc, cc)))
