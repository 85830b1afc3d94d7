-- `surfbodkin::surfbodkin_read_text` meets its contract: the answer's code.
use borrow.Author.Rules.{rules}
use Rattle.surfbodkin.proofs.surfbodkin_read_text.Statement.{statement}
use Rattle.surfbodkin.proofs.surfbodkin_read_text.Tie as tie

pub surfbodkin_read_text_spec : {M : Type 1} → statement M
surfbodkin_read_text_spec = tie.close (tie.spec (λ c κs. search rules) (λ c κs. search rules) (λ c. search rules) (λ c. (cc, cc)))
