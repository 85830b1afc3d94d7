-- `print::field` meets its contract: a number, then a space.
use borrow.Author.Rules.{rules}
use Rattle.print.proofs.Putting.{putting}
use Rattle.print.proofs.field.Statement.{statement}
use Rattle.print.proofs.field.Tie as tie

pub field_spec : {M : Type 1} → statement M
field_spec = tie.close (tie.spec (λ c κs. search rules) (λ c κs. search rules) (λ c. search rules) (λ c. search (putting, rules)))
