use Rattle.text_read_item.proofs.Found.{found}
use borrow.Author.Rules.{rules}
use Rattle.text_read_item.proofs.reference.Statement.{statement}
use Rattle.text_read_item.proofs.reference.Tie as tie

pub reference_spec : {M : Type 1} → statement M
reference_spec = tie.close (tie.spec (λ c κs. search rules) (λ c κs. search rules) (λ c κs. search rules) (λ c. search (found, rules)))
