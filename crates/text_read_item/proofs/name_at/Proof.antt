use Rattle.text_read_item.proofs.Found.{placed}
use borrow.Author.Rules.{rules}
use Rattle.text_read_item.proofs.name_at.Statement.{statement}
use Rattle.text_read_item.proofs.name_at.Tie as tie

pub name_at_spec : {M : Type 1} → statement M
name_at_spec = tie.close (tie.spec (λ c κs. search rules) (λ c κs. search rules) (λ c. search (placed, rules)))
