use Rattle.text_read_item.proofs.Found.{placed}
use borrow.Author.Rules.{rules}
use Rattle.text_read_item.proofs.literal_at.Statement.{statement}
use Rattle.text_read_item.proofs.literal_at.Tie as tie

pub literal_at_spec : {M : Type 1} → statement M
literal_at_spec = tie.close (tie.spec (λ c κs. search rules) (λ c κs. search rules) (λ c. search (placed, rules)))
