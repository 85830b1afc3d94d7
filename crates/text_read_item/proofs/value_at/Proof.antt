use Rattle.text_read_item.proofs.Found.{placed}
use borrow.Author.Rules.{rules}
use Rattle.text_read_item.proofs.value_at.Statement.{statement}
use Rattle.text_read_item.proofs.value_at.Tie as tie

pub value_at_spec : {M : Type 1} → statement M
value_at_spec = tie.close (tie.spec (λ c κs. search rules) (λ c κs. search rules) (λ c. search (placed, rules)) (λ c κs. search rules)
    (λ c. search (placed, rules)))
