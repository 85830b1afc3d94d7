use Rattle.text_read_item.proofs.Found.{found}
use borrow.Author.Rules.{rules}
use Rattle.text_read_item.proofs.parts.Statement.{statement}
use Rattle.text_read_item.proofs.parts.Tie as tie

pub parts_spec : {M : Type 1} → statement M
parts_spec = tie.close (tie.spec (λ c. search (found, rules)) (λ c. search rules) (λ c κs. search rules) (λ c. search (found, rules))
    (λ c κs. search rules) (λ c. search (found, rules)) (λ c. search (found, rules)))
