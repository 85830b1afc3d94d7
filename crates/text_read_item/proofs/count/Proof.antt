use Rattle.text_read_item.proofs.Found.{found}
use borrow.Author.Rules.{rules}
use Rattle.text_read_item.proofs.count.Statement.{statement}
use Rattle.text_read_item.proofs.count.Tie as tie

pub count_spec : {M : Type 1} → statement M
count_spec = tie.close (tie.spec (λ c κs. search rules) (λ c. search (found, rules)) (λ c κs. search rules) (λ c. search rules)
    (λ c. search (found, rules)))
