use Rattle.text_read_item.proofs.Leaves.{counting}
use borrow.Author.Rules.{rules}
use Rattle.text_read_item.proofs.opened.Statement.{statement}
use Rattle.text_read_item.proofs.opened.Tie as tie

pub opened_spec : {M : Type 1} → statement M
opened_spec = tie.close (tie.spec (λ c. (search (counting, rules), search rules)) (λ c. search rules) (λ c. search rules)
    (λ c. (search (counting, rules), search rules)) (λ c. (search (counting, rules), search rules)) (λ c. (search (counting, rules), search rules)))
