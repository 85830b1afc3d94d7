-- `text_read_item::number` meets its contract: a number that was read, or 0.
use Rattle.text_read_item.proofs.Leaves.{leaves}
use borrow.Author.Rules.{rules}
use Rattle.text_read_item.proofs.number.Statement.{statement}
use Rattle.text_read_item.proofs.number.Tie as tie

pub number_spec : {M : Type 1} → statement M
number_spec = tie.close (tie.spec (λ c. search (leaves, rules)) (λ c. search rules) (λ c. search rules) (λ c κs. search rules) (λ c. search rules)
    (λ c. search rules) (λ c. search (leaves, rules)) (λ c. search (leaves, rules)))
