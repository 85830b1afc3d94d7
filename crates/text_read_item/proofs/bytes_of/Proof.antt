use Rattle.text_read_item.proofs.Found.{found}
use borrow.Author.Rules.{rules}
use Rattle.text_read_item.proofs.bytes_of.Statement.{statement}
use Rattle.text_read_item.proofs.bytes_of.Tie as tie

pub bytes_of_spec : {M : Type 1} → statement M
bytes_of_spec = tie.close (tie.spec (λ c. search rules) (λ c κs. search rules) (λ c. search (found, rules)) (λ c. search rules) (λ c. search rules)
    (λ c. search rules) (λ c. search rules) (λ c. search (found, rules)))
