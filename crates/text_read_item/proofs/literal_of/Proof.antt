use Rattle.text_read_item.proofs.Found.{literal_by, literals}
use borrow.Author.Rules.{rules}
use Rattle.text_read_item.proofs.literal_of.Statement.{statement}
use Rattle.text_read_item.proofs.literal_of.Tie as tie

pub literal_of_spec : {M : Type 1} → statement M
unfolding literal_by
literal_of_spec = tie.close (tie.spec (λ c. search rules) (λ c. search rules) (λ c. search rules) (λ c κs. search rules) (λ c κs. search rules)
    (λ c κs. search rules) (λ c κs. search rules) (λ c κs. search rules) (λ c κs. search rules) (λ c κs. search rules) (λ c κs. search rules)
    (λ c. search (literals, rules)) (λ c. search (literals, rules)) (λ c. search (literals, rules)) (λ c. search (literals, rules))
    (λ c. search (literals, rules)) (λ c. search (literals, rules)) (λ c. search (literals, rules)))
