use Rattle.text_write_item.proofs.Spelled.{ways_through}
use borrow.Author.Rules.{rules}
use Rattle.text_write_item.proofs.put_label.Statement.{statement}
use Rattle.text_write_item.proofs.put_label.Tie as tie

pub put_label_spec : {M : Type 1} → statement M
put_label_spec = tie.close (tie.spec (λ c κs. search rules) (λ c κs. search rules) (λ c. search rules) (λ c. search (ways_through, rules))
    (λ c κs. search rules) (λ c. search rules) (λ c. search (ways_through, rules)))
