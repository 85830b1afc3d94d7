use Rattle.text_write_item.proofs.Spelled.{ways_through}
use borrow.Author.Rules.{rules}
use Rattle.text_write_item.proofs.put_value.Statement.{statement}
use Rattle.text_write_item.proofs.put_value.Tie as tie

pub put_value_spec : {M : Type 1} → statement M
put_value_spec = tie.close (tie.spec (λ c κs. search rules) (λ c κs. search rules) (λ c. search rules) (λ c. search (ways_through, rules))
    (λ c κs. search rules) (λ c. search rules) (λ c. search (ways_through, rules)))
