use Rattle.text_write_item.proofs.Puts.{puts}
use borrow.Author.Rules.{rules}
use Rattle.text_write_item.proofs.put_integer.Statement.{statement}
use Rattle.text_write_item.proofs.put_integer.Tie as tie

pub put_integer_spec : {M : Type 1} → statement M
put_integer_spec = tie.close (tie.spec (λ c κs. search rules) (λ c. search rules) (λ c. search (puts, rules)) (λ c κs. search rules)
    (λ c. search rules) (λ c. search (puts, rules)))
