use Rattle.text_write_item.proofs.Puts.{puts}
use borrow.Author.Rules.{rules}
use Rattle.text_write_item.proofs.put_escaped.Statement.{statement}
use Rattle.text_write_item.proofs.put_escaped.Tie as tie

pub put_escaped_spec : {M : Type 1} → statement M
put_escaped_spec = tie.close (tie.spec (λ c κs. search rules) (λ c κs. search rules) (λ c. search rules) (λ c. search (puts, rules))
    (λ c κs. search rules) (λ c κs. search rules) (λ c. search rules) (λ c. search (puts, rules)))
