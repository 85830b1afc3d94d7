use Rattle.text_write_item.proofs.Puts.{puts}
use borrow.Author.Rules.{rules}
use Rattle.text_write_item.proofs.put_name.Statement.{statement}
use Rattle.text_write_item.proofs.put_name.Tie as tie

pub put_name_spec : {M : Type 1} → statement M
put_name_spec =
    tie.close
    (tie.spec (λ c κs. search rules) (λ c. search rules) (λ c. search (puts, rules)) (λ c κs. search rules) (λ c. search rules) (λ c. search (puts, rules)))
