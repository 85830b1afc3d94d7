use Rattle.text_write_item.proofs.Puts.{puts}
use borrow.Author.Rules.{rules}
use Rattle.text_write_item.proofs.put_hex.Statement.{statement}
use Rattle.text_write_item.proofs.put_hex.Tie as tie

pub put_hex_spec : {M : Type 1} → statement M
put_hex_spec = tie.close (tie.spec (λ c κs. search rules) (λ c κs. search rules) (λ c κs. search rules) (λ c κs. search rules) (λ c. search rules)
    (λ c. search (puts, rules)))
