use Rattle.text_write_item.proofs.Puts.{puts}
use borrow.Author.Rules.{rules}
use Rattle.text_write_item.proofs.hex_digit.Statement.{statement}
use Rattle.text_write_item.proofs.hex_digit.Tie as tie

pub hex_digit_spec : {M : Type 1} → statement M
hex_digit_spec = tie.close (tie.spec (λ c. search rules) (λ c. search (puts, rules)) (λ c. search rules) (λ c. search (puts, rules)))
