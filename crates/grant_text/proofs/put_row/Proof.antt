-- `grant_text::put_row` meets its contract.
use Rattle.grant_text.proofs.Whole.{whole}
use borrow.Author.Rules.{rules}
use Rattle.grant_text.proofs.put_row.Statement.{statement}
use Rattle.grant_text.proofs.put_row.Tie as tie

pub put_row_spec : {M : Type 1} → statement M
put_row_spec = tie.close (tie.spec (λ c κs. search (whole, rules)) (λ c. search (whole, rules)) (λ c κs. search (whole, rules))
    (λ c. search (whole, rules)) (λ c. search (whole, rules)))
