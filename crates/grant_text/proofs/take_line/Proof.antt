-- `grant_text::take_line` meets its contract.
use Rattle.grant_text.proofs.Whole.{whole}
use borrow.Author.Rules.{rules}
use Rattle.grant_text.proofs.take_line.Statement.{statement}
use Rattle.grant_text.proofs.take_line.Tie as tie

pub take_line_spec : {M : Type 1} → statement M
take_line_spec = tie.close (tie.spec (λ c κs. search (whole, rules)) (λ c. search (whole, rules)) (λ c. search (whole, rules))
    (λ c. search (whole, rules)) (λ c κs. search (whole, rules)) (λ c. search (whole, rules)) (λ c. search (whole, rules))
    (λ c. search (whole, rules)))
