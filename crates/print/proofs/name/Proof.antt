-- `print::name` meets its contract.
use Rattle.print.proofs.Lined.{lined}
use borrow.Author.Rules.{rules}
use Rattle.print.proofs.name.Statement.{statement}
use Rattle.print.proofs.name.Tie as tie

pub name_spec : {M : Type 1} → statement M
name_spec = tie.close (tie.spec (λ c κs. search (lined, rules)) (λ c. search (lined, rules)) (λ c. search (lined, rules)) (λ c. search (lined, rules))
    (λ c. search (lined, rules)) (λ c. search (lined, rules)) (λ c. search (lined, rules)) (λ c. search (lined, rules)) (λ c. search (lined, rules))
    (λ c. search (lined, rules)) (λ c. search (lined, rules)) (λ c κs. search (lined, rules)) (λ c. search (lined, rules))
    (λ c. search (lined, rules)))
