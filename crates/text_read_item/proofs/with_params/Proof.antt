use Rattle.text_read_item.proofs.Found.{found}
use borrow.Author.Rules.{rules}
use Rattle.text_read_item.proofs.with_params.Statement.{statement}
use Rattle.text_read_item.proofs.with_params.Tie as tie

pub with_params_spec : {M : Type 1} → statement M
with_params_spec = tie.close (tie.spec (λ c κs. search rules) (λ c κs. search rules) (λ c κs. search rules) (λ c κs. search rules)
    (λ c. search (found, rules)))
