-- `answer_codes::held_code` meets its contract: number beside number.
use borrow.Author.Rules.{rules}
use Rattle.answer_codes.specs.Code.{held_code}
use Rattle.answer_codes.proofs.held_code.Statement.{statement}
use Rattle.answer_codes.proofs.held_code.Tie as tie

pub held_code_spec : {M : Type 1} → statement M
unfolding held_code
held_code_spec = tie.close (tie.spec (λ c κs. search rules) (λ c. search rules) (λ c. search rules) (λ c κs. search rules) (λ c. search rules)
    (λ c. search rules) (λ c κs. search rules) (λ c. search rules) (λ c. search rules))
