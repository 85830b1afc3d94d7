-- `reader::keep_both` meets its contract: a function for each input.
use borrow.Author.Rules.{rules}
use Rattle.reader.proofs.Whole.{of_input}
use Rattle.reader.proofs.keep_both.Statement.{statement}
use Rattle.reader.proofs.keep_both.Tie as tie

pub keep_both_spec : {M : Type 1} → statement M
keep_both_spec = tie.close (tie.spec (λ c. search rules) (λ c κs. search rules) (λ c. search rules) (λ c κs. search rules) (λ c. search rules)
    (λ c. search rules) (λ c. search (of_input, rules)) (λ c. search rules) (λ c. search rules) (λ c. search (of_input, rules)))
