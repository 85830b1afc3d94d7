-- `names::renumber` meets its contract: kind and word of a number, or nothing.
use Rattle.names.proofs.Translation.{translations}
use borrow.Author.Rules.{rules}
use Rattle.names.proofs.renumber.Statement.{statement}
use Rattle.names.proofs.renumber.Tie as tie

pub renumber_spec : {M : Type 1} → statement M
renumber_spec = tie.close (tie.spec (λ c. search rules) (λ c. search rules) (λ c κs. search rules) (λ c. search rules) (λ c κs. search rules)
    (λ c. search rules) (λ c. search rules) (λ c. search (translations, rules)) (λ c. search rules))
