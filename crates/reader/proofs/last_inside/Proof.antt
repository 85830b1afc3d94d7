-- `reader::last_inside` meets its contract: nothing is due behind the head, and no table has room for it.
use borrow.Author.Rules.{rules}
use Rattle.reader.proofs.last_inside.Statement.{statement}
use Rattle.reader.proofs.last_inside.Tie as tie

pub last_inside_spec : {M : Type 1} → statement M
last_inside_spec = tie.close (tie.spec (λ c. search rules) (λ c. search rules) (λ c. search rules) (λ c. search rules) (λ c. search rules)
    (λ c κs. search rules) (λ c. search rules) (λ c. search rules) (λ c. (search rules, (cc), search rules, search rules)) (λ c. search rules))
