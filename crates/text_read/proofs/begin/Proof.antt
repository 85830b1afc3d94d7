-- `text_read::begin` meets its contract: by the first byte.
use Rattle.text_read.proofs.Walking.{walking}
use borrow.Author.Rules.{rules}
use Rattle.text_read.proofs.begin.Statement.{statement}
use Rattle.text_read.proofs.begin.Tie as tie

pub begin_spec : {M : Type 1} → statement M
begin_spec = tie.close (tie.spec (λ c. search (walking, rules)) (λ c. search rules) (λ c. search (walking, rules)) (λ c κs. search rules)
    (λ c. search (walking, rules)))
