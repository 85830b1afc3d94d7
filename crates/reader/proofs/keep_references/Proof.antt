-- `reader::keep_references` meets its contract: no table of items, and the other from its start.
use borrow.Author.Rules.{rules}
use Rattle.reader.proofs.Whole.{noted_from}
use Rattle.reader.proofs.keep_references.Statement.{statement}
use Rattle.reader.proofs.keep_references.Tie as tie

pub keep_references_spec : {M : Type 1} → statement M
keep_references_spec = tie.close (tie.spec (λ c κs. search rules) (λ c. search rules) (λ c. search rules) (λ c. search rules)
    (λ c κs. search rules) (λ c. search rules) (λ c. (search rules, search (noted_from, rules))))
