-- `reader::keep` meets its contract: no table of references.
use borrow.Author.Rules.{rules}
use Rattle.reader.proofs.keep.Statement.{statement}
use Rattle.reader.proofs.keep.Tie as tie

pub keep_spec : {M : Type 1} → statement M
keep_spec = tie.close (tie.spec (λ c. search rules) (λ c. search rules) (λ c. search rules) (λ c κs. search rules) (λ c. search rules)
    (λ c. search rules))
