-- `composer::put_opening` meets its contract: three heads.
use borrow.Author.Rules.{rules}
use Rattle.composer.proofs.Ways.{fronts}
use Rattle.composer.proofs.put_opening.Statement.{statement}
use Rattle.composer.proofs.put_opening.Tie as tie

pub put_opening_spec : {M : Type 1} → statement M
put_opening_spec =
    tie.close (tie.spec (λ c κs. search rules) (λ c κs. search rules) (λ c κs. search rules) (λ c. search rules) (λ c. search (fronts, rules)))
