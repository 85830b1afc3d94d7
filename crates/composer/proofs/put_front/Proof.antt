-- `composer::put_front` meets its contract: the opening, a head and the nonce.
use borrow.Author.Rules.{rules}
use Rattle.composer.proofs.Ways.{fronts}
use Rattle.composer.proofs.put_front.Statement.{statement}
use Rattle.composer.proofs.put_front.Tie as tie

pub put_front_spec : {M : Type 1} → statement M
put_front_spec =
    tie.close
    (tie.spec (λ c κs. search rules) (λ c. search rules) (λ c κs. search rules) (λ c κs. search rules) (λ c. search rules) (λ c. search (fronts, rules)))
