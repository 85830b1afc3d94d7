-- `ari::cap` meets its contract: each limit by itself.
use borrow.Author.Rules.{rules}
use Rattle.ari.proofs.cap.Statement.{statement}
use Rattle.ari.proofs.cap.Tie as tie

pub cap_spec : {M : Type 1} → statement M
cap_spec = tie.close (tie.spec (λ c κs. search rules) (λ c κs. search rules) (λ c κs. search rules) (λ c κs. search rules) (λ c. (cc, search rules)))
