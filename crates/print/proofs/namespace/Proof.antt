-- `print::namespace` meets its contract.
use Rattle.print.proofs.Lined.{spaces}
use borrow.Author.Rules.{rules}
use Rattle.print.proofs.namespace.Statement.{statement}
use Rattle.print.proofs.namespace.Tie as tie

pub namespace_spec : {M : Type 1} → statement M
namespace_spec = tie.close (tie.spec (λ c κs. search spaces) (λ c. search spaces) (λ c. search spaces)
    (λ c κs. search spaces) (λ c. search spaces) (λ c. search spaces) (λ c κs. search spaces)
    (λ c. search spaces) (λ c. search spaces))
