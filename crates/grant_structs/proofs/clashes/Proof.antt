-- `grant_structs::clashes` meets its contract: by the subscribers, then by the namespace's sign.
use borrow.Author.Rules.{rules}
use Rattle.grant_structs.proofs.Decided.{clash_same, clash_by, clash_positive}
use Rattle.grant_structs.proofs.clashes.Statement.{statement}
use Rattle.grant_structs.proofs.clashes.Tie as tie

pub clashes_spec : {M : Type 1} → statement M
clashes_spec = tie.close (tie.spec (λ c. search (clash_same, rules)) (λ c. search (clash_by, rules)) (λ c. search (clash_positive, rules)))
