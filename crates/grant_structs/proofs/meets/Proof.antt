-- `grant_structs::meets` meets its contract: by the test that is asked for.
use borrow.Author.Rules.{rules}
use Rattle.grant_structs.proofs.Decided.{meets_clash, meets_holds}
use Rattle.grant_structs.proofs.meets.Statement.{statement}
use Rattle.grant_structs.proofs.meets.Tie as tie

pub meets_spec : {M : Type 1} → statement M
meets_spec = tie.close (tie.spec (λ c κs. search rules) (λ c κs. search rules) (λ c. search (meets_clash, rules)) (λ c. search (meets_holds, rules)))
