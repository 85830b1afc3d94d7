-- `reader::is_too_deep` meets its contract: containers are of kind 4 and 5.
use borrow.Author.Rules.{rules}
use Rattle.reader.proofs.Heads.{deep_ways}
use Rattle.reader.proofs.is_too_deep.Statement.{statement}
use Rattle.reader.proofs.is_too_deep.Tie as tie

pub is_too_deep_spec : {M : Type 1} → statement M
is_too_deep_spec = tie.close (tie.spec (λ c. search (deep_ways, rules)) (λ c. search (deep_ways, rules)) (λ c. search (deep_ways, rules)))
