use Rattle.reader.proofs.Heads.{string_ways}
use borrow.Author.Rules.{rules}
use Rattle.reader.proofs.end_of.Statement.{statement}
use Rattle.reader.proofs.end_of.Tie as tie

pub end_of_spec : {M : Type 1} → statement M
end_of_spec = tie.close (tie.spec (λ c κs. search rules) (λ c. search (string_ways, rules)) (λ c. search rules) (λ c. search (string_ways, rules)))
