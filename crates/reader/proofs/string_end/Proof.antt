use Rattle.reader.proofs.Heads.{string_ways}
use borrow.Author.Rules.{rules}
use Rattle.reader.proofs.string_end.Statement.{statement}
use Rattle.reader.proofs.string_end.Tie as tie

pub string_end_spec : {M : Type 1} → statement M
string_end_spec = tie.close (tie.spec (λ c κs. search rules) (λ c. search (string_ways, rules)) (λ c κs. search rules)
    (λ c. search (string_ways, rules)) (λ c. search (string_ways, rules)))
