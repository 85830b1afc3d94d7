-- `reader::is_plain` meets its contract: the kind, then the slot's own test.
use borrow.Author.Rules.{rules}
use Rattle.reader.proofs.Plain.{plain_ways}
use Rattle.reader.proofs.is_plain.Statement.{statement}
use Rattle.reader.proofs.is_plain.Tie as tie

pub is_plain_spec : {M : Type 1} → statement M
is_plain_spec = tie.close (tie.spec (λ c κs. search rules) (λ c. search (plain_ways, rules)) (λ c. search (plain_ways, rules)))
