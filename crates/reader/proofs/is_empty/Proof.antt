-- `reader::is_empty` meets its contract: only parameters ask for members.
use borrow.Author.Rules.{rules}
use Rattle.reader.proofs.Keys.{owns}
use Rattle.reader.proofs.is_empty.Statement.{statement}
use Rattle.reader.proofs.is_empty.Tie as tie

pub is_empty_spec : {M : Type 1} → statement M
is_empty_spec = tie.close (tie.spec (λ c. search (owns, rules)) (λ c. search (owns, rules)))
