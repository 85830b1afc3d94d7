-- `reader::is_unordered` meets its contract: only keys are ordered.
use borrow.Author.Rules.{rules}
use Rattle.reader.proofs.Keys.{owns}
use Rattle.reader.proofs.is_unordered.Statement.{statement}
use Rattle.reader.proofs.is_unordered.Tie as tie

pub is_unordered_spec : {M : Type 1} → statement M
is_unordered_spec = tie.close (tie.spec (λ c κs. search rules) (λ c. search rules) (λ c. search (owns, rules)))
