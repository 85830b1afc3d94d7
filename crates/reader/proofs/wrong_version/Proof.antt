-- `reader::wrong_version` meets its contract: only the version asks for 1.
use borrow.Author.Rules.{rules}
use Rattle.reader.proofs.Keys.{owns}
use Rattle.reader.proofs.wrong_version.Statement.{statement}
use Rattle.reader.proofs.wrong_version.Tie as tie

pub wrong_version_spec : {M : Type 1} → statement M
wrong_version_spec = tie.close (tie.spec (λ c. search (owns, rules)) (λ c. search (owns, rules)))
