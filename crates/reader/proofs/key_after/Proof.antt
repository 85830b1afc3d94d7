-- `reader::key_after` meets its contract: by the slot's own test.
use borrow.Author.Rules.{rules}
use Rattle.reader.proofs.key_after.Statement.{statement}
use Rattle.reader.proofs.key_after.Tie as tie

pub key_after_spec : {M : Type 1} → statement M
key_after_spec = tie.close (tie.spec (λ c κs. search rules) (λ c κs. search rules) (λ c. search rules))
