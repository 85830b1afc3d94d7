-- `reader::key_by` meets its contract: only a key moves the span.
use borrow.Author.Rules.{rules}
use Rattle.reader.proofs.Keys.{new_span, old_span}
use Rattle.reader.proofs.key_by.Statement.{statement}
use Rattle.reader.proofs.key_by.Tie as tie

pub key_by_spec : {M : Type 1} → statement M
key_by_spec = tie.close (tie.spec (λ c. search (new_span, rules)) (λ c. search (old_span, rules)))
