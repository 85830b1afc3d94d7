-- `reader::key_ends` meets its contract: what is no part of the input is no key.
use borrow.Author.Rules.{rules}
use Rattle.reader.proofs.Heads.{any_key}
use Rattle.reader.proofs.key_ends.Statement.{statement}
use Rattle.reader.proofs.key_ends.Tie as tie

pub key_ends_spec : {M : Type 1} → statement M
key_ends_spec = tie.close (tie.spec (λ c. search (any_key, rules)) (λ c. search (any_key, rules)) (λ c. search (any_key, rules)))
