-- `reader::falls` meets its contract: test 11 alone looks at the key before.
use Rattle.buffer.proofs.ByteLaws.{all_bytes}
use Rattle.reader.proofs.Heads.{any_key}
use borrow.Author.Rules.{rules}
use Rattle.reader.proofs.falls.Statement.{statement}
use Rattle.reader.proofs.falls.Tie as tie

pub falls_spec : {M : Type 1} → statement M
falls_spec =
    tie.close (tie.spec (λ c κs. search rules) (λ c κs. search rules) (λ c κs. search rules) (λ c. search (any_key, all_bytes, rules)))
