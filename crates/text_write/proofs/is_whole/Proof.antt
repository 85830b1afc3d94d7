-- `text_write::is_whole` meets its contract: the bits are computed.
use Rattle.text_write.proofs.Forming.{forming}
use borrow.Author.Rules.{rules}
use Rattle.text_write.proofs.is_whole.Statement.{statement}
use Rattle.text_write.proofs.is_whole.Tie as tie

pub is_whole_spec : {M : Type 1} → statement M
is_whole_spec = tie.close (tie.spec (λ c. search rules) (λ c. search rules) (λ c. search (forming, rules)))
