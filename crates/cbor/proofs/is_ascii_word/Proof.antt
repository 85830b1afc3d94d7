-- `cbor::is_ascii_word` meets its contract: by the high bits.
use Rattle.cbor.proofs.AsciiWays.{asciis}
use borrow.Author.Rules.{rules}
use Rattle.cbor.proofs.is_ascii_word.Statement.{statement}
use Rattle.cbor.proofs.is_ascii_word.Tie as tie

pub is_ascii_word_spec : {M : Type 1} → statement M
is_ascii_word_spec = tie.close (tie.spec (λ c κs. search (asciis, rules)) (λ c. search (asciis, rules)))
