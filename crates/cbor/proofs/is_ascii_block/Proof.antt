-- `cbor::is_ascii_block` meets its contract: eight by eight.
use Rattle.cbor.proofs.AsciiWays.{asciis}
use borrow.Author.Rules.{rules}
use Rattle.cbor.proofs.is_ascii_block.Statement.{statement}
use Rattle.cbor.proofs.is_ascii_block.Tie as tie

pub is_ascii_block_spec : {M : Type 1} → statement M
is_ascii_block_spec = tie.close (tie.spec (λ c κs. search (asciis, rules)) (λ c. search (asciis, rules)) (λ c. search (asciis, rules))
    (λ c κs. search (asciis, rules)) (λ c. search (asciis, rules)) (λ c. search (asciis, rules)) (λ c κs. search (asciis, rules))
    (λ c. search (asciis, rules)) (λ c. search (asciis, rules)) (λ c κs. search (asciis, rules)) (λ c. search (asciis, rules)))
