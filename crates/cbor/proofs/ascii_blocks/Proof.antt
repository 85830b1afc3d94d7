-- `cbor::ascii_blocks` meets its contract: all before i are ASCII.
use Rattle.cbor.proofs.AsciiWays.{asciis}
use Prim.Native.Nat.{◌-◌}
use lib.ListN.{length}
use Rattle.cbor.specs.Utf8.{AsciiTo}
use borrow.Author.Rules.{rules}
use Rattle.cbor.proofs.ascii_blocks.Statement.{statement}
use Rattle.cbor.proofs.ascii_blocks.Tie as tie

abbrev invariant-loop-i : tie.invariant-loop-i
invariant-loop-i s at i₀ i = AsciiTo s at i

abbrev decreases-loop-i : tie.decreases-loop-i
decreases-loop-i s at i₀ i = length s - i

pub ascii_blocks_spec : {M : Type 1} → statement M
ascii_blocks_spec = tie.close (tie.spec invariant-loop-i decreases-loop-i (λ c. search (asciis, rules)) (λ c. search (asciis, rules)) (λ c κs. search (asciis, rules))
    (λ c. search (asciis, rules)) (λ c. search (asciis, rules)) (λ c. search (asciis, rules)) (λ c. search (asciis, rules))
    (λ c. search (asciis, rules)))
