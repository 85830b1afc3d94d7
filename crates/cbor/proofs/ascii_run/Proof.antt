-- `cbor::ascii_run` meets its contract: a run, byte by byte.
use Prim.Native.Nat.{◌-◌}
use lib.ListN.{length}
use Rattle.buffer.proofs.RunLaws.{Ahead}
use Rattle.cbor.specs.Utf8.{is_ascii}
use Rattle.cbor.proofs.TextWays.{texts}
use Rattle.cbor.proofs.AsciiWays.{asciis}
use borrow.Author.Rules.{rules}
use Rattle.cbor.proofs.ascii_run.Statement.{statement}
use Rattle.cbor.proofs.ascii_run.Tie as tie

abbrev invariant-loop-i : tie.invariant-loop-i
invariant-loop-i s at i₀ i = Ahead is_ascii s at i

abbrev decreases-loop-i : tie.decreases-loop-i
decreases-loop-i s at i₀ i = length s - i

pub ascii_run_spec : {M : Type 1} → statement M
ascii_run_spec = tie.close (tie.spec invariant-loop-i decreases-loop-i (λ c κs. search (asciis, texts, rules)) (λ c κs. search (asciis, texts, rules))
    (λ c. search (asciis, texts, rules)) (λ c. search (asciis, texts, rules)) (λ c. search (asciis, texts, rules))
    (λ c. search (asciis, texts, rules)) (λ c. search (asciis, texts, rules)) (λ c. search (asciis, texts, rules))
    (λ c. search (asciis, texts, rules)))
