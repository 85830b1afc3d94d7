-- `cbor::is_utf8` meets its contract: the loop stands behind ASCII bytes, and what is left decides.
use Rattle.cbor.proofs.TextWays.{Behind, texts}
use Prim.Native.Nat.{◌-◌}
use lib.ListN.{length}
use borrow.Author.Rules.{rules}
use Rattle.cbor.proofs.is_utf8.Statement.{statement}
use Rattle.cbor.proofs.is_utf8.Tie as tie

abbrev invariant-loop-i : tie.invariant-loop-i
invariant-loop-i s i₀ i = Behind s i

abbrev decreases-loop-i : tie.decreases-loop-i
decreases-loop-i s i₀ i = length s - i

pub is_utf8_spec : {M : Type 1} → statement M
is_utf8_spec = tie.close (tie.spec invariant-loop-i decreases-loop-i (λ c κs. search (texts, rules)) (λ c. search (texts, rules)) (λ c κs. search (texts, rules))
    (λ c. search (texts, rules)) (λ c. search (texts, rules)) (λ c κs. search (texts, rules)) (λ c. search (texts, rules))
    (λ c. search (texts, rules)) (λ c. search (texts, rules)))
