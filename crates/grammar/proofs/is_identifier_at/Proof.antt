use borrow.Author.Rules.{rules}
use Rattle.grammar.proofs.NameWays.{names}
use Prim.Native.Nat.{◌+◌, ◌-◌, ◌≤◌}
use mathlib.Core.Path.{◌≡◌}
use lib.ListN.{length, drop}
use Rattle.buffer.specs.Bytes.{all}
use Rattle.ari.specs.Name.{continues_name}
use Rattle.grammar.proofs.is_identifier_at.Statement.{statement}
use Rattle.grammar.proofs.is_identifier_at.Tie as tie

abbrev invariant-loop-i : tie.invariant-loop-i
invariant-loop-i s at i₀ i = (i ≤ length s) × (all continues_name (drop (at + 1) s) ≡ all continues_name (drop i s))

abbrev decreases-loop-i : tie.decreases-loop-i
decreases-loop-i s at i₀ i = length s - i

pub is_identifier_at_spec : {M : Type 1} → statement M
is_identifier_at_spec = tie.close (tie.spec invariant-loop-i decreases-loop-i (λ c. search (names, rules)) (λ c. search (names, rules)) (λ c. search (names, rules))
    (λ c. search (names, rules)) (λ c κs. search (names, rules)) (λ c. search (names, rules)) (λ c. search (names, rules))
    (λ c. search (names, rules)) (λ c κs. search (names, rules)) (λ c. search (names, rules)) (λ c. search (names, rules))
    (λ c. search (names, rules)) (λ c. search (names, rules)) (λ c. search (names, rules)) (λ c. search (names, rules)))
