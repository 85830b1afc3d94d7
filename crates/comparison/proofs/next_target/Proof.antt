-- `comparison::next_target` meets its contract: none is passed before k.
use Prim.Native.Nat.{◌-◌, ◌≤◌}
use lib.ListN.{length}
use Rattle.comparison.proofs.Words.{Looking, looks}
use borrow.Author.Rules.{rules}
use Rattle.comparison.proofs.next_target.Statement.{statement}
use Rattle.comparison.proofs.next_target.Tie as tie

abbrev invariant-loop-k : tie.invariant-loop-k
invariant-loop-k entries from k₀ k = (k ≤ length entries) × Looking entries from k

abbrev decreases-loop-k : tie.decreases-loop-k
decreases-loop-k entries from k₀ k = length entries - k

pub next_target_spec : {M : Type 1} → statement M
next_target_spec = tie.close (tie.spec invariant-loop-k decreases-loop-k (λ c. search (looks, rules)) (λ c. search (looks, rules)) (λ c. search (looks, rules))
    (λ c κs. search (looks, rules)) (λ c. search (looks, rules)) (λ c. search (looks, rules)) (λ c. search (looks, rules))
    (λ c. search (looks, rules)) (λ c. search (looks, rules)))
