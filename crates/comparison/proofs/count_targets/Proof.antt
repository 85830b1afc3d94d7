-- `comparison::count_targets` meets its contract: what is counted, and the words from k on, are all.
use Prim.Native.Nat.{◌-◌, ◌≤◌}
use lib.ListN.{length}
use Rattle.comparison.proofs.Words.{Counted, counts}
use borrow.Author.Rules.{rules}
use Rattle.comparison.proofs.count_targets.Statement.{statement}
use Rattle.comparison.proofs.count_targets.Tie as tie

abbrev invariant-loop-k : tie.invariant-loop-k
invariant-loop-k entries count₀ k₀ count k = (k ≤ length entries) × (count ≤ k) × Counted entries k count

abbrev decreases-loop-k : tie.decreases-loop-k
decreases-loop-k entries count₀ k₀ count k = length entries - k

pub count_targets_spec : {M : Type 1} → statement M
count_targets_spec = tie.close (tie.spec invariant-loop-k decreases-loop-k (λ c. search (counts, rules)) (λ c. search (counts, rules)) (λ c. search (counts, rules))
    (λ c. search (counts, rules)) (λ c κs. search (counts, rules)) (λ c. search (counts, rules)) (λ c. search (counts, rules))
    (λ c. search (counts, rules)) (λ c. search (counts, rules)) (λ c. search (counts, rules)) (λ c. search (counts, rules)))
