-- `why_held::find` meets its contract. The invariant: the entry is, from item k on, the one with so many before it.
use Prim.Native.Nat.{◌-◌, ◌≤◌}
use borrow.Author.Rules.{rules}
use Rattle.why_held.proofs.Finding.{Ahead, findings}
use Rattle.why_held.proofs.find.Statement.{statement}
use Rattle.why_held.proofs.find.Tie as tie

abbrev invariant-loop-k : tie.invariant-loop-k
invariant-loop-k s count entries published own entry left₀ k₀ left k = (k ≤ count) × Ahead s published own entry left k

abbrev decreases-loop-k : tie.decreases-loop-k
decreases-loop-k s count entries published own entry left₀ k₀ left k = count - k

pub find_spec : {M : Type 1} → statement M
find_spec = tie.close (tie.spec invariant-loop-k decreases-loop-k (λ c. search (findings, rules)) (λ c. search rules) (λ c. search rules) (λ c κs. search rules)
    (λ c. search rules) (λ c. search rules) (λ c. search rules) (λ c. search (findings, rules)) (λ c. search rules) (λ c κs. search rules)
    (λ c κs. search rules) (λ c. search (findings, rules)) (λ c. search rules) (λ c. search rules) (λ c. search rules) (λ c. search (findings, rules))
    (λ c. search (findings, rules)))
