-- `why_held::chain_to` meets its contract. The invariant: the links of the first k items stand in front of the room.
use Prim.Native.Nat.{◌-◌, ◌≤◌}
use borrow.Author.Rules.{rules}
use Rattle.why_held.proofs.Going.{Going, goings}
use Rattle.why_held.proofs.chain_to.Statement.{statement}
use Rattle.why_held.proofs.chain_to.Tie as tie

abbrev invariant-loop-k : tie.invariant-loop-k
invariant-loop-k s count entries first after links₀ n₀ around₀ before₀ k₀ links n around before k = (k ≤ count) × Going s first after links n around before k

abbrev decreases-loop-k : tie.decreases-loop-k
decreases-loop-k s count entries first after links₀ n₀ around₀ before₀ k₀ links n around before k = count - k

pub chain_to_spec : {M : Type 1} → statement M
chain_to_spec = tie.close (tie.spec invariant-loop-k decreases-loop-k (λ c. search (goings, rules)) (λ c. search rules) (λ c. search rules) (λ c κs. search rules)
    (λ c. search rules) (λ c κs. search rules) (λ c κs. search rules) (λ c. search (goings, rules)) (λ c. search (goings, rules))
    (λ c. search (goings, rules)) (λ c. search rules) (λ c. search (goings, rules)) (λ c. search rules) (λ c. search (goings, rules))
    (λ c. search rules) (λ c. search (goings, rules)) (λ c. search (goings, rules)))
