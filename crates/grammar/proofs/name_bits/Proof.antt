-- `grammar::name_bits`: an arm for each number of two bits.
use Prim.Native.Nat.{◌/◌, ◌<◌}
use mathlib.Core.Path.{refl}
use mathlib.Core.List.{[], ◌∷◌}
use native.Mathlib.Omega.{arith}
use Rattle.grammar.proofs.Hits.{arms, left_over}
use Rattle.grammar.proofs.NameWays.{name_word}
use Rattle.grammar.proofs.name_bits.Statement.{statement}
use Rattle.grammar.proofs.name_bits.Tie as tie

pub name_bits_spec : {M : Type 1} → statement M
name_bits_spec = tie.close (tie.spec (λ c. name_word 0 (omega arith) _ c.in-0.is) (λ c. name_word 1 (omega arith) _ c.in-1.is)
    (λ c. name_word 2 (omega arith) _ c.in-2.is) (λ c. name_word 3 (omega arith) _ c.in-3.is)
    (λ c. absurd (let h = left_over 4 (arms (λ k. k ∷ []) 0 4) _ refl c.in_default.in_default-own.rest in let x = c.before.requires in omega arith)))
