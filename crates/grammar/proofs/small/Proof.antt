-- `grammar::small`: at each number the arguments below 32 are those of the range, which antt computes arm by arm.
use mathlib.Core.Path.{refl}
use mathlib.Core.List.{[], ◌∷◌}
use native.Mathlib.Omega.{arith}
use Rattle.ari.specs.Table.{types}
use Rattle.grammar.specs.Words.{ranges, small_of}
use Rattle.grammar.proofs.Hits.{arm, left_over}
use Rattle.grammar.proofs.Ranges.{evens, odds, keys}
use Rattle.grammar.proofs.small.Statement.{statement}
use Rattle.grammar.proofs.small.Tie as tie

pub small_spec : {M : Type 1} → statement M
unfolding ranges types
small_spec = tie.close (tie.spec (λ c. arm small_of _ (0 ∷ []) _ refl c.in-0.is) (λ c. arm small_of _ (1 ∷ []) _ refl c.in-1.is)
    (λ c. arm small_of _ (2 ∷ []) _ refl c.in-2.is) (λ c. arm small_of _ (3 ∷ []) _ refl c.in-3.is)
    (λ c. arm small_of _ (4 ∷ []) _ refl c.in-4.is) (λ c. arm small_of _ (5 ∷ []) _ refl c.in-5.is)
    (λ c. arm small_of _ (6 ∷ []) _ refl c.in-6.is) (λ c. arm small_of _ (7 ∷ []) _ refl c.in-7.is)
    (λ c. arm small_of _ (8 ∷ []) _ refl c.in-8.is) (λ c. arm small_of _ (9 ∷ []) _ refl c.in-9.is)
    (λ c. arm small_of _ (10 ∷ []) _ refl c.in-10.is) (λ c. arm small_of _ (11 ∷ []) _ refl c.in-11.is)
    (λ c. arm small_of _ (12 ∷ []) _ refl c.in-12.is) (λ c. arm small_of _ (13 ∷ []) _ refl c.in-13.is)
    (λ c. arm small_of _ (14 ∷ []) _ refl c.in-14.is) (λ c. arm small_of _ (15 ∷ []) _ refl c.in-15.is)
    (λ c. arm small_of _ (16 ∷ []) _ refl c.in-16.is) (λ c. arm small_of _ (17 ∷ []) _ refl c.in-17.is)
    (λ c. arm small_of _ evens _ refl c.in-18.is) (λ c. arm small_of _ odds _ refl c.in-19.is)
    (λ c. absurd (let h = left_over 32 keys _ refl c.in_default.in_default-own.rest in omega arith)))
