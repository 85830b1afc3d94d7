-- `grammar::walk_word`, as `rule_word`: at each number the word means what the rule says, which antt computes arm by arm; beyond them all is as the version.
use Prim.Native.Nat.{ℕ, ◌+◌}
use mathlib.Core.Path.{refl, ap}
use mathlib.Core.List.{List, [], ◌∷◌, ◌++◌}
use Rattle.ari.specs.Table.{Slot, types, rule}
use Rattle.grammar.specs.Code.{slot_of}
use Rattle.grammar.specs.Words.{follow_means, follow_for, Word, ranges, word_means, word_for}
use Rattle.grammar.proofs.Hits.{arm, arms, left_over}
use Rattle.grammar.proofs.Right.{no_slot}
use Rattle.grammar.proofs.walk_word.Statement.{statement}
use Rattle.grammar.proofs.walk_word.Tie as tie

abbrev word : ℕ → Word
word i = word_for (rule (slot_of i))

-- the arms: a number each, and two each for the values
abbrev keys : List (List ℕ)
keys = arms (λ k. k ∷ []) 0 28 ++ arms (λ k. k ∷ (k + 22) ∷ []) 28 22

pub walk_word_spec : {M : Type 1} → statement M
unfolding ranges word_means word_for follow_means follow_for rule types
walk_word_spec = tie.close (tie.spec (λ c. arm word _ (0 ∷ []) _ refl c.in-0.is) (λ c. arm word _ (1 ∷ []) _ refl c.in-1.is)
    (λ c. arm word _ (2 ∷ []) _ refl c.in-2.is) (λ c. arm word _ (3 ∷ []) _ refl c.in-3.is)
    (λ c. arm word _ (4 ∷ []) _ refl c.in-4.is) (λ c. arm word _ (5 ∷ []) _ refl c.in-5.is)
    (λ c. arm word _ (6 ∷ []) _ refl c.in-6.is) (λ c. arm word _ (7 ∷ []) _ refl c.in-7.is)
    (λ c. arm word _ (8 ∷ []) _ refl c.in-8.is) (λ c. arm word _ (9 ∷ []) _ refl c.in-9.is)
    (λ c. arm word _ (10 ∷ []) _ refl c.in-10.is) (λ c. arm word _ (11 ∷ []) _ refl c.in-11.is)
    (λ c. arm word _ (12 ∷ []) _ refl c.in-12.is) (λ c. arm word _ (13 ∷ []) _ refl c.in-13.is)
    (λ c. arm word _ (14 ∷ []) _ refl c.in-14.is) (λ c. arm word _ (15 ∷ []) _ refl c.in-15.is)
    (λ c. arm word _ (16 ∷ []) _ refl c.in-16.is) (λ c. arm word _ (17 ∷ []) _ refl c.in-17.is)
    (λ c. arm word _ (18 ∷ []) _ refl c.in-18.is) (λ c. arm word _ (19 ∷ []) _ refl c.in-19.is)
    (λ c. arm word _ (20 ∷ []) _ refl c.in-20.is) (λ c. arm word _ (21 ∷ []) _ refl c.in-21.is)
    (λ c. arm word _ (22 ∷ []) _ refl c.in-22.is) (λ c. arm word _ (23 ∷ []) _ refl c.in-23.is)
    (λ c. arm word _ (24 ∷ []) _ refl c.in-24.is) (λ c. arm word _ (25 ∷ []) _ refl c.in-25.is)
    (λ c. arm word _ (26 ∷ []) _ refl c.in-26.is) (λ c. arm word _ (27 ∷ []) _ refl c.in-27.is)
    (λ c. arm word _ (28 ∷ 50 ∷ []) _ refl c.in-28.is) (λ c. arm word _ (29 ∷ 51 ∷ []) _ refl c.in-29.is)
    (λ c. arm word _ (30 ∷ 52 ∷ []) _ refl c.in-30.is) (λ c. arm word _ (31 ∷ 53 ∷ []) _ refl c.in-31.is)
    (λ c. arm word _ (32 ∷ 54 ∷ []) _ refl c.in-32.is) (λ c. arm word _ (33 ∷ 55 ∷ []) _ refl c.in-33.is)
    (λ c. arm word _ (34 ∷ 56 ∷ []) _ refl c.in-34.is) (λ c. arm word _ (35 ∷ 57 ∷ []) _ refl c.in-35.is)
    (λ c. arm word _ (36 ∷ 58 ∷ []) _ refl c.in-36.is) (λ c. arm word _ (37 ∷ 59 ∷ []) _ refl c.in-37.is)
    (λ c. arm word _ (38 ∷ 60 ∷ []) _ refl c.in-38.is) (λ c. arm word _ (39 ∷ 61 ∷ []) _ refl c.in-39.is)
    (λ c. arm word _ (40 ∷ 62 ∷ []) _ refl c.in-40.is) (λ c. arm word _ (41 ∷ 63 ∷ []) _ refl c.in-41.is)
    (λ c. arm word _ (42 ∷ 64 ∷ []) _ refl c.in-42.is) (λ c. arm word _ (43 ∷ 65 ∷ []) _ refl c.in-43.is)
    (λ c. arm word _ (44 ∷ 66 ∷ []) _ refl c.in-44.is) (λ c. arm word _ (45 ∷ 67 ∷ []) _ refl c.in-45.is)
    (λ c. arm word _ (46 ∷ 68 ∷ []) _ refl c.in-46.is) (λ c. arm word _ (47 ∷ 69 ∷ []) _ refl c.in-47.is)
    (λ c. arm word _ (48 ∷ 70 ∷ []) _ refl c.in-48.is) (λ c. arm word _ (49 ∷ 71 ∷ []) _ refl c.in-49.is)
    (λ c. ap (λ (s : Slot). word_for (rule s)) (no_slot _ (left_over 72 keys _ refl c.in_default.in_default-own.rest))))
