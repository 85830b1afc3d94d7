-- `grammar::follow_word`: at each number the word means what the rule says, which antt computes arm by arm; beyond them all is as the version.
use Prim.Native.Nat.{ℕ}
use mathlib.Core.Path.{refl, ap}
use mathlib.Core.List.{List, [], ◌∷◌}
use Rattle.ari.specs.Table.{Slot, types, rule}
use Rattle.grammar.specs.Code.{slot_of}
use Rattle.grammar.specs.Words.{Follow, follow_means, follow_for}
use Rattle.grammar.proofs.Hits.{arm, left_over}
use Rattle.grammar.proofs.Right.{no_slot}
use Rattle.grammar.proofs.follow_word.Statement.{statement}
use Rattle.grammar.proofs.follow_word.Tie as tie

abbrev word : ℕ → Follow
word i = follow_for (rule (slot_of i))

-- those that nothing follows: the values, and with the even ones a namespace and an object id
abbrev evens : List ℕ
evens = 9 ∷ 14 ∷ 28 ∷ 30 ∷ 32 ∷ 34 ∷ 36 ∷ 38 ∷ 40 ∷ 42 ∷ 44 ∷ 46 ∷ 48 ∷ 50 ∷ 52 ∷ 54 ∷ 56 ∷ 58 ∷ 60 ∷ 62 ∷ 64 ∷ 66 ∷ 68 ∷ 70 ∷ []

abbrev odds : List ℕ
odds = 29 ∷ 31 ∷ 33 ∷ 35 ∷ 37 ∷ 39 ∷ 41 ∷ 43 ∷ 45 ∷ 47 ∷ 49 ∷ 51 ∷ 53 ∷ 55 ∷ 57 ∷ 59 ∷ 61 ∷ 63 ∷ 65 ∷ 67 ∷ 69 ∷ 71 ∷ []

-- the arms
abbrev keys : List (List ℕ)
keys = (0 ∷ []) ∷ (1 ∷ []) ∷ (2 ∷ []) ∷ (3 ∷ 27 ∷ []) ∷ (4 ∷ []) ∷ (5 ∷ 7 ∷ []) ∷ (6 ∷ []) ∷ (8 ∷ []) ∷ (10 ∷ []) ∷ (11 ∷ []) ∷ (12 ∷ []) ∷ (13 ∷ []) ∷ (15 ∷ []) ∷ (16 ∷ []) ∷ (17 ∷ []) ∷ (18 ∷ []) ∷ (19 ∷ []) ∷ (20 ∷ []) ∷ (21 ∷ 24 ∷ []) ∷ (22 ∷ []) ∷ (23 ∷ 25 ∷ []) ∷ (26 ∷ []) ∷ evens ∷ odds ∷ []

pub follow_word_spec : {M : Type 1} → statement M
unfolding types rule follow_means follow_for
follow_word_spec = tie.close (tie.spec (λ c. arm word _ (0 ∷ []) _ refl c.in-0.is) (λ c. arm word _ (1 ∷ []) _ refl c.in-1.is)
    (λ c. arm word _ (2 ∷ []) _ refl c.in-2.is) (λ c. arm word _ (3 ∷ 27 ∷ []) _ refl c.in-3.is)
    (λ c. arm word _ (4 ∷ []) _ refl c.in-4.is) (λ c. arm word _ (5 ∷ 7 ∷ []) _ refl c.in-5.is)
    (λ c. arm word _ (6 ∷ []) _ refl c.in-6.is) (λ c. arm word _ (8 ∷ []) _ refl c.in-8.is)
    (λ c. arm word _ (10 ∷ []) _ refl c.in-10.is) (λ c. arm word _ (11 ∷ []) _ refl c.in-11.is)
    (λ c. arm word _ (12 ∷ []) _ refl c.in-12.is) (λ c. arm word _ (13 ∷ []) _ refl c.in-13.is)
    (λ c. arm word _ (15 ∷ []) _ refl c.in-15.is) (λ c. arm word _ (16 ∷ []) _ refl c.in-16.is)
    (λ c. arm word _ (17 ∷ []) _ refl c.in-17.is) (λ c. arm word _ (18 ∷ []) _ refl c.in-18.is)
    (λ c. arm word _ (19 ∷ []) _ refl c.in-19.is) (λ c. arm word _ (20 ∷ []) _ refl c.in-20.is)
    (λ c. arm word _ (21 ∷ 24 ∷ []) _ refl c.in-21.is) (λ c. arm word _ (22 ∷ []) _ refl c.in-22.is)
    (λ c. arm word _ (23 ∷ 25 ∷ []) _ refl c.in-23.is) (λ c. arm word _ (26 ∷ []) _ refl c.in-26.is)
    (λ c. arm word _ evens _ refl c.in-9.is) (λ c. arm word _ odds _ refl c.in-29.is)
    (λ c. ap (λ (s : Slot). follow_for (rule s)) (no_slot _ (left_over 72 keys _ refl c.in_default.in_default-own.rest))))
