-- What is due inside, slot by slot, and the numbers of each arm of the look-ups that say so: one for the walk alone, one for all others.
use Prim.Native.Nat.{ℕ}
use mathlib.Core.List.{List, [], ◌∷◌}
use lib.ListN.{get_or}
use Rattle.ari.specs.Table.{rule}
use Rattle.grammar.specs.Code.{slot_of}
use Rattle.grammar.specs.Words.{Inner, inner_for}

abbrev pub word : ℕ → Inner
word i = inner_for (rule (slot_of i))

-- the arms' numbers
abbrev pub keys : List (List ℕ)
keys =
    (0 ∷ 5 ∷ 7 ∷ 9 ∷ 11 ∷ 13 ∷ 15 ∷ 17 ∷ 21 ∷ 23 ∷ 26 ∷ [])
    ∷ (6 ∷ 8 ∷ 10 ∷ 12 ∷ 14 ∷ 18 ∷ 22 ∷ [])
    ∷ (1 ∷ [])
    ∷ (2 ∷ [])
    ∷ (3 ∷ 19 ∷ [])
    ∷ (4 ∷ 20 ∷ [])
    ∷ (24 ∷ 27 ∷ [])
    ∷ (25 ∷ [])
    ∷ (28 ∷ 30 ∷ 32 ∷ 34 ∷ 36 ∷ 38 ∷ 40 ∷ 42 ∷ 44 ∷ 46 ∷ [])
    ∷ (29 ∷ 31 ∷ 33 ∷ 35 ∷ 37 ∷ 39 ∷ 41 ∷ 43 ∷ 45 ∷ 47 ∷ [])
    ∷ (48 ∷ [])
    ∷ (49 ∷ [])
    ∷ (16 ∷ 50 ∷ 52 ∷ 54 ∷ 56 ∷ 58 ∷ 60 ∷ 62 ∷ 64 ∷ 66 ∷ 68 ∷ [])
    ∷ (51 ∷ 53 ∷ 55 ∷ 57 ∷ 59 ∷ 61 ∷ 63 ∷ 65 ∷ 67 ∷ 69 ∷ [])
    ∷ (70 ∷ [])
    ∷ (71 ∷ [])
    ∷ []

abbrev pub key : ℕ → List ℕ
key n = get_or keys n []
