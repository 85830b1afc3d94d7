-- `why_held::slot_meaning` meets its contract: at each number the meaning of its slot, which antt computes arm by arm; beyond them all is as the version.
use Prim.Native.Nat.{ℕ}
use mathlib.Core.Path.{refl, ap}
use mathlib.Core.List.{List, [], ◌∷◌}
use lib.ListN.{get_or}
use Rattle.grammar.specs.Code.{slot_of}
use Rattle.grammar.proofs.Hits.{arm, left_over}
use Rattle.grammar.proofs.Right.{no_slot}
use Rattle.why_held.specs.Chain.{slot_meaning}
use Rattle.why_held.proofs.slot_meaning.Statement.{statement}
use Rattle.why_held.proofs.slot_meaning.Tie as tie

abbrev meaning : ℕ → ℕ
meaning i = slot_meaning (slot_of i)

-- the arms' numbers
abbrev keys : List (List ℕ)
keys =
    (0 ∷ 5 ∷ 7 ∷ 9 ∷ 11 ∷ 13 ∷ 15 ∷ 17 ∷ 21 ∷ 23 ∷ 26 ∷ [])
    ∷ (6 ∷ 8 ∷ 10 ∷ 12 ∷ 14 ∷ 18 ∷ 22 ∷ [])
    ∷ (1 ∷ 3 ∷ [])
    ∷ (4 ∷ [])
    ∷ (2 ∷ [])
    ∷ (16 ∷ [])
    ∷ (19 ∷ [])
    ∷ (20 ∷ [])
    ∷ (24 ∷ [])
    ∷ (25 ∷ [])
    ∷ (27 ∷ [])
    ∷ (28 ∷ 30 ∷ 32 ∷ 34 ∷ 36 ∷ 38 ∷ 40 ∷ 42 ∷ 44 ∷ 46 ∷ 48 ∷ 50 ∷ 52 ∷ 54 ∷ 56 ∷ 58 ∷ 60 ∷ 62 ∷ 64 ∷ 66 ∷ 68 ∷ 70 ∷ [])
    ∷ (29 ∷ 31 ∷ 33 ∷ 35 ∷ 37 ∷ 39 ∷ 41 ∷ 43 ∷ 45 ∷ 47 ∷ 49 ∷ 51 ∷ 53 ∷ 55 ∷ 57 ∷ 59 ∷ 61 ∷ 63 ∷ 65 ∷ 67 ∷ 69 ∷ 71 ∷ [])
    ∷ []

abbrev key : ℕ → List ℕ
key n = get_or keys n []

pub slot_meaning_spec : {M : Type 1} → statement M
unfolding slot_meaning
slot_meaning_spec = tie.close (tie.spec (λ c. arm meaning _ (key 0) _ refl c.in-0.is) (λ c. arm meaning _ (key 1) _ refl c.in-6.is)
    (λ c. arm meaning _ (key 2) _ refl c.in-1.is) (λ c. arm meaning _ (key 3) _ refl c.in-4.is)
    (λ c. arm meaning _ (key 4) _ refl c.in-2.is) (λ c. arm meaning _ (key 5) _ refl c.in-16.is)
    (λ c. arm meaning _ (key 6) _ refl c.in-19.is) (λ c. arm meaning _ (key 7) _ refl c.in-20.is)
    (λ c. arm meaning _ (key 8) _ refl c.in-24.is) (λ c. arm meaning _ (key 9) _ refl c.in-25.is)
    (λ c. arm meaning _ (key 10) _ refl c.in-27.is) (λ c. arm meaning _ (key 11) _ refl c.in-28.is)
    (λ c. arm meaning _ (key 12) _ refl c.in-29.is) (λ c. ap slot_meaning (no_slot _ (left_over 72 keys _ refl c.in_default.in_default-own.rest))))
