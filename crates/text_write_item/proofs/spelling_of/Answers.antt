-- At each number the spelling is that of the table, which antt computes arm by arm; beyond them all there is none.
use Prim.Native.Nat.{ℕ}
use mathlib.Core.Path.{◌≡◌, refl, sym}
use mathlib.Core.List.{List, [], ◌∷◌}
use lib.ListN.{get_or}
use Rattle.std.proofs.Common.{rules}
use Rattle.std.proofs.lemmas.List.{get_or_past}
use Rattle.grammar.proofs.Hits.{Left, arm, left_over}
use Rattle.text_write_item.specs.declared.Spelling.TheVariants.{Unspelled}
use Rattle.text_write_item.specs.Spellings.{spellings, spelling_at}
use Rattle.text_write_item.proofs.spelling_of.Goals as goal

-- the numbers of the arms
abbrev keys : List (List ℕ)
keys =
    (0 ∷ 21 ∷ 23 ∷ 25 ∷ 27 ∷ [])
    ∷ (22 ∷ 24 ∷ 26 ∷ [])
    ∷ (1 ∷ 3 ∷ 19 ∷ [])
    ∷ (2 ∷ 4 ∷ 20 ∷ [])
    ∷ (5 ∷ 7 ∷ [])
    ∷ (6 ∷ 8 ∷ [])
    ∷ (9 ∷ [])
    ∷ (10 ∷ [])
    ∷ (11 ∷ [])
    ∷ (12 ∷ [])
    ∷ (13 ∷ [])
    ∷ (14 ∷ [])
    ∷ (15 ∷ [])
    ∷ (16 ∷ [])
    ∷ (17 ∷ [])
    ∷ (18 ∷ [])
    ∷ (28 ∷ 30 ∷ 32 ∷ 34 ∷ 36 ∷ 38 ∷ 40 ∷ 44 ∷ 46 ∷ 48 ∷ [])
    ∷ (29 ∷ 31 ∷ 33 ∷ 35 ∷ 37 ∷ 39 ∷ 41 ∷ 43 ∷ 45 ∷ 47 ∷ 49 ∷ [])
    ∷ (50 ∷ 52 ∷ 54 ∷ 56 ∷ 58 ∷ 60 ∷ 62 ∷ 66 ∷ 68 ∷ 70 ∷ [])
    ∷ (51 ∷ 53 ∷ 55 ∷ 57 ∷ 59 ∷ 61 ∷ 63 ∷ 65 ∷ 67 ∷ 69 ∷ 71 ∷ [])
    ∷ (42 ∷ 64 ∷ [])
    ∷ []

abbrev key : ℕ → List ℕ
key n = get_or keys n []

pub returns-in-28 : goal.returns-in-28
returns-in-28 c = arm spelling_at _ (key 16) _ refl c.in-28.is

pub returns-in-29 : goal.returns-in-29
returns-in-29 c = arm spelling_at _ (key 17) _ refl c.in-29.is

pub returns-in-50 : goal.returns-in-50
returns-in-50 c = arm spelling_at _ (key 18) _ refl c.in-50.is

pub returns-in-51 : goal.returns-in-51
returns-in-51 c = arm spelling_at _ (key 19) _ refl c.in-51.is

beyond : (i : ℕ) → Left (Unit {0}) keys i → Unspelled ≡ spelling_at i
beyond i r = sym (get_or_past spellings i Unspelled (left_over 72 keys i refl r))

pub returns-in_default : goal.returns-in_default
returns-in_default c = search (beyond, rules)
