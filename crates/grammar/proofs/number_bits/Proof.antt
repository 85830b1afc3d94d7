-- `grammar::number_bits`: at each number the bits are the bytes that the slot's rule takes, which antt computes arm by arm; beyond them all is as the version.
use Prim.Native.Nat.{ℕ, ◌/◌, ◌%◌}
use mathlib.Core.Path.{refl, ap}
use mathlib.Core.Bool.{Bool, ◌&&◌}
use mathlib.Core.List.{List, [], ◌∷◌}
use lib.ListN.{get_or}
use lib.Dec.{ltb, eqb}
use Rattle.ari.specs.Table.{Slot, types, rule, fits}
use Rattle.grammar.specs.Code.{slot_of, fits_code, extra_number}
use Rattle.grammar.specs.Words.{each, takes_number, numbers_of}
use Rattle.grammar.proofs.Hits.{arm, left_over}
use Rattle.grammar.proofs.Right.{no_slot}
use Rattle.grammar.proofs.number_bits.Statement.{statement}
use Rattle.grammar.proofs.number_bits.Tie as tie

-- the arms' numbers
abbrev keys : List (List ℕ)
keys =
    (1 ∷ 3 ∷ 9 ∷ 11 ∷ 19 ∷ 23 ∷ 41 ∷ 63 ∷ [])
    ∷ (4 ∷ 10 ∷ 20 ∷ 26 ∷ 32 ∷ 34 ∷ 40 ∷ 54 ∷ 56 ∷ 62 ∷ [])
    ∷ (5 ∷ [])
    ∷ (6 ∷ [])
    ∷ (7 ∷ [])
    ∷ (8 ∷ [])
    ∷ (12 ∷ [])
    ∷ (13 ∷ [])
    ∷ (14 ∷ 22 ∷ 30 ∷ 52 ∷ [])
    ∷ (15 ∷ 21 ∷ 33 ∷ 35 ∷ 55 ∷ 57 ∷ [])
    ∷ (0 ∷ 2 ∷ 16 ∷ 18 ∷ 24 ∷ 28 ∷ 36 ∷ 38 ∷ 42 ∷ 44 ∷ 46 ∷ 48 ∷ 50 ∷ 58 ∷ 60 ∷ 64 ∷ 66 ∷ 68 ∷ 70 ∷ [])
    ∷ (17 ∷ 25 ∷ 27 ∷ 29 ∷ 31 ∷ 37 ∷ 39 ∷ 43 ∷ 45 ∷ 47 ∷ 49 ∷ 51 ∷ 53 ∷ 59 ∷ 61 ∷ 65 ∷ 67 ∷ 69 ∷ 71 ∷ [])
    ∷ []

abbrev key : ℕ → List ℕ
key n = get_or keys n []

-- the bytes that a slot takes
abbrev none_of : Slot → List Bool
none_of s = each 56 (λ x. ltb x 56 && (ltb (x % 32) 24 && (eqb (extra_number (rule s).extra) 0 && fits (x / 32) (x % 32) (rule s).rows)))

pub number_bits_spec : {M : Type 1} → statement M
unfolding takes_number fits_code rule types
number_bits_spec = tie.close (tie.spec (λ c. arm numbers_of _ (key 0) _ refl c.in-1.is) (λ c. arm numbers_of _ (key 1) _ refl c.in-4.is)
    (λ c. arm numbers_of _ (key 2) _ refl c.in-5.is) (λ c. arm numbers_of _ (key 3) _ refl c.in-6.is)
    (λ c. arm numbers_of _ (key 4) _ refl c.in-7.is) (λ c. arm numbers_of _ (key 5) _ refl c.in-8.is)
    (λ c. arm numbers_of _ (key 6) _ refl c.in-12.is) (λ c. arm numbers_of _ (key 7) _ refl c.in-13.is)
    (λ c. arm numbers_of _ (key 8) _ refl c.in-14.is) (λ c. arm numbers_of _ (key 9) _ refl c.in-15.is)
    (λ c. arm numbers_of _ (key 10) _ refl c.in-0.is) (λ c. arm numbers_of _ (key 11) _ refl c.in-17.is)
    (λ c. ap (λ (s : Slot). none_of s) (no_slot _ (left_over 72 keys _ refl c.in_default.in_default-own.rest))))
