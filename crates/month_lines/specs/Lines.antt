-- The lines of a month, one for each namespace that occurs: R211, R212. Interface: all of it.
use Rattle.std.specs.Prelude.{ℕ, suc, ◌<◌, cond, List, [], ◌∷◌, eqb, ltb}

-- A namespace by its place among all numbers in rising order, and how many references are to it
pub record Line : Type 0 where
  pub place : ℕ
  pub references : ℕ

abbrev pub line : ℕ → ℕ → Line
line p n = record { place = p; references = n }

-- R212: one reference more: its namespace's line has one more, or there is a new line in its order
abbrev pub counted : ℕ → List Line → List Line
counted p [] = line p 1 ∷ []
counted p (l ∷ ls) = cond (eqb p l.place) (line p (suc l.references) ∷ ls) (cond (ltb p l.place) (line p 1 ∷ l ∷ ls) (l ∷ counted p ls))

-- all lines are behind a place; each line is before all that follow it
abbrev pub Behind : ℕ → List Line → Type 0
Behind p [] = Unit {0}
Behind p (l ∷ ls) = (p < l.place) × Behind p ls

abbrev pub Rising : List Line → Type 0
Rising [] = Unit {0}
Rising (l ∷ ls) = Behind l.place ls × Rising ls

-- R213: the most lines, and the most that a total may be
abbrev pub most_lines : ℕ
most_lines = 256

abbrev pub most_total : ℕ
most_total = 9223372036854775807
