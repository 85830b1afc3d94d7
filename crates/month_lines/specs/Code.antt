-- Private to src/ and to the crate `month`: the lines as words.
use Rattle.std.specs.Prelude.{ℕ, zero, suc, ◌≤◌, min, ◌≡◌, List, [], ◌∷◌, ◌++◌, map, length, take, drop}
use Rattle.month_lines.specs.Lines.{Line, counted, Rising, most_lines}

-- a total as a word: one past the most stands for all that are beyond it
abbrev pub beyond : ℕ
beyond = 9223372036854775808

abbrev pub capped : ℕ → ℕ
capped n = min n beyond

-- the lines that are in use; one past the most stands for all that are more
abbrev pub used : List Line → ℕ
used ls = min (length ls) 257

abbrev pub place : Line → ℕ
place l = l.place

abbrev pub amount : Line → ℕ
amount l = capped l.references

-- The words ps and cs, of which n are in use, are the lines ls. Where there are too many of them nothing is said of the words.
pub record Lined (ps cs : List ℕ) (n : ℕ) (ls : List Line) : Type 0 where
  pub size : n ≡ used ls
  pub rising : Rising ls
  pub places : length ls ≤ most_lines → take (length ls) ps ≡ map place ls
  pub amounts : length ls ≤ most_lines → take (length ls) cs ≡ map amount ls

-- a word more at a place, behind which the others move up; the words in use were n
module _ {ℓ} {A : Type ℓ} where
  abbrev pub inserted : ℕ → A → List A → List A
  inserted zero x l = x ∷ l
  inserted (suc i) x [] = x ∷ []
  inserted (suc i) x (y ∷ l) = y ∷ inserted i x l

unfoldable pub shifted : ℕ → ℕ → ℕ → List ℕ → List ℕ
shifted n i x ws = take (suc n) (inserted i x ws) ++ drop (suc n) ws

-- one reference more, where there is room for all lines
pub record Counts (ps cs : List ℕ) (n p r : ℕ) (ps' cs' : List ℕ) : Type 0 where
  pub counts : most_lines ≤ length ps → most_lines ≤ length cs → (ls : List Line) → Lined ps cs n ls → Lined ps' cs' r (counted p ls)
