-- Private to src/: the bytes of a state's words, whatever they are.
use Rattle.std.specs.Prelude.{ℕ, zero, suc, ◌+◌, List, [], ◌∷◌, ◌++◌}
use Rattle.buffer.specs.Bytes.{be}
use Rattle.month_figures.specs.Figures.{turned}
use Rattle.month_figures.specs.State.{first_place, first_amount, word}

-- of a fresh state
abbrev pub no_figures : List ℕ
no_figures = 0 ∷ 0 ∷ 0 ∷ 0 ∷ 0 ∷ 0 ∷ []

abbrev pub sums_of : List ℕ → List ℕ
sums_of ws = be 8 (word ws 0) ++ (be 8 (word ws 1) ++ be 8 (word ws 2))

abbrev pub totals_of : List ℕ → List ℕ
totals_of ws = sums_of ws ++ (be 8 (word ws 3) ++ be 8 (word ws 4))

-- line i, and n lines from i on
abbrev pub line_at : List ℕ → ℕ → List ℕ
line_at ws i = be 8 (turned (word ws (first_place + i))) ++ be 8 (word ws (first_amount + i))

abbrev pub lines_at : List ℕ → ℕ → ℕ → List ℕ
lines_at ws i zero = []
lines_at ws i (suc n) = line_at ws i ++ lines_at ws (suc i) n
