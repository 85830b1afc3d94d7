-- The grant table as bytes: R93, R96. Interface: row_of, holds_at, rows, ragged, check_bytes.
use Rattle.std.specs.Prelude.{ℕ, zero, suc, ◌+◌, ◌/◌, ◌%◌, Bool, not, ◌&&◌, cond, List, [], ◌∷◌, length, take, drop, leb, eqb}
use Rattle.buffer.specs.Bytes.{value}
use Rattle.ari.specs.Signed.{signed}
use Rattle.grants.specs.Grants.{Grant, holds, Check, refused, check}

-- R93: 16 bytes a row
abbrev pub row_by : ℕ → ℕ → Grant
row_by s n = record { subscriber = s; namespace = signed n }

abbrev pub row_of : List ℕ → Grant
row_of b = row_by (value (take 8 b)) (value (take 8 (drop 8 b)))

-- a whole row stands at a place and holds a subscriber and a namespace
unfoldable pub holds_at : List ℕ → ℕ → ℕ → ℕ → Bool
holds_at t at s n = leb (at + 16) (length t) && holds s (signed n) (row_of (drop at t))

abbrev pub rows_of : ℕ → List ℕ → List Grant
rows_of zero b = []
rows_of (suc n) b = row_of b ∷ rows_of n (drop 16 b)

-- the whole rows
unfoldable pub rows : List ℕ → List Grant
rows b = rows_of (length b / 16) b

-- R96: no whole rows
abbrev pub ragged : List ℕ → Bool
ragged b = not (eqb (length b % 16) 0)

-- R85, R96
unfoldable pub check_bytes : List ℕ → Check
check_bytes b = cond (ragged b) (refused 18 (length b / 16)) (check (rows b))
