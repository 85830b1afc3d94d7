-- Bytes: big-endian numbers, a part, equality. Interface: all but `all`, `is_byte` and `within`, which serve other definitions.
use Rattle.std.specs.Prelude.{ℕ, zero, suc, ◌+◌, ◌-◌, ◌*◌, ◌/◌, ◌%◌, ◌^◌, Bool, true, false, ◌&&◌, cond, List, [], ◌∷◌, length, take, drop, ltb, leb, eqb}
use Rattle.std.proofs.lemmas.List.Edits.{sets}

-- the w bytes of a, the highest first
abbrev pub be : ℕ → ℕ → List ℕ
be zero a = []
be (suc w) a = a / 256 ^ w ∷ be w (a % 256 ^ w)

-- the number that bytes are, the highest first
abbrev pub value : List ℕ → ℕ
value [] = 0
value (x ∷ xs) = x * 256 ^ length xs + value xs

-- the number of the w bytes from a place on; 0 where there are not so many
unfoldable pub load_at : ℕ → List ℕ → ℕ → ℕ
load_at w b at = cond (leb (at + w) (length b)) (value (take w (drop at b))) 0

-- a number of w bytes in a room, which stays as it was where it is too short
unfoldable pub store_at : ℕ → List ℕ → ℕ → ℕ → List ℕ
store_at w o at x = cond (leb (at + w) (length o)) (sets o at (be w x)) o

-- the bytes from one place to another
abbrev pub part : List ℕ → ℕ → ℕ → List ℕ
part b from to = take (to - from) (drop from b)

-- two runs of bytes are the same
abbrev pub same : List ℕ → List ℕ → Bool
same [] [] = true
same [] (y ∷ v) = false
same (x ∷ u) [] = false
same (x ∷ u) (y ∷ v) = eqb x y && same u v

abbrev pub all : (ℕ → Bool) → List ℕ → Bool
all p [] = true
all p (x ∷ xs) = p x && all p xs

abbrev pub is_byte : ℕ → Bool
is_byte x = ltb x 256

-- from lo to hi
abbrev pub within : ℕ → ℕ → ℕ → Bool
within lo hi x = leb lo x && leb x hi
