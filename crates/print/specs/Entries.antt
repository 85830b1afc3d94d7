-- The line of a listing's entry: first byte, byte after, namespace. Interface: all of it.
use Rattle.std.specs.Prelude.{ℕ, ◌+◌, ◌/◌, ◌%◌, cond, List, [], ◌∷◌, ◌++◌, length, take, drop, leb, eqb}
use Rattle.cbor.specs.declared.Head.{Head}
use Rattle.cbor.specs.declared.Head.TheVariants.{Bad, Good}
use Rattle.cbor.specs.Answer.{head_at}
use Rattle.print.specs.Texts.{field_of}
use Rattle.buffer.specs.Bytes.{load_at}
use Rattle.print.specs.Integers.{integer_of}

-- the bytes of a name by its head
abbrev pub name_of : List ℕ → Head → List ℕ
name_of s (Good k a q) = cond (leb (q + a) (length s)) (take a (drop q s)) []
name_of s (Bad r) = []

-- R82
unfoldable pub space_of : List ℕ → ℕ → ℕ → List ℕ
space_of s k w = cond (eqb k 1) (name_of s (head_at s w)) (cond (eqb k 2) (46 ∷ []) (integer_of w))

unfoldable pub entry_line : List ℕ → ℕ → ℕ → ℕ → List ℕ
entry_line s e k w = field_of (e / 4294967296) ++ (field_of (e % 4294967296) ++ (space_of s k w ++ (10 ∷ [])))

-- the entry whose 24 bytes are at a place of a listing, of the message s; nothing where there are not so many
unfoldable pub entry_of : List ℕ → List ℕ → ℕ → List ℕ
entry_of s b at = cond (leb (at + 24) (length b)) (entry_line s (load_at 8 b at) (load_at 8 b (at + 8)) (load_at 8 b (at + 16))) []
