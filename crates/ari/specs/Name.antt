-- Identifiers and namespace names: R27, R28; without regard to case: R184. Interface: identifier, namespace_name, lower, folded_name, same_name.
use Rattle.std.specs.Prelude.{ℕ, ◌+◌, Bool, false, ◌&&◌, ◌||◌, cond, List, [], ◌∷◌, map, length, ltb, eqb}
use Rattle.buffer.specs.Bytes.{all, within, same}

-- R27: the first byte
unfoldable pub starts_name : ℕ → Bool
starts_name b = within 65 90 b || (within 97 122 b || eqb b 95)

-- R27: the bytes behind it
unfoldable pub continues_name : ℕ → Bool
continues_name b = starts_name b || (within 48 57 b || within 45 46 b)

-- R27
unfoldable pub identifier : List ℕ → Bool
identifier [] = false
identifier (b ∷ bs) = starts_name b && (all continues_name bs && ltb (length bs) 64)

-- R28
unfoldable pub namespace_name : List ℕ → Bool
namespace_name [] = false
namespace_name (b ∷ bs) = identifier (b ∷ bs) || (eqb b 33 && identifier bs)

-- R184: A to Z are as a to z; no other byte is as another
unfoldable pub lower : ℕ → ℕ
lower b = cond (within 65 90 b) (b + 32) b

abbrev pub folded_name : List ℕ → List ℕ
folded_name = map lower

unfoldable pub same_name : List ℕ → List ℕ → Bool
same_name u v = same (folded_name u) (folded_name v)
