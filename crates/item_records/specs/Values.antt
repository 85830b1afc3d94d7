-- What each case of a record's kind means: its value (R15 for numbers), a float's bits, a string's length, or a container's length and whether
-- it is a reference. Interface: all of it.
use Rattle.std.specs.Prelude.{ℕ, ℤ, pos, negsuc}
use Rattle.item_records.specs.declared.Literal.{Literal}
use Rattle.item_records.specs.declared.Literal.TheVariants.{Unsigned, Negative, Bytes, Text, Simple, Half, Single, Double}
use Rattle.item_records.specs.declared.Container.{Container}
use Rattle.item_records.specs.declared.Container.TheVariants.{Array, Map}
use Rattle.item_records.specs.declared.Kind.{Kind}
use Rattle.item_records.specs.declared.Kind.TheVariants as kinds

pub data Value : Type 0 where
  integer : ℤ → Value
  simple : ℕ → Value  -- 20 false, 21 true, 22 null, 23 undefined
  float : ℕ → ℕ → Value  -- its bytes (2, 4 or 8), its bits
  byte_string text_string array map reference : ℕ → Value  -- its length

abbrev pub literal_value : Literal → Value
literal_value (Unsigned n) = integer (pos n)
literal_value (Negative n) = integer (negsuc n)  -- -1 - n
literal_value (Bytes n) = byte_string n
literal_value (Text n) = text_string n
literal_value (Simple n) = simple n
literal_value (Half n) = float 2 n
literal_value (Single n) = float 4 n
literal_value (Double n) = float 8 n

abbrev pub container_value : Container → Value
container_value (Array n) = array n
container_value (Map n) = map n

abbrev pub value_of : Kind → Value
value_of (kinds.Literal l) = literal_value l
value_of (kinds.Container c) = container_value c
value_of (kinds.Reference n) = reference n
