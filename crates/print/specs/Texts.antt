-- The texts that the writers put, as bytes. Interface: all of it.
use Rattle.std.specs.Prelude.{ℕ, zero, suc, ◌+◌, ◌-◌, ◌/◌, ◌%◌, ◌&&◌, cond, List, [], ◌∷◌, ◌++◌, ltb, leb, eqb}
use Rattle.io.specs.Digits.{hex_digit_ascii}
use Rattle.buffer.specs.Decimal.{decimal}
use Rattle.ari.specs.declared.Target.{Target}
use Rattle.ari.specs.declared.Target.TheVariants.{None, Number}
use Rattle.item_records.specs.declared.Literal.{Literal}
use Rattle.item_records.specs.declared.Literal.TheVariants.{Unsigned, Negative, Bytes, Text, Simple, Half, Single, Double}
use Rattle.item_records.specs.declared.Container.{Container}
use Rattle.item_records.specs.declared.Container.TheVariants.{Array, Map}
use Rattle.item_records.specs.declared.Kind.{Kind}
use Rattle.item_records.specs.declared.Kind.TheVariants as kinds
use Rattle.item_records.specs.declared.Record.{Record}

-- n in base b: the fewest digits, at least so many, at most f
unfoldable pub numeral : ℕ → ℕ → ℕ → ℕ → List ℕ
numeral b zero least n = []
numeral b (suc f) least n =
    let r = numeral b f (least - 1) (n / b) in
    cond (ltb n b && leb least 1) (hex_digit_ascii n ∷ []) (r ++ (hex_digit_ascii (n % b) ∷ []))

unfoldable pub hex_of : ℕ → ℕ → List ℕ
hex_of width n = numeral 16 16 width n

-- the number -1 - n
abbrev pub negative_of : ℕ → List ℕ
negative_of n = 45 ∷ decimal (n + 1)

unfoldable pub repeated : ℕ → List ℕ → List ℕ
repeated zero u = []
repeated (suc n) u = repeated n u ++ u

-- the simple values 20 to 23: 'false', 'true', 'null', 'undefined'; any other as 'simple ' and its number
abbrev pub simple_of : ℕ → List ℕ
simple_of n =
    cond (eqb n 20) (102 ∷ 97 ∷ 108 ∷ 115 ∷ 101 ∷ []) (
    cond (eqb n 21) (116 ∷ 114 ∷ 117 ∷ 101 ∷ []) (
    cond (eqb n 22) (110 ∷ 117 ∷ 108 ∷ 108 ∷ []) (
    cond (eqb n 23) (117 ∷ 110 ∷ 100 ∷ 101 ∷ 102 ∷ 105 ∷ 110 ∷ 101 ∷ 100 ∷ []) ((115 ∷ 105 ∷ 109 ∷ 112 ∷ 108 ∷ 101 ∷ 32 ∷ []) ++ decimal n))))

-- 'unsigned ', 'negative ', 'bytes ', 'text ', 'half ', 'single ', 'double ', each with its data
abbrev pub literal_of : Literal → List ℕ
literal_of (Unsigned n) = (117 ∷ 110 ∷ 115 ∷ 105 ∷ 103 ∷ 110 ∷ 101 ∷ 100 ∷ 32 ∷ []) ++ decimal n
literal_of (Negative n) = (110 ∷ 101 ∷ 103 ∷ 97 ∷ 116 ∷ 105 ∷ 118 ∷ 101 ∷ 32 ∷ []) ++ negative_of n
literal_of (Bytes n) = (98 ∷ 121 ∷ 116 ∷ 101 ∷ 115 ∷ 32 ∷ []) ++ decimal n
literal_of (Text n) = (116 ∷ 101 ∷ 120 ∷ 116 ∷ 32 ∷ []) ++ decimal n
literal_of (Simple n) = simple_of n
literal_of (Half n) = (104 ∷ 97 ∷ 108 ∷ 102 ∷ 32 ∷ []) ++ hex_of 4 n
literal_of (Single n) = (115 ∷ 105 ∷ 110 ∷ 103 ∷ 108 ∷ 101 ∷ 32 ∷ []) ++ hex_of 8 n
literal_of (Double n) = (100 ∷ 111 ∷ 117 ∷ 98 ∷ 108 ∷ 101 ∷ 32 ∷ []) ++ hex_of 16 n

-- 'array ', 'map ' and the length
abbrev pub container_of : Container → List ℕ
container_of (Array n) = (97 ∷ 114 ∷ 114 ∷ 97 ∷ 121 ∷ 32 ∷ []) ++ decimal n
container_of (Map n) = (109 ∷ 97 ∷ 112 ∷ 32 ∷ []) ++ decimal n

-- 'reference ' and the length
abbrev pub kind_of : Kind → List ℕ
kind_of (kinds.Literal l) = literal_of l
kind_of (kinds.Container c) = container_of c
kind_of (kinds.Reference n) = (114 ∷ 101 ∷ 102 ∷ 101 ∷ 114 ∷ 101 ∷ 110 ∷ 99 ∷ 101 ∷ 32 ∷ []) ++ decimal n

-- a number and a space
abbrev pub field_of : ℕ → List ℕ
field_of n = decimal n ++ (32 ∷ [])

-- a target's or report's number, or '-', and a space
abbrev pub target_of : Target → List ℕ
target_of None = 45 ∷ 32 ∷ []
target_of (Number n) = field_of n

-- item k: its number, first byte, byte after, containers around, target or report
abbrev pub numbers_of : ℕ → Record → List ℕ
numbers_of k x = field_of k ++ (field_of x.first ++ (field_of x.after ++ (field_of x.around ++ target_of x.target)))

-- these, then the indent for each container around, the kind, a line end
abbrev pub line_of : ℕ → Record → List ℕ → List ℕ
line_of k x indent = numbers_of k x ++ (repeated x.around indent ++ (kind_of x.kind ++ (10 ∷ [])))

-- 'refused ', the number, the place, a line end
abbrev pub refused_of : ℕ → ℕ → List ℕ
refused_of r p = (114 ∷ 101 ∷ 102 ∷ 117 ∷ 115 ∷ 101 ∷ 100 ∷ 32 ∷ []) ++ (field_of r ++ (decimal p ++ (10 ∷ [])))

-- 'accepted ', the item count, a line end
abbrev pub accepted_of : ℕ → List ℕ
accepted_of n = ((97 ∷ 99 ∷ 99 ∷ 101 ∷ 112 ∷ 116 ∷ 101 ∷ 100 ∷ 32 ∷ []) ++ decimal n) ++ (10 ∷ [])
