-- Names beside numbers: R139 to R143. Interface: Line, lines, name_of, number_of, well_formed, found, find_line, number_for, bad_from, check_names. Private to src/: the others.
use Rattle.std.specs.Prelude.{ℕ, ◌+◌, ◌-◌, ◌^◌, min, Bool, true, false, not, ◌&&◌, cond, List, [], ◌∷◌, length, drop, get_or, eqb, Option, Some, None}
use Prim.Native.Char.{code}
use Rattle.buffer.specs.Runs.{front, past}
use Rattle.buffer.specs.Decimal.{signed_of}
use Rattle.std.specs.declared.option.Option.{Option}
use Rattle.std.specs.declared.option.Option.TheVariants.{Some, None}
use Rattle.ari.specs.Name.{namespace_name, same_name}
use Rattle.names.specs.declared.Names.{Names}
use Rattle.names.specs.declared.Names.TheVariants.{Passes, Refused}

-- A line of a list, without its line feed; what is behind the last line feed has none.
pub record Line : Type 0 where
  pub text : List ℕ
  pub ended : Bool

unfoldable pub other_than : ℕ → ℕ → Bool
other_than stop x = not (eqb x stop)

-- up to a line feed
abbrev pub in_line : ℕ → Bool
in_line = other_than 10

-- one byte more in front of a list's first line
abbrev pub lengthen : ℕ → List Line → List Line
lengthen x [] = record { text = x ∷ []; ended = false } ∷ []
lengthen x (l ∷ ls) = record { text = x ∷ l.text; ended = l.ended } ∷ ls

-- R139: the lines of a list
abbrev pub lines : List ℕ → List Line
lines [] = []
lines (x ∷ b) = cond (in_line x) (lengthen x (lines b)) (record { text = []; ended = true } ∷ lines b)

-- what stands before the first "=", and the number behind it
abbrev pub in_name : ℕ → Bool
in_name = other_than (code "=")

unfoldable pub name_of : List ℕ → List ℕ
name_of t = front in_name t

unfoldable pub number_of : List ℕ → Option ℕ
number_of t = signed_of (drop 1 (past in_name t))

abbrev pub is_number : Option ℕ → Bool
is_number (Some n) = true
is_number None = false

-- R140: a namespace name, "=" and a plain decimal number in the range of ns
unfoldable pub formed : List ℕ → Bool
formed t = namespace_name (name_of t) && is_number (number_of t)

-- and a line feed behind them
abbrev pub well_formed : Line → Bool
well_formed l = l.ended && formed l.text

-- R141: the first well-formed line with a name, in whatever case, without its line feed; nothing if there is none
unfoldable pub matches : List ℕ → List ℕ → Bool
matches name t = formed t && same_name (name_of t) name

abbrev pub found : List ℕ → List Line → List ℕ
found name [] = []
found name (l ∷ ls) = cond (l.ended && matches name l.text) l.text (found name ls)

-- starts with "!"
abbrev pub is_own : List ℕ → Bool
is_own name = eqb (get_or name 0 0) (code "!")

-- R142: a name with "!" is looked for in the subscriber's own list, any other in the published one
unfoldable pub find_line : List ℕ → List ℕ → List ℕ → List ℕ
find_line published own name = cond (is_own name) (found name (lines own)) (found name (lines published))

-- the number that a name stands for, as two's complement
unfoldable pub number_for : List ℕ → List ℕ → List ℕ → Option ℕ
number_for published own name = number_of (find_line published own name)

-- R143: the first byte of the first line that is not well-formed, of lines from a place on
pub data Place : Type 0 where
  none : Place
  at : ℕ → Place

abbrev pub bad_from : ℕ → List Line → Place
bad_from p [] = none
bad_from p (l ∷ ls) = cond (well_formed l) (bad_from (p + (length l.text + 1)) ls) (at p)

abbrev pub wrong_of : Place → Option ℕ
wrong_of none = None
wrong_of (at p) = Some p

-- the second list's bytes are counted on from the end of the first, as far as 64 bits go
abbrev pub refused_at : Place → Names → Names
refused_at none other = other
refused_at (at p) other = Refused (min p (2 ^ 64 - 1))

unfoldable pub check_names : List ℕ → List ℕ → Names
check_names published own = refused_at (bad_from 0 (lines published)) (refused_at (bad_from (length published) (lines own)) Passes)
