-- A line of the table. Interface: row_of. Private to src/: blank, is_of, grant_of, fields_of.
use Rattle.std.specs.Prelude.{ℕ, Bool, not, ◌||◌, cond, List, length, eqb}
use Prim.Native.Char.{code}
use Rattle.buffer.specs.Runs.{front, past}
use Rattle.std.specs.declared.option.Option.{Option}
use Rattle.std.specs.declared.option.Option.TheVariants.{Some, None}
use Rattle.buffer.specs.Decimal.{unsigned_of, signed_of}
use Rattle.grant_text.specs.declared.Class.{Class}
use Rattle.grant_text.specs.declared.Class.TheVariants.{Uncommented, Word, InLine}
use Rattle.grant_text.specs.declared.Class.TheVariants as class
use Rattle.grant_text.specs.declared.Line.{Line}
use Rattle.grant_text.specs.declared.Line.TheVariants.{Blank, Grant, Bad}

-- a blank is a space or a tab
unfoldable pub blank : ℕ → Bool
blank x = eqb x (code " ") || eqb x 9

-- the classes that a line is cut at: no '#', a blank, no blank, no line end
unfoldable pub is_of : Class → ℕ → Bool
is_of Uncommented x = not (eqb x (code "#"))
is_of class.Blank x = blank x
is_of Word x = not (blank x)
is_of InLine x = not (eqb x 10)

abbrev pub grant_of : Option ℕ → Option ℕ → Line
grant_of (Some s) (Some n) = Grant s n
grant_of (Some s) None = Bad
grant_of None n = Bad

abbrev pub is_empty : List ℕ → Bool
is_empty t = eqb (length t) 0

-- two words, and blanks between and around
abbrev pub words_of : List ℕ → List ℕ → Line
words_of t u = cond (is_empty (past (is_of class.Blank) (past (is_of Word) u))) (grant_of (unsigned_of (front (is_of Word) t)) (signed_of (front (is_of Word) u))) Bad

abbrev pub line_of : List ℕ → Line
line_of t = cond (is_empty t) Blank (words_of t (past (is_of class.Blank) (past (is_of Word) t)))

unfoldable pub fields_of : List ℕ → Line
fields_of t = line_of (past (is_of class.Blank) t)

-- what is before the first '#'
unfoldable pub row_of : List ℕ → Line
row_of t = fields_of (front (is_of Uncommented) t)
