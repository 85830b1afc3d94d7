-- How one item is spelled: R104 to R109. Interface: ascii, integer, hex, hexes, bare, escape, each, text_string, byte_string, simple_text,
-- literal_text, name_text.
use Rattle.std.specs.Prelude.{ℕ, suc, ◌+◌, ◌-◌, ◌/◌, ◌%◌, Bool, ◌||◌, cond, List, [], ◌∷◌, ◌++◌, ltb, eqb}
use Prim.Native.Char.{code}
use Prim.Native.String.{String}
use Rattle.buffer.specs.Decimal.{decimal}
use Rattle.cbor.specs.Head.{negative, bytes, text, simple, Lead}
use Rattle.ari.specs.Name.{continues_name}

-- a quoted text as its bytes
abbrev pub ascii : String → List ℕ
ascii String.[] = []
ascii (String.◌∷◌ c s) = code c ∷ ascii s

-- R104; R15: the argument n of a negative head means -1 - n
unfoldable pub integer : ℕ → ℕ → List ℕ
integer k a = cond (eqb k negative) (code "-" ∷ decimal (suc a)) (decimal a)

-- a hex digit, where ten is spelled so
unfoldable pub hex : ℕ → ℕ → ℕ
hex ten d = cond (ltb d 10) (code "0" + d) (ten + (d - 10))

-- a byte's two hex digits
abbrev pub hexes : ℕ → ℕ → List ℕ
hexes ten x = hex ten (x / 16) ∷ hex ten (x % 16) ∷ []

-- R107: the bytes that are written as they are
unfoldable pub bare : ℕ → Bool
bare x = continues_name x || eqb x (code "~")

-- R107: any other byte is % and two hex digits
unfoldable pub escape : ℕ → List ℕ
escape x = cond (bare x) (x ∷ []) (code "%" ∷ hexes (code "A") x)

abbrev pub each : (ℕ → List ℕ) → List ℕ → List ℕ
each f [] = []
each f (x ∷ s) = f x ++ each f s

-- R106
unfoldable pub text_string : List ℕ → List ℕ
text_string s = ascii "%22" ++ (each escape s ++ ascii "%22")

-- R108
unfoldable pub byte_string : List ℕ → List ℕ
byte_string s = ascii "h%27" ++ (each (hexes (code "a")) s ++ ascii "%27")

-- R105
unfoldable pub simple_text : ℕ → List ℕ
simple_text a = cond (eqb a 20) (ascii "false") (cond (eqb a 21) (ascii "true") (cond (eqb a 22) (ascii "null") (ascii "undefined")))

-- a literal (R104 to R106, R108); floats have no text
unfoldable pub literal_text : Lead → List ℕ → List ℕ
literal_text l s =
    cond (ltb l.kind bytes) (integer l.kind l.arg)
    (cond (eqb l.kind bytes) (byte_string s)
    (cond (eqb l.kind text) (text_string s)
    (cond (eqb l.kind simple) (simple_text l.arg) [])))

-- R109: a name is bare; in its place may be a number
unfoldable pub name_text : Lead → List ℕ → List ℕ
name_text l s = cond (eqb l.kind text) s (integer l.kind l.arg)
