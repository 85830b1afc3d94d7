-- What the functions of a word find in a text, from a place on. Interface: NextTo, Read. Private to src/: the others. That these are the reading's own definitions is proved in proofs/WordWays.antt.
use Rattle.std.specs.Prelude.{true, false, Option, Some, None, ℕ, ◌+◌, ◌*◌, ◌≤◌, ◌<◌, ◌≡◌, Bool, ◌&&◌, cond, List, [], ◌∷◌, ◌++◌, length, drop, ltb, eqb}
use Prim.Native.Char.{code}
use Rattle.buffer.specs.Bytes.{part}
use Rattle.buffer.specs.Runs.{past}
use Rattle.cbor.specs.Head.{bytes, text, array, map, simple, lead_bytes}
use Rattle.ari.specs.Decode.{Headed}
use Rattle.buffer.specs.Put.{Put}
use Rattle.text.specs.Chars.{ascii}
use Rattle.text.specs.Text.{Name, name}
use Rattle.text.specs.Parse.{in_word, starts, any, unescape, unhexes, inner, head_of, string_of, literal_of, name_of, type_of, Taken, take_word, take_group, take_ari, take_nothing}
use Rattle.text_write_item.specs.declared.Spelling.{Spelling}
use Rattle.text_write_item.specs.declared.Spelling.TheVariants.{Unspelled, Ari, TypeName, Value, Label, Namespace, ObjectNamespace, ObjectType, ObjectId, Parameters, Key}
use Rattle.text_read_item.specs.declared.Word.{Word}
use Rattle.text_read_item.specs.declared.Form.{Form}
use Rattle.text_read_item.specs.declared.Form.TheVariants.{Bare, Escaped, Hex}
use Rattle.text_read_item.specs.declared.Escape.{Escape}
use Rattle.text_read_item.specs.declared.Item.{Item}

abbrev pub first_of : List ℕ → ℕ
first_of [] = 0
first_of (x ∷ u) = x

-- the place n bytes on from p, or the end
pub record NextTo (t : List ℕ) (p n r : ℕ) : Type 0 where
  pub is : drop r t ≡ drop n (drop p t)
  pub inside : r ≤ length t

-- the byte that an escape, or a bare byte, stands for
pub record StandsFor (u : List ℕ) (i : ℕ) (x : Escape) : Type 0 where
  pub is : unescape any (drop i u) ≡ x.byte ∷ unescape any (drop (i + x.size) u)
  pub some : 0 < x.size
  pub inside : i + x.size ≤ length u

-- an escape that is cut off stands for nothing, with all that is behind it
abbrev pub EscapedBy : List ℕ → ℕ → Option Escape → Type 0
EscapedBy u i (Some x) = StandsFor u i x
EscapedBy u i None = unescape any (drop i u) ≡ []

pub record EscapeAt (u : List ℕ) (i : ℕ) (x : Option Escape) : Type 0 where
  pub escaped : EscapedBy u i x

-- a string by its form
abbrev pub str_by : Form → List ℕ → List ℕ
str_by Bare u = u
str_by Escaped u = unescape any u
str_by Hex u = unhexes u

-- a head whose info fits its first byte
pub record Small (k a : ℕ) : Type 0 where
  pub kinds : k ≤ 6
  pub values : k ≡ 6 → a < 24

pub record Bounded (t : List ℕ) (x : Word) : Type 0 where
  pub small : Small x.kind x.arg
  pub order : x.from ≤ x.to
  pub inside : x.to ≤ length t

abbrev pub found_of : List ℕ → Word → Taken
found_of t x = record { head = head_of x.kind x.arg (str_by x.form (part t x.from x.to)); rest = drop x.next t }

pub record Found (t : List ℕ) (y : Taken) (x : Word) : Type 0 where
  pub is : found_of t x ≡ y
  pub bounded : Bounded t x
  pub on : x.next ≤ length t

-- a head without a string; what a word from a to e means
abbrev pub plain_at : List ℕ → ℕ → ℕ → ℕ → Taken
plain_at t k a e = record { head = head_of k a []; rest = drop e t }

abbrev pub word_at : (List ℕ → Headed) → List ℕ → ℕ → ℕ → Taken
word_at f t a e = record { head = f (part t a e); rest = drop e t }

abbrev pub text_word : List ℕ → Headed
text_word u = string_of text (unescape any (inner 3 3 u))

abbrev pub bytes_word : List ℕ → Headed
bytes_word u = string_of bytes (unhexes (inner 4 3 u))

-- a word of at most 7 bytes as a number; the names of the types by such numbers
unfoldable pub horner : ℕ → List ℕ → ℕ
horner n [] = n
horner n (x ∷ u) = horner (n * 256 + x) u

unfoldable pub key_of : List ℕ → ℕ
key_of u = cond (ltb 7 (length u)) 0 (length u * 72057594037927936 + horner 0 u)

abbrev pub key_in : List Name → ℕ → ℕ
key_in [] k = 0
key_in (name n s ∷ es) k = cond (eqb k (key_of (ascii s))) n (key_in es k)

abbrev pub comma_of : ℕ → ℕ → ℕ
comma_of e x = cond (eqb x (code ",") && eqb e 1) 1 0

-- how a slot's head is read, by its spelling
abbrev pub take_value : (List ℕ → Headed) → ℕ → List ℕ → Taken
take_value f k t = cond (starts (code "(") t) (take_group k t) (take_word f t)

abbrev pub take_space : List ℕ → Taken
take_space t = cond (starts (code ".") t) (take_word (λ u. head_of simple 22 []) t) (take_word name_of (drop 2 t))

abbrev pub take_params : List ℕ → Taken
take_params t = take_group (cond (starts (code "=") (past in_word (drop 1 t))) map array) t

abbrev pub group_of : ℕ → ℕ
group_of i = cond (eqb i 45) array (cond (eqb i 67) array map)

unfoldable pub take_spelled : Spelling → ℕ → List ℕ → Taken
take_spelled Unspelled k t = take_nothing t
take_spelled Ari k t = take_ari t
take_spelled TypeName k t = take_word type_of t
take_spelled Value k t = take_value literal_of k t
take_spelled Label k t = take_value name_of k t
take_spelled Namespace k t = take_word name_of (drop 2 t)
take_spelled ObjectNamespace k t = take_space t
take_spelled ObjectType k t = take_word name_of t
take_spelled ObjectId k t = take_word name_of t
take_spelled Parameters k t = take_params t
take_spelled Key k t = take_word literal_of t

-- among the spellings of names: what may stand in place of one, and what stands before it
abbrev pub is_named : Spelling → Bool
is_named Label = true
is_named Namespace = true
is_named ObjectNamespace = true
is_named ObjectType = true
is_named ObjectId = true
is_named Unspelled = false
is_named Ari = false
is_named TypeName = false
is_named Value = false
is_named Parameters = false
is_named Key = false

abbrev pub is_label : Spelling → Bool
is_label Label = true
is_label Namespace = false
is_label ObjectNamespace = false
is_label ObjectType = false
is_label ObjectId = false
is_label Unspelled = false
is_label Ari = false
is_label TypeName = false
is_label Value = false
is_label Parameters = false
is_label Key = false

abbrev pub is_space : Spelling → Bool
is_space ObjectNamespace = true
is_space Label = false
is_space Namespace = false
is_space ObjectType = false
is_space ObjectId = false
is_space Unspelled = false
is_space Ari = false
is_space TypeName = false
is_space Value = false
is_space Parameters = false
is_space Key = false

abbrev pub is_group : Spelling → List ℕ → Bool
is_group w t = is_label w && starts (code "(") t

abbrev pub is_relative : Spelling → List ℕ → Bool
is_relative w t = is_space w && starts (code ".") t

abbrev pub size_before : Spelling → ℕ
size_before Namespace = 2
size_before ObjectNamespace = 2
size_before Label = 0
size_before ObjectType = 0
size_before ObjectId = 0
size_before Unspelled = 0
size_before Ari = 0
size_before TypeName = 0
size_before Value = 0
size_before Parameters = 0
size_before Key = 0

-- a head that was read is put as its bytes and its string's
pub record Read (t : List ℕ) (y : Taken) (at : ℕ) (room room' : List ℕ) (x : Item) : Type 0 where
  pub kind_is : x.kind ≡ y.head.lead.kind
  pub arg_is : x.arg ≡ y.head.lead.arg
  pub rest_is : drop x.next t ≡ y.rest
  pub on : x.next ≤ length t
  pub put : Put room room' at x.end (lead_bytes y.head.lead ++ y.head.str)
