-- The text of a single ARI, head by head along the slots, and which accepted ARIs have none: R98 to R103, R64. Interface: Name, names, name_in,
-- type_name, Spell, word, comma, an_ari, absolute, silent, spell, texts, is_relative, an_ari_due, text_of, Form, is_float, float_in, is_set, form.
use Rattle.std.specs.Prelude.{ℕ, Bool, false, ◌&&◌, ◌||◌, cond, List, [], ◌∷◌, ◌++◌, leb, eqb}
use Prim.Native.String.{String}
use Rattle.cbor.specs.Head.{array, simple, half, Lead, is_container}
use Rattle.ari.specs.Table.{alone, inside, Slot, version, ari, type, value, namespace, object_namespace, object_type, object_id, params, key, entry, nonce, set_time, target, report, report_time, report_source, Level, done, due, rule, members}
use Rattle.ari.specs.Items.{Items, none, item, Spot, spots}
use Rattle.text.specs.Chars.{ascii, literal_text, name_text}

-- R33: the names of the types. REAL32, REAL64, EXECSET and RPTSET stand in no text: their values have none.
pub data Name : Type 0 where
  name : ℕ → String → Name

unfoldable pub names : List Name
names =
    name 0 "NULL"
    ∷ name 1 "BOOL"
    ∷ name 2 "BYTE"
    ∷ name 4 "INT"
    ∷ name 5 "UINT"
    ∷ name 6 "VAST"
    ∷ name 7 "UVAST"
    ∷ name 8 "REAL32"
    ∷ name 9 "REAL64"
    ∷ name 10 "TEXTSTR"
    ∷ name 11 "BYTESTR"
    ∷ name 12 "TP"
    ∷ name 13 "TD"
    ∷ name 14 "LABEL"
    ∷ name 15 "CBOR"
    ∷ name 17 "AC"
    ∷ name 18 "AM"
    ∷ name 20 "EXECSET"
    ∷ name 21 "RPTSET"
    ∷ []

abbrev pub name_in : List Name → ℕ → List ℕ
name_in [] t = []
name_in (name n s ∷ es) t = cond (eqb t n) (ascii s) (name_in es t)

unfoldable pub type_name : ℕ → List ℕ
unfolding names
type_name = name_in names

-- What a head, with its string, writes before its members and after them; a comma stands where more is due beside it.
pub record Spell : Type 0 where
  pub before : Lead → List ℕ → List ℕ
  pub after : Lead → Level → List ℕ

-- a word, and what stands behind it
abbrev pub word : (Lead → List ℕ → List ℕ) → List ℕ → Spell
word f c = record { before = f; after = λ l v. c }

abbrev pub comma : Level → List ℕ
comma done = []
comma (due s n) = ascii ","

-- R100: a typed literal's first slash; a reference's own head writes nothing
abbrev pub an_ari : Spell
an_ari = record { before = λ l s. cond (eqb l.kind array) (cond (eqb l.arg 2) (ascii "/") []) (literal_text l s); after = λ l v. comma v }

abbrev pub absolute : Lead → List ℕ → List ℕ
absolute l s = ascii "//" ++ name_text l s

-- what stands in sets alone
abbrev pub silent : Spell
silent = word (λ l s. []) []

unfoldable pub spell : Slot → Spell
spell version = silent
spell (ari w) = an_ari
spell (type w) = word (λ l s. type_name l.arg) (ascii "/")
-- R103: an AC or AM in parentheses; R109: a LABEL (type 14) bare
spell (value t w) = record {
  before = λ l s. cond (is_container l.kind) (ascii "(") (cond (eqb t 14) s (literal_text l s));
  after = λ l v. cond (is_container l.kind) (ascii ")") [];
}
-- R102
spell namespace = word absolute (ascii "/")
-- R101
spell (object_namespace p) = word (λ l s. cond (eqb l.kind simple) (ascii ".") (absolute l s)) (ascii "/")
spell (object_type p) = word name_text (ascii "/")
spell (object_id p) = word name_text []
spell params = record { before = λ l s. ascii "("; after = λ l v. ascii ")" }
spell (key w) = word literal_text (ascii "=")
spell (entry w) = an_ari
spell (nonce t) = silent
spell set_time = silent
spell target = silent
spell report = silent
spell report_time = silent
spell report_source = silent

-- The text of a level's items, along the slots.
abbrev pub texts : Items → Level → List ℕ
texts none v = []
texts (item l s ms rs) done = []
texts (item l s ms rs) (due t n) =
    (spell t).before l s
    ++ (texts ms (members t l) ++ ((spell t).after l ((rule t).next l.arg n) ++ texts rs ((rule t).next l.arg n)))

-- a reference whose namespace is null
unfoldable pub is_relative : Items → Bool
is_relative none = false
is_relative (item l s none rs) = false
is_relative (item l s (item l₁ s₁ m₁ r₁) rs) = eqb l.kind array && eqb l₁.kind simple

-- An ARI's text is the same wherever it stands.
abbrev pub an_ari_due : Level
an_ari_due = due (ari inside) 0

-- R99: the scheme, which only a relative reference lacks
unfoldable pub text_of : Items → List ℕ
text_of g = cond (is_relative g) [] (ascii "ari:") ++ texts g an_ari_due

-- An ARI has a text form, or none, and then a place.
pub data Form : Type 0 where
  spelled : Form
  none_at : ℕ → Form

unfoldable pub is_float : Lead → Bool
is_float l = leb half l.kind

-- the first float's head
abbrev pub float_in : List Spot → Form
float_in [] = spelled
float_in (x ∷ xs) = cond (is_float x.lead) (none_at x.first) (float_in xs)

-- R98: an EXECSET (type 20) or an RPTSET (type 21)
unfoldable pub is_set : Items → Bool
is_set none = false
is_set (item l s none rs) = false
is_set (item l s (item l₁ s₁ m₁ r₁) rs) = eqb l.kind array && (eqb l.arg 2 && (eqb l₁.arg 20 || eqb l₁.arg 21))

-- R64: no text, and the place: 0 for a set, otherwise the first float's head
unfoldable pub form : Items → Form
form g = cond (is_set g) (none_at 0) (float_in (spots g false (due (ari alone) 0) 0 0))
