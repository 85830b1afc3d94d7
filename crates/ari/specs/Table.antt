-- What may stand where (R21 to R46), as one table over slots. A slot says what is due at a place. Interface: the rows, types, Slot, Rule, rule, is_reference;
-- Level, members and the like serve the reader.
use Rattle.std.specs.Prelude.{ℕ, zero, suc, ◌-◌, Bool, true, false, not, ◌&&◌, ◌||◌, cond, List, [], ◌∷◌, ◌++◌, leb, eqb}
use Rattle.buffer.specs.Bytes.{within}
use Rattle.cbor.specs.Head.{unsigned, negative, bytes, text, array, map, simple, half, single, double, Lead}
use Rattle.cbor.specs.Utf8.{utf8}
use Rattle.ari.specs.Name.{identifier, namespace_name}

-- Where an ARI stands: outermost, as a single ARI or in a message; inside another; inside an object reference's parameters, at any depth.
pub data Place : Type 0 where
  alone message inside param : Place

-- inside what stands at a place
abbrev pub inner : Place → Place
inner alone = inside
inner message = inside
inner inside = inside
inner param = param

pub data Slot : Type 0 where
  version : Slot
  ari : Place → Slot
  type : Place → Slot  -- the first of a typed literal's two
  value : ℕ → Place → Slot  -- the second, for this type; the place of what it holds
  namespace : Slot  -- of a namespace reference
  object_namespace object_type object_id : Bool → Slot  -- of an object reference; whether it has parameters
  params : Slot
  key entry : Place → Slot  -- a map's key, and its value; the place of the values
  nonce : ℕ → Slot  -- of a set of this type
  set_time target report report_time report_source : Slot

-- A row of the table: a kind with the least and the greatest argument.
pub data Row : Type 0 where
  row : ℕ → ℕ → ℕ → Row

abbrev pub max64 : ℕ
max64 = 18446744073709551615

abbrev pub max63 : ℕ
max63 = 9223372036854775807

abbrev pub max32 : ℕ
max32 = 4294967295

abbrev pub max31 : ℕ
max31 = 2147483647

abbrev pub uint_to : ℕ → Row
uint_to n = row unsigned 0 n

-- R15: the argument n of a negative head means -1 - n
abbrev pub nint_to : ℕ → Row
nint_to n = row negative 0 n

abbrev pub any_bytes : Row
any_bytes = row bytes 0 max64

abbrev pub any_text : Row
any_text = row text 0 max64

abbrev pub arrays : ℕ → ℕ → Row
arrays lo hi = row array lo hi

abbrev pub any_map : Row
any_map = row map 0 max64

abbrev pub bools : Row
bools = row simple 20 21

abbrev pub is_null : Row
is_null = row simple 22 22

abbrev pub any_half : Row
any_half = row half 0 max64

abbrev pub any_single : Row
any_single = row single 0 max64

abbrev pub any_double : Row
any_double = row double 0 max64

-- R34
abbrev pub vast : List Row
vast = uint_to max63 ∷ nint_to max63 ∷ []

abbrev pub floats : List Row
floats = any_half ∷ any_single ∷ any_double ∷ []

-- R21
abbrev pub literals : List Row
literals = row simple 20 23 ∷ uint_to max64 ∷ nint_to max63 ∷ any_half ∷ any_single ∷ any_double ∷ any_text ∷ any_bytes ∷ []

-- R23
abbrev pub namespaces : List Row
namespaces = uint_to max63 ∷ nint_to max63 ∷ any_text ∷ []

-- R24
abbrev pub object_namespaces : List Row
object_namespaces = uint_to max63 ∷ nint_to max63 ∷ any_text ∷ is_null ∷ []

-- R25
abbrev pub object_types : List Row
object_types = nint_to 255 ∷ any_text ∷ []

-- R26
abbrev pub object_ids : List Row
object_ids = uint_to max63 ∷ any_text ∷ []

-- R31
abbrev pub keys : List Row
keys = uint_to max64 ∷ nint_to max63 ∷ any_text ∷ []

-- R41
abbrev pub nonces : List Row
nonces = is_null ∷ uint_to max63 ∷ any_bytes ∷ []

-- R22: an array of 1 to 4; R46: in a message, of 2
abbrev pub ari_rows : Place → List Row
ari_rows alone = literals ++ (arrays 1 4 ∷ [])
ari_rows message = arrays 2 2 ∷ []
ari_rows inside = literals ++ (arrays 1 4 ∷ [])
ari_rows param = literals ++ (arrays 1 4 ∷ [])

-- The table of types: the number, where the type may stand, the rows of its value.
pub data Entry : Type 0 where
  entry_of : ℕ → (Place → Bool) → List Row → Entry

-- anywhere but as one of a message's ARIs
abbrev pub anywhere : Place → Bool
anywhere alone = true
anywhere message = false
anywhere inside = true
anywhere param = true

-- R44
abbrev pub outermost : Place → Bool
outermost alone = true
outermost message = true
outermost inside = false
outermost param = false

-- R35: LABEL
abbrev pub in_params : Place → Bool
in_params alone = false
in_params message = false
in_params inside = false
in_params param = true

unfoldable pub types : List Entry
types =
    entry_of 0 anywhere (is_null ∷ [])
    ∷ entry_of 1 anywhere (bools ∷ [])
    ∷ entry_of 2 anywhere (uint_to 255 ∷ [])
    ∷ entry_of 4 anywhere (uint_to max31 ∷ nint_to max31 ∷ [])
    ∷ entry_of 5 anywhere (uint_to max32 ∷ [])
    ∷ entry_of 6 anywhere vast
    ∷ entry_of 7 anywhere (uint_to max64 ∷ [])
    ∷ entry_of 8 anywhere (any_half ∷ any_single ∷ [])
    ∷ entry_of 9 anywhere floats
    ∷ entry_of 10 anywhere (any_text ∷ [])
    ∷ entry_of 11 anywhere (any_bytes ∷ [])
    ∷ entry_of 12 anywhere vast
    ∷ entry_of 13 anywhere vast
    ∷ entry_of 14 in_params (any_text ∷ [])
    ∷ entry_of 15 anywhere (any_bytes ∷ [])
    ∷ entry_of 17 anywhere (arrays 0 max64 ∷ [])
    ∷ entry_of 18 anywhere (any_map ∷ [])
    ∷ entry_of 20 outermost (arrays 1 max64 ∷ [])
    ∷ entry_of 21 outermost (arrays 2 max64 ∷ [])
    ∷ []

-- the type numbers that may stand at a place
abbrev pub type_rows : Place → List Entry → List Row
type_rows w [] = []
type_rows w (entry_of n p rs ∷ es) = let r = type_rows w es in cond (p w) (row unsigned n n ∷ r) r

abbrev pub value_rows : ℕ → List Entry → List Row
value_rows t [] = []
value_rows t (entry_of n p rs ∷ es) = cond (eqb t n) rs (value_rows t es)

-- the spelling of a text string as a typed literal's value: a LABEL is an identifier
abbrev pub value_spelling : ℕ → List ℕ → Bool
value_spelling t s = cond (eqb t 14) (identifier s) (utf8 s)

-- A slot's extra test: that the version is 1 (8), that a key is greater than the one before (11), that parameters are not empty (12).
pub data ExtraTest : Type 0 where
  none one rising filled : ExtraTest

-- What is due on one level: nothing more, or a slot and how often again.
pub data Level : Type 0 where
  done : Level
  due : Slot → ℕ → Level

-- so many of a slot
abbrev pub many : Slot → ℕ → Level
many s zero = done
many s (suc n) = due s n

-- The members of an array of length a: [ns], a typed literal, an object reference, the same with parameters.
abbrev pub reference_level : ℕ → Level
reference_level a = cond (eqb a 1) (due namespace 0) (due (object_namespace (eqb a 4)) 0)

abbrev pub ari_level : Place → ℕ → Level
ari_level w a = cond (eqb a 2) (due (type w) 0) (reference_level a)

-- R37, R39, R40: the members of AC, EXECSET and RPTSET
abbrev pub value_level : ℕ → Place → ℕ → Level
value_level t w a = cond (eqb t 20) (due (nonce 20) (a - 1)) (cond (eqb t 21) (due (nonce 21) (a - 2)) (many (ari w) a))

-- A slot's rule.
pub record Rule : Type 0 where
  pub rows : List Row  -- test 7: the kinds and ranges, an array's lengths. Empty parameters and a wrong version pass here
  pub spelling : List ℕ → Bool  -- test 10, of a text string
  pub extra : ExtraTest  -- test 8, 11 or 12
  pub takes_reference : Bool  -- an ARI or an object reference is due here
  pub in_array : ℕ → Level  -- the members of an array of this length
  pub in_map : ℕ → Level  -- the members of a map of so many pairs
  pub next : ℕ → ℕ → Level  -- what is due beside it: its argument, how often again

-- a slot that holds nothing and has no extra test
abbrev pub leaf : List Row → (List ℕ → Bool) → Level → Rule
leaf rs sp l = record { rows = rs; spelling = sp; extra = none; takes_reference = false; in_array = λ a. done; in_map = λ a. done; next = λ a n. l }

-- so many more behind it, of the slot
abbrev pub counting : List Row → (List ℕ → Bool) → (ℕ → Level) → Rule
counting rs sp f = record { rows = rs; spelling = sp; extra = none; takes_reference = false; in_array = λ a. done; in_map = λ a. done; next = λ a n. f n }

-- an ARI or an object reference
abbrev pub taking_reference : List Row → (ℕ → Level) → (ℕ → Level) → Rule
taking_reference rs f g = record { rows = rs; spelling = utf8; extra = none; takes_reference = true; in_array = f; in_map = λ a. done; next = λ a n. g n }

unfoldable pub rule : Slot → Rule
unfolding types
-- R45: 1; another unsigned is 8 (R58)
rule version = record { rows = uint_to max64 ∷ []; spelling = utf8; extra = one; takes_reference = false; in_array = λ a. done; in_map = λ a. done; next = λ a n. done }
rule (ari w) = taking_reference (ari_rows w) (ari_level w) (many (ari w))
rule (type w) = record {
  rows = type_rows w types;
  spelling = utf8;
  extra = none;
  takes_reference = false;
  in_array = λ a. done;
  in_map = λ a. done;
  next = λ a n. due (value a (inner w)) 0;
}
rule (value t w) = record {
  rows = value_rows t types;
  spelling = value_spelling t;
  extra = none;
  takes_reference = false;
  in_array = value_level t w;
  in_map = many (key w);
  next = λ a n. done;
}
rule namespace = leaf namespaces namespace_name done
rule (object_namespace p) = leaf object_namespaces namespace_name (due (object_type p) 0)
rule (object_type p) = leaf object_types identifier (due (object_id p) 0)
rule (object_id p) = leaf object_ids identifier (cond p (due params 0) done)
-- R29
rule params = record {
  rows = arrays 0 max64 ∷ any_map ∷ [];
  spelling = utf8;
  extra = filled;
  takes_reference = false;
  in_array = many (ari param);
  in_map = many (key param);
  next = λ a n. done;
}
-- R31, R32
rule (key w) = record {
  rows = keys;
  spelling = utf8;
  extra = rising;
  takes_reference = false;
  in_array = λ a. done;
  in_map = λ a. done;
  next = λ a n. due (entry w) n;
}
rule (entry w) = taking_reference (ari_rows w) (ari_level w) (many (key w))
rule (nonce t) = counting nonces utf8 (λ n. cond (eqb t 21) (due set_time n) (many target n))
rule set_time = counting vast utf8 (many report)
rule target = taking_reference (arrays 3 4 ∷ []) reference_level (many target)
-- R42
rule report = record {
  rows = arrays 2 max64 ∷ [];
  spelling = utf8;
  extra = none;
  takes_reference = false;
  in_array = λ a. due report_time (a - 2);
  in_map = λ a. done;
  next = λ a n. many report n;
}
rule report_time = counting vast utf8 (due report_source)
rule report_source = taking_reference (arrays 3 4 ∷ []) reference_level (many (ari inside))

abbrev pub fits_row : ℕ → ℕ → Row → Bool
fits_row k a (row k' lo hi) = eqb k k' && within lo hi a

-- a kind and an argument that one of the rows allows
abbrev pub fits : ℕ → ℕ → List Row → Bool
fits k a [] = false
fits k a (r ∷ rs) = fits_row k a r || fits k a rs

-- the members of a head at a slot
unfoldable pub members : Slot → Lead → Level
members s l = cond (eqb l.kind array) ((rule s).in_array l.arg) (cond (eqb l.kind map) ((rule s).in_map l.arg) done)

-- R77
unfoldable pub is_reference : Slot → Lead → Bool
is_reference s l = (rule s).takes_reference && (eqb l.kind array && not (eqb l.arg 2))
