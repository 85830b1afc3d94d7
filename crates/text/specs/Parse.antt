-- From a text to a candidate, along the slots. Lax, and never failing: the candidate counts only if its own text is the text that was read (R110).
-- Interface: candidate. All others are its parts, which the private contracts of text_read_item and text_read cite.
use Rattle.std.specs.Prelude.{ℕ, zero, suc, pred, ◌+◌, ◌-◌, ◌*◌, Bool, false, not, ◌&&◌, ◌||◌, cond, List, [], ◌∷◌, length, take, drop, eqb}
use Prim.Native.Char.{code}
use Rattle.buffer.specs.Bytes.{within, same}
use Rattle.buffer.specs.Runs.{front, past}
use Rattle.std.specs.declared.option.Option.{Option}
use Rattle.std.specs.declared.option.Option.TheVariants.{Some, None}
use Rattle.buffer.specs.Decimal.{unsigned_of}
use Rattle.cbor.specs.Head.{unsigned, negative, bytes, text, array, map, simple, lead_of}
use Rattle.ari.specs.Table.{Slot, version, ari, type, value, namespace, object_namespace, object_type, object_id, params, key, entry, nonce, set_time, target, report, report_time, report_source, Level, done, due, rule, members}
use Rattle.ari.specs.declared.Limits.{Limits}
use Rattle.ari.specs.Items.{Items, none, item}
use Rattle.ari.specs.Decode.{Headed}
use Rattle.text.specs.Chars.{ascii}
use Rattle.text.specs.Text.{Name, name, names, spell, an_ari_due}

-- Words end at ( ) , / =
unfoldable pub ends : ℕ → Bool
ends x = eqb x (code "(") || (eqb x (code ")") || (eqb x (code ",") || (eqb x (code "/") || eqb x (code "="))))

unfoldable pub in_word : ℕ → Bool
in_word x = not (ends x)

unfoldable pub starts_by : (ℕ → Bool) → List ℕ → Bool
starts_by p [] = false
starts_by p (x ∷ t) = p x

abbrev pub starts : ℕ → List ℕ → Bool
starts c = starts_by (λ x. eqb x c)

-- a number in plain decimal; 0 for anything else
abbrev pub or_zero : Option ℕ → ℕ
or_zero (Some n) = n
or_zero None = 0

unfoldable pub number : List ℕ → ℕ
number u = or_zero (unsigned_of u)

unfoldable pub unhex : ℕ → ℕ
unhex c =
    cond (within (code "0") (code "9") c) (c - code "0")
    (cond (within (code "A") (code "F") c) (c - (code "A" - 10)) (cond (within (code "a") (code "f") c) (c - (code "a" - 10)) 0))

-- Reading escapes: anything may come; after a %; after a % and a first digit.
pub data Await : Type 0 where
  any first : Await
  second : ℕ → Await

unfoldable pub unescape : Await → List ℕ → List ℕ
unescape w [] = []
unescape any (x ∷ t) =
    let r = unescape first t in
    let s = unescape any t in
    cond (eqb x (code "%")) r (x ∷ s)
unescape first (x ∷ t) = unescape (second (unhex x)) t
unescape (second h) (x ∷ t) = (h * 16 + unhex x) ∷ unescape any t

unfoldable pub unhexes : List ℕ → List ℕ
unhexes [] = []
unhexes (x ∷ []) = []
unhexes (x ∷ y ∷ t) = (unhex x * 16 + unhex y) ∷ unhexes t

-- a word without its first a bytes and its last b
unfoldable pub inner : ℕ → ℕ → List ℕ → List ℕ
inner a b u = take (length u - (a + b)) (drop a u)

-- a head in its shortest form, with its string
abbrev pub head_of : ℕ → ℕ → List ℕ → Headed
head_of k a s = record { lead = lead_of k a; str = s }

abbrev pub string_of : ℕ → List ℕ → Headed
string_of k s = head_of k (length s) s

-- the head that a word means
unfoldable pub integer_of : List ℕ → Headed
integer_of u = cond (starts (code "-") u) (head_of negative (pred (number (drop 1 u))) []) (head_of unsigned (number u) [])

unfoldable pub literal_of : List ℕ → Headed
literal_of u =
    cond (starts (code "%") u) (string_of text (unescape any (inner 3 3 u)))
    (cond (starts (code "h") u) (string_of bytes (unhexes (inner 4 3 u)))
    (cond (starts (code "f") u) (head_of simple 20 [])
    (cond (starts (code "t") u) (head_of simple 21 [])
    (cond (starts (code "n") u) (head_of simple 22 [])
    (cond (starts (code "u") u) (head_of simple 23 []) (integer_of u))))))

unfoldable pub starts_number : ℕ → Bool
starts_number x = within (code "0") (code "9") x || eqb x (code "-")

unfoldable pub name_of : List ℕ → Headed
name_of u = cond (starts_by starts_number u) (integer_of u) (string_of text u)

-- the value of a type: a LABEL is bare
abbrev pub value_of : ℕ → List ℕ → Headed
value_of t u = cond (eqb t 14) (name_of u) (literal_of u)

abbrev pub number_in : List Name → List ℕ → ℕ
number_in [] u = 0
number_in (name n s ∷ es) u = cond (same u (ascii s)) n (number_in es u)

unfoldable pub type_number : List ℕ → ℕ
unfolding names
type_number = number_in names

unfoldable pub type_of : List ℕ → Headed
type_of u = head_of unsigned (type_number u) []

-- Members counted ahead. The parentheses open after a byte, up to where those that were open are closed
unfoldable pub opened : ℕ → ℕ → ℕ
opened zero x = zero
opened (suc e) x = cond (eqb x (code "(")) (suc (suc e)) (cond (eqb x (code ")")) e (suc e))

-- the commas inside the first of e open parentheses
unfoldable pub commas : ℕ → List ℕ → ℕ
commas e [] = 0
commas e (x ∷ t) = cond (eqb x (code ",") && eqb e 1) 1 0 + commas (opened e x) t

-- the members behind a parenthesis
unfoldable pub count : List ℕ → ℕ
count t = cond (starts (code ")") t) 0 (suc (commas 1 t))

-- A head, and the text behind what it writes before its members.
pub record Taken : Type 0 where
  pub head : Headed
  pub rest : List ℕ

abbrev pub take_word : (List ℕ → Headed) → List ℕ → Taken
take_word f t = record { head = f (front in_word t); rest = past in_word t }

abbrev pub take_group : ℕ → List ℕ → Taken
take_group k t = record { head = head_of k (count (drop 1 t)) []; rest = drop 1 t }

-- the parts of a reference, from behind its namespace
unfoldable pub parts : List ℕ → ℕ
parts t = cond (starts_by in_word t) (cond (starts (code "(") (past in_word (drop 1 (past in_word t)))) 4 3) 1

-- a reference, whose namespace ends where r begins
abbrev pub take_reference : List ℕ → List ℕ → Taken
take_reference t r = record { head = head_of array (parts (drop 1 r)) []; rest = t }

unfoldable pub take_ari : List ℕ → Taken
take_ari t =
    cond (starts (code "/") t) (cond (starts (code "/") (drop 1 t)) (take_reference t (past in_word (drop 2 t))) (record { head = head_of array 2 []; rest = drop 1 t }))
    (cond (starts (code ".") t) (take_reference t (past in_word t)) (take_word literal_of t))

-- what stands in sets alone
abbrev pub take_nothing : List ℕ → Taken
take_nothing t = record { head = head_of simple 22 []; rest = t }

unfoldable pub take_at : Slot → List ℕ → Taken
take_at version t = take_nothing t
take_at (ari w) t = take_ari t
take_at (type w) t = take_word type_of t
take_at (value y w) t = cond (starts (code "(") t) (take_group (cond (eqb y 17) array map) t) (take_word (value_of y) t)
take_at namespace t = take_word name_of (drop 2 t)
take_at (object_namespace p) t = cond (starts (code ".") t) (take_word (λ u. head_of simple 22 []) t) (take_word name_of (drop 2 t))
take_at (object_type p) t = take_word name_of t
take_at (object_id p) t = take_word name_of t
take_at params t = take_group (cond (starts (code "=") (past in_word (drop 1 t))) map array) t
take_at (key w) t = take_word literal_of t
take_at (entry w) t = take_ari t
take_at (nonce y) t = take_nothing t
take_at set_time t = take_nothing t
take_at target t = take_nothing t
take_at report t = take_nothing t
take_at report_time t = take_nothing t
take_at report_source t = take_nothing t

-- some items, and the text behind them
pub record Run : Type 0 where
  pub items : Items
  pub rest : List ℕ

abbrev pub nothing : List ℕ → Run
nothing t = record { items = none; rest = t }

-- The items of a level, at most so many; go reads their members.
unfoldable pub level : (Level → List ℕ → Run) → ℕ → Level → List ℕ → Run
level go zero v t = nothing t
level go (suc k) done t = nothing t
level go (suc k) (due s n) t =
    let h = take_at s t in
    let l = h.head.lead in
    let v = (rule s).next l.arg n in
    let m = go (members s l) h.rest in
    let r = level go k v (drop (length ((spell s).after l v)) m.rest) in
    record { items = item l h.head.str m.items r.items; rest = r.rest }

-- the same, so many levels deep
unfoldable pub parse : ℕ → ℕ → Level → List ℕ → Run
parse k zero v t = nothing t
parse k (suc d) v t = level (parse k d) k v t

unfoldable pub candidate : Limits → List ℕ → Items
candidate l t = (parse l.items (suc l.containers) an_ari_due (cond (starts (code ".") t) t (drop 4 t))).items
