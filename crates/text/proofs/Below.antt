-- Below the outermost ARI: the slots that stand in a text, and what they lead to.
use Prim.Native.Nat.{ℕ, zero, suc}
use mathlib.Core.Path.{◌≡◌, refl}
use mathlib.Core.Bool.{Bool, true, false, cond}
use lib.Dec.{eqb}
use Rattle.buffer.specs.Bytes.{all, is_byte}
use Rattle.cbor.specs.Head.{array, map, Lead}
use Rattle.buffer.proofs.ByteLaws.{or-false}
use Rattle.ari.specs.Table.{Place, alone, message, inside, param, inner, outermost, Slot, ari, type, value, namespace, object_namespace, object_type, object_id, params, key, entry, Level, done, due, many, ari_level, value_level, rule, fits, members}
use Rattle.ari.specs.Items.{Items, none, item}
use Rattle.text.specs.Text.{is_float}
use Rattle.text.proofs.Leads.{is_set_type, type_unset}

-- no float, and strings of bytes
abbrev pub Spells : Items → Type 0
Spells none = Unit {0}
Spells (item l s ms rs) = (is_float l ≡ false) × (all is_byte s ≡ true) × Spells ms × Spells rs

pub data Below : Slot → Type 0 where
  single_ari : {w : Place} → outermost w ≡ false → Below (ari w)
  a_type : {w : Place} → outermost w ≡ false → Below (type w)
  a_value : {t : ℕ} {w : Place} → is_set_type t ≡ false → outermost w ≡ false → Below (value t w)
  a_namespace : Below namespace
  an_object_namespace : {p : Bool} → Below (object_namespace p)
  an_object_type : {p : Bool} → Below (object_type p)
  an_object_id : {p : Bool} → Below (object_id p)
  some_params : Below params
  a_key : {w : Place} → outermost w ≡ false → Below (key w)
  an_entry : {w : Place} → outermost w ≡ false → Below (entry w)

abbrev pub BelowLevel : Level → Type 0
BelowLevel done = Unit {0}
BelowLevel (due s n) = Below s

many_below : {s : Slot} (n : ℕ) → Below s → BelowLevel (many s n)
many_below zero h = tt
many_below (suc n) h = h

inner_below : (w : Place) → outermost (inner w) ≡ false
inner_below alone = refl
inner_below message = refl
inner_below inside = refl
inner_below param = refl

-- beside it
pub next_below : {s : Slot} (k a n : ℕ) → fits k a (rule s).rows ≡ true → Below s → BelowLevel ((rule s).next a n)
unfolding rule
next_below k a n e (single_ari o) = many_below n (single_ari o)
next_below k a n e (a_type {w = w} o) = a_value (type_unset w k a o e) (inner_below w)
next_below k a n e (a_value u o) = tt
next_below k a n e a_namespace = tt
next_below k a n e an_object_namespace = an_object_type
next_below k a n e an_object_type = an_object_id
next_below k a n e (an_object_id {p = true}) = some_params
next_below k a n e (an_object_id {p = false}) = tt
next_below k a n e some_params = tt
next_below k a n e (a_key o) = an_entry o
next_below k a n e (an_entry o) = many_below n (a_key o)

-- inside an array, inside a map
ari_below : (w : Place) (a : ℕ) → outermost w ≡ false → BelowLevel (ari_level w a)
ari_below w a o = go (eqb a 2) (eqb a 1)
  where
    go : (t u : Bool) → BelowLevel (cond t (due (type w) 0) (cond u (due namespace 0) (due (object_namespace (eqb a 4)) 0)))
    go true u = a_type o
    go false true = a_namespace
    go false false = an_object_namespace

pub value_level_lem : (t : ℕ) (w : Place) (a : ℕ) → is_set_type t ≡ false → value_level t w a ≡ many (ari w) a
value_level_lem t w a u = let (x, y) = or-false (eqb t 20) (eqb t 21) u in rw (x, y)

array_below : {s : Slot} (a : ℕ) → Below s → BelowLevel ((rule s).in_array a)
unfolding rule
array_below a (single_ari {w = w} o) = ari_below w a o
array_below a (a_type o) = tt
array_below a (a_value {t = t} {w = w} u o) = rw (value_level_lem t w a u) (many_below a (single_ari o))
array_below a a_namespace = tt
array_below a an_object_namespace = tt
array_below a an_object_type = tt
array_below a an_object_id = tt
array_below a some_params = many_below a (single_ari refl)
array_below a (a_key o) = tt
array_below a (an_entry {w = w} o) = ari_below w a o

map_below : {s : Slot} (a : ℕ) → Below s → BelowLevel ((rule s).in_map a)
unfolding rule
map_below a (single_ari o) = tt
map_below a (a_type o) = tt
map_below a (a_value u o) = many_below a (a_key o)
map_below a a_namespace = tt
map_below a an_object_namespace = tt
map_below a an_object_type = tt
map_below a an_object_id = tt
map_below a some_params = many_below a (a_key refl)
map_below a (a_key o) = tt
map_below a (an_entry o) = tt

pub members_below : {s : Slot} (l : Lead) → Below s → BelowLevel (members s l)
unfolding members
members_below {s} l h = go (eqb l.kind array) (eqb l.kind map)
  where
    go : (t u : Bool) → BelowLevel (cond t ((rule s).in_array l.arg) (cond u ((rule s).in_map l.arg) done))
    go true u = array_below l.arg h
    go false true = map_below l.arg h
    go false false = tt
