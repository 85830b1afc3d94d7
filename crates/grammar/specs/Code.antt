-- The grammar's slots as numbers, and what the functions say of them: `rule` of crate ari, by number.
-- Interface: slots, slot_of, slot_number, IsSlot, level_of, next_of, fits_code, extra_of, spelled_as, takes_reference_of, next_code, inside_code. The words that the
-- code keeps for the slots are in Words.
use Rattle.std.specs.Prelude.{ℕ, ◌+◌, ◌*◌, ◌<◌, Bool, true, false, cond, List, [], ◌∷◌, get_or, ltb, eqb}
use Rattle.cbor.specs.Utf8.{utf8}
use Rattle.ari.specs.Name.{identifier, namespace_name}
use Rattle.ari.specs.Table.{Place, alone, message, inside, param, Slot, version, ari, type, value, namespace, object_namespace, object_type, object_id, params, key, entry, nonce, set_time, target, report, report_time, report_source, ExtraTest, none, one, rising, filled, Level, done, due, rule, fits, members}
use Rattle.grammar.specs.declared.Next.{Next}
use Rattle.grammar.specs.declared.Next.TheVariants.{Done, Due}

-- the slots in the order of their numbers
abbrev pub slots : List Slot
slots =
    version ∷ (ari alone) ∷ (ari message) ∷ (ari inside)
    ∷ (ari param) ∷ (type alone) ∷ (type message) ∷ (type inside)
    ∷ (type param) ∷ namespace ∷ (object_namespace false) ∷ (object_namespace true)
    ∷ (object_type false) ∷ (object_type true) ∷ (object_id false) ∷ (object_id true)
    ∷ params ∷ (key inside) ∷ (key param) ∷ (entry inside)
    ∷ (entry param) ∷ (nonce 20) ∷ (nonce 21) ∷ set_time
    ∷ target ∷ report ∷ report_time ∷ report_source
    ∷ (value 0 inside) ∷ (value 1 inside) ∷ (value 2 inside) ∷ (value 3 inside)
    ∷ (value 4 inside) ∷ (value 5 inside) ∷ (value 6 inside) ∷ (value 7 inside)
    ∷ (value 8 inside) ∷ (value 9 inside) ∷ (value 10 inside) ∷ (value 11 inside)
    ∷ (value 12 inside) ∷ (value 13 inside) ∷ (value 14 inside) ∷ (value 15 inside)
    ∷ (value 16 inside) ∷ (value 17 inside) ∷ (value 18 inside) ∷ (value 19 inside)
    ∷ (value 20 inside) ∷ (value 21 inside) ∷ (value 0 param) ∷ (value 1 param)
    ∷ (value 2 param) ∷ (value 3 param) ∷ (value 4 param) ∷ (value 5 param)
    ∷ (value 6 param) ∷ (value 7 param) ∷ (value 8 param) ∷ (value 9 param)
    ∷ (value 10 param) ∷ (value 11 param) ∷ (value 12 param) ∷ (value 13 param)
    ∷ (value 14 param) ∷ (value 15 param) ∷ (value 16 param) ∷ (value 17 param)
    ∷ (value 18 param) ∷ (value 19 param) ∷ (value 20 param) ∷ (value 21 param)
    ∷ []

-- a slot's number
abbrev pub IsSlot : ℕ → Type 0
IsSlot i = i < 72

-- the slot of a number; another number stands for the version
abbrev pub slot_of : ℕ → Slot
slot_of i = get_or slots i version

abbrev place_number : Place → ℕ
place_number alone = 0
place_number message = 1
place_number inside = 2
place_number param = 3

abbrev pub in_param : Place → ℕ
in_param alone = 0
in_param message = 0
in_param inside = 0
in_param param = 1

abbrev flag : Bool → ℕ
flag false = 0
flag true = 1

-- a type's number; 0 for what is none, so that a slot follows
abbrev pub type_number : ℕ → ℕ
type_number t = cond (ltb t 22) t 0

-- the number of a slot
unfoldable pub slot_number : Slot → ℕ
slot_number version = 0
slot_number (ari w) = 1 + place_number w
slot_number (type w) = 5 + place_number w
slot_number namespace = 9
slot_number (object_namespace p) = 10 + flag p
slot_number (object_type p) = 12 + flag p
slot_number (object_id p) = 14 + flag p
slot_number params = 16
slot_number (key w) = 17 + in_param w
slot_number (entry w) = 19 + in_param w
slot_number (nonce t) = cond (eqb t 20) 21 22
slot_number set_time = 23
slot_number target = 24
slot_number report = 25
slot_number report_time = 26
slot_number report_source = 27
slot_number (value t w) = 28 + in_param w * 22 + type_number t

-- what is due, by number and by slot
abbrev pub level_of : Next → Level
level_of Done = done
level_of (Due s n) = due (slot_of s) n

abbrev pub next_of : Level → Next
next_of done = Done
next_of (due s n) = Due (slot_number s) n

-- test 7
unfoldable pub fits_code : ℕ → ℕ → ℕ → Bool
fits_code i k a = fits k a (rule (slot_of i)).rows

-- a slot's extra test: none, that the version is 1, that keys rise, that parameters are not empty
abbrev pub extra_number : ExtraTest → ℕ
extra_number none = 0
extra_number one = 1
extra_number rising = 2
extra_number filled = 3

abbrev pub extra_of : ℕ → ℕ
extra_of i = extra_number (rule (slot_of i)).extra

-- the spellings of a text string by number
abbrev pub spelled_as : ℕ → List ℕ → Bool
spelled_as n = get_or (utf8 ∷ identifier ∷ namespace_name ∷ []) n utf8

abbrev pub takes_reference_of : ℕ → Bool
takes_reference_of i = (rule (slot_of i)).takes_reference

-- what is due beside a head at a slot, and inside it
unfoldable pub next_code : ℕ → ℕ → ℕ → Next
next_code i a n = next_of ((rule (slot_of i)).next a n)

unfoldable pub inside_code : ℕ → ℕ → ℕ → Next
inside_code i k a = next_of (members (slot_of i) (record { info = 0; kind = k; arg = a }))
