-- The chain of containers from the outermost down to a listed reference: R171 to R174. Interface: all of it.
use Rattle.std.specs.Prelude.{ℕ, cond, List, [], ◌∷◌, eqb}
use Rattle.ari.specs.Table.{Place, alone, message, inside, param, Slot, version, ari, type, value, namespace, object_namespace, object_type, object_id, params, key, entry, nonce, set_time, target, report, report_time, report_source, max64}
use Rattle.ari.specs.declared.Input.TheVariants.{Message}
use Rattle.ari.specs.Items.{Spot, spots_of}
use Rattle.ari.specs.Decode.{decode}
use Rattle.ari.specs.Targets.{around}
use Rattle.why_held.specs.declared.Link.{Link}

-- R172: the meanings by number
abbrev pub a_set : ℕ
a_set = 0

abbrev pub typed_value : ℕ
typed_value = 1

abbrev pub a_target : ℕ
a_target = 2

abbrev pub parameters : ℕ
parameters = 3

abbrev pub parameter : ℕ
parameter = 4

abbrev pub map_value : ℕ
map_value = 5

abbrev pub a_report : ℕ
a_report = 6

abbrev pub the_source : ℕ
the_source = 7

abbrev pub report_item : ℕ
report_item = 8

abbrev pub collected : ℕ
collected = 9

-- an ARI inside another: by the meaning of the container around it
abbrev pub member_of : ℕ → ℕ
member_of around = cond (eqb around parameters) parameter (cond (eqb around a_report) report_item collected)

abbrev pub by_around : ℕ
by_around = 10

abbrev pub ari_meaning : Place → ℕ
ari_meaning alone = by_around
ari_meaning message = a_set
ari_meaning inside = by_around
ari_meaning param = by_around

-- what a container at a slot means, or that the one around decides. At the slots of the last number no container stands.
unfoldable pub slot_meaning : Slot → ℕ
slot_meaning (ari w) = ari_meaning w
slot_meaning (value t w) = typed_value
slot_meaning target = a_target
slot_meaning params = parameters
slot_meaning (entry w) = map_value
slot_meaning report = a_report
slot_meaning report_source = the_source
slot_meaning version = collected
slot_meaning (type w) = collected
slot_meaning namespace = collected
slot_meaning (object_namespace p) = collected
slot_meaning (object_type p) = collected
slot_meaning (object_id p) = collected
slot_meaning (key w) = collected
slot_meaning (nonce t) = collected
slot_meaning set_time = collected
slot_meaning report_time = collected

-- R172
abbrev pub meaning_of : ℕ → Slot → ℕ
meaning_of around s = let k = slot_meaning s in cond (eqb k by_around) (member_of around) k

-- R173: a link; of a map value the place of its key's head, which is the item just before it
abbrev pub link_by : ℕ → ℕ → ℕ → ℕ → Link
link_by first after meaning before = record { first = first; after = after; meaning = meaning; key = cond (eqb meaning map_value) before max64 }

abbrev pub link_of : ℕ → ℕ → Spot → Link
link_of meaning before y = link_by y.first y.after meaning before

-- R171: the items whose bytes hold an entry's, in their order; the meaning of the container around, and the first byte of the item before
abbrev pub chain_from : ℕ → ℕ → List Spot → ℕ → ℕ → List Link
chain_from m p [] first after = []
chain_from m p (y ∷ ys) first after =
    let k = meaning_of m y.slot in
    let r = chain_from k y.first ys first after in
    let n = chain_from m y.first ys first after in
    cond (around y first after) (link_of k p y ∷ r) n

unfoldable pub chain : List ℕ → ℕ → ℕ → List Link
chain b first after = chain_from a_set 0 (spots_of Message (decode b)) first after
