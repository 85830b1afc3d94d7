-- Whether two single ARIs are the same: R185, R186. Interface: all of it.
use Rattle.std.specs.Prelude.{ℕ, Bool, true, false, cond, List}
use Rattle.buffer.specs.Bytes.{same}
use Rattle.cbor.specs.Head.{Lead}
use Rattle.ari.specs.Name.{folded_name}
use Rattle.ari.specs.Table.{alone, Slot, version, ari, type, value, namespace, object_namespace, object_type, object_id, params, key, entry, nonce, set_time, target, report, report_time, report_source, Level, done, due, rule, members}
use Rattle.ari.specs.Items.{Items, none, item, encode, Spot}
use Rattle.ari.specs.Decode.{decode}
use Rattle.ari.specs.Shortened.{short_lead}

-- R184: where a name stands: a namespace, an object type or an object id
abbrev pub takes_name : Slot → Bool
takes_name version = false
takes_name (ari w) = false
takes_name (type w) = false
takes_name (value t w) = false
takes_name namespace = true
takes_name (object_namespace p) = true
takes_name (object_type p) = true
takes_name (object_id p) = true
takes_name params = false
takes_name (key w) = false
takes_name (entry w) = false
takes_name (nonce t) = false
takes_name set_time = false
takes_name target = false
takes_name report = false
takes_name report_time = false
takes_name report_source = false

-- a string as it is compared at a slot: a name without regard to case, any other as it is
abbrev pub folded_at : Slot → List ℕ → List ℕ
folded_at s str = cond (takes_name s) (folded_name str) str

-- R185: the folded form of the items of a level
abbrev pub folded : Items → Level → Items
folded none v = none
folded (item l str ms rs) done = none
folded (item l str ms rs) (due s n) = item (short_lead l) (folded_at s str) (folded ms (members s l)) (folded rs ((rule s).next l.arg n))

-- of a single ARI's bytes
abbrev pub folded_form : List ℕ → List ℕ
folded_form b = encode (folded (decode b) (due (ari alone) 0))

-- R186: two ARIs are the same exactly if their folded forms are
unfoldable pub is_same : List ℕ → List ℕ → Bool
is_same a b = same (folded_form a) (folded_form b)

-- what is compared of an item: its slot, its head shortened, its string folded
pub record Seen : Type 0 where
  pub slot : Slot
  pub lead : Lead
  pub str : List ℕ

abbrev pub seen : Spot → Seen
seen x = record { slot = x.slot; lead = short_lead x.lead; str = folded_at x.slot x.str }
