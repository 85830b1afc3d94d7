-- The table of an input's items. Interface: packed, item_of, head_of, entry_of, reference_by, head_by, spot_number, Tabled.
use Rattle.std.specs.Prelude.{ℕ, ◌+◌, ◌*◌, ◌/◌, ◌%◌, ◌≤◌, ◌<◌, ◌≡◌, Bool, not, ◌&&◌, cond, List, [], length, get_or, eqb}
use Rattle.cbor.specs.Head.{array, Lead, size}
use Rattle.ari.specs.Table.{Slot, version, is_reference}
use Rattle.ari.specs.declared.Limits.{Limits}
use Rattle.ari.specs.declared.Input.{Input}
use Rattle.ari.specs.Items.{none, Spot, spots_of}
use Rattle.ari.specs.Decode.{decode}
use Rattle.ari.specs.Rules.{Is}
use Rattle.grammar.specs.Code.{slot_number, takes_reference_of}
use Rattle.item_table.specs.declared.Item.{Item}

-- A word: from the lowest bits the first byte (16 bits), the byte after (16), the containers around (8), the slot's number (8), the bytes of its head if
-- it is a reference (16), else 0.
abbrev pub packed : ℕ → ℕ → ℕ → ℕ → ℕ → ℕ
packed first after around slot head =
    first % 65536 + after % 65536 * 65536 + around % 256 * 4294967296 + slot % 256 * 1099511627776 + head % 65536 * 281474976710656

unfoldable pub item_of : ℕ → Item
item_of e = record { first = e % 65536; after = e / 65536 % 65536; around = e / 4294967296 % 256; slot = e / 1099511627776 % 256 }

unfoldable pub head_of : ℕ → ℕ
head_of e = e / 281474976710656

-- the bytes of a reference's head: its namespace stands behind them
abbrev pub reference_head : Slot → Lead → ℕ
reference_head s l = cond (is_reference s l) (size l) 0

unfoldable pub entry_of : Spot → ℕ
entry_of x = packed x.first x.after x.around (slot_number x.slot) (reference_head x.slot x.lead)

-- the same by the slot's number, the head's kind and argument and its bytes
abbrev pub reference_by : ℕ → ℕ → ℕ → Bool
reference_by i k a = takes_reference_of i && (eqb k array && not (eqb a 2))

abbrev pub head_by : ℕ → ℕ → ℕ → ℕ → ℕ
head_by i k a n = cond (reference_by i k a) n 0

-- item k of an input
abbrev pub no_spot : Spot
no_spot = record { slot = version; first = 0; after = 0; around = 0; lead = record { info = 0; kind = 0; arg = 0 }; str = []; inside = none }

abbrev pub spot_number : Input → List ℕ → ℕ → Spot
spot_number i b k = get_or (spots_of i (decode b)) k no_spot

-- The table t of an accepted input of n items, under limits that a word has room for: word k is item k's.
pub record Tabled (m : Limits) (i : Input) (b : List ℕ) (n : ℕ) (t : List ℕ) : Type 0 where
  pub is : Is m i b (decode b) n
  pub small : m.bytes < 65536
  pub shallow : m.containers < 256
  pub room : n ≤ length t
  pub kept : (k : ℕ) → k < n → get_or t k 0 ≡ entry_of (spot_number i b k)
