-- Items as trees, their bytes, their heads, the containers open at once, and every item with its place. Interface: Items, encode, heads, depth, Spot,
-- spots_of.
use Rattle.std.specs.Prelude.{ℕ, suc, ◌+◌, max, Bool, true, false, cond, List, [], ◌∷◌, ◌++◌, length}
use Rattle.cbor.specs.Head.{Lead, size, lead_bytes, is_container}
use Rattle.ari.specs.Table.{message, Slot, ari, Level, done, due, rule, members}
use Rattle.ari.specs.declared.Input.{Input}
use Rattle.ari.specs.declared.Input.TheVariants.{Single, Message}
use Rattle.ari.specs.Reader.{first_slot}

-- A run of items: the head and the string of the first, its members, and the items after it.
pub data Items : Type 0 where
  none : Items
  item : Lead → List ℕ → Items → Items → Items

abbrev pub encode : Items → List ℕ
encode none = []
encode (item l s ms rs) = lead_bytes l ++ (s ++ (encode ms ++ encode rs))

-- R5: one head, one item
abbrev pub heads : Items → ℕ
heads none = 0
heads (item l s ms rs) = suc (heads ms + heads rs)

-- R6: the most containers that are open together
abbrev pub depth : Items → ℕ
depth none = 0
depth (item l s ms rs) = max (cond (is_container l.kind) (suc (depth ms)) 0) (depth rs)

-- An item with its place: what was due there, its first byte, the byte after its last, the open containers around it, its head, its string
-- and its members.
pub record Spot : Type 0 where
  pub slot : Slot
  pub first : ℕ
  pub after : ℕ
  pub around : ℕ
  pub lead : Lead
  pub str : List ℕ
  pub inside : Items

-- where an item's members begin
abbrev pub inside_at : ℕ → Lead → List ℕ → ℕ
inside_at p l s = p + (size l + length s)

-- R74: where an item ends
abbrev pub spot_at : Slot → ℕ → ℕ → Lead → List ℕ → Items → Spot
spot_at s p d l str ms = record { slot = s; first = p; after = inside_at p l str + length (encode ms); around = d; lead = l; str = str; inside = ms }

-- All items of a level that starts at p with d containers around it, in the order of their first bytes. Where more is true, the sets of a
-- message follow the level.
abbrev pub spots : Items → Bool → Level → ℕ → ℕ → List Spot
spots none more v p d = []
spots (item l str ms rs) false done p d = []
spots (item l str ms rs) true done p d =
    spot_at (ari message) p d l str ms
    ∷ (spots ms false (members (ari message) l) (inside_at p l str) (suc d)
    ++ spots rs true ((rule (ari message)).next l.arg 0) (inside_at p l str + length (encode ms)) d)
spots (item l str ms rs) more (due s n) p d =
    spot_at s p d l str ms
    ∷ (spots ms false (members s l) (inside_at p l str) (suc d)
    ++ spots rs more ((rule s).next l.arg n) (inside_at p l str + length (encode ms)) d)

-- sets may follow what is due first
abbrev pub open_ended : Input → Bool
open_ended Single = false
open_ended Message = true

-- all items of an input
abbrev pub spots_of : Input → Items → List Spot
spots_of i g = spots g (open_ended i) (due (first_slot i) 0) 0 0
