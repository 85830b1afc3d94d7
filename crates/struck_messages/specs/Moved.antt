-- What a struck message keeps of the old one: R204, R205. Interface: all of it.
use Rattle.std.specs.Prelude.{ℕ, zero, suc, ◌+◌, ◌-◌, Bool, ◌&&◌, cond, List, [], ◌∷◌, leb}
use Rattle.cbor.specs.Head.{Lead, size}
use Rattle.ari.specs.Table.{Slot}
use Rattle.ari.specs.Items.{Items, Spot}
use Rattle.ari.specs.Listing.{Space, number, name, relative, Entry}
use Rattle.strike.specs.Strike.{shorter, Cut, head_end}

-- R204: a target or report, wherever it stands
pub record Unplaced : Type 0 where
  pub slot : Slot
  pub lead : Lead
  pub str : List ℕ
  pub inside : Items

abbrev pub unplaced : Spot → Unplaced
unplaced x = record { slot = x.slot; lead = x.lead; str = x.str; inside = x.inside }

-- a list without one of its members
abbrev pub left_out : ℕ → List Unplaced → List Unplaced
left_out k [] = []
left_out zero (x ∷ xs) = xs
left_out (suc k) (x ∷ xs) = x ∷ left_out k xs

-- R205: the bytes removed before a place: those by which the head is shorter, and the struck part
abbrev pub removed : Cut → ℕ → ℕ
removed c p =
    cond (leb (head_end c) p) (size c.inner.lead - size (shorter c.inner.lead)) 0
    + cond (leb c.struck.after p) (c.struck.after - c.struck.first) 0

abbrev pub moved : Cut → ℕ → ℕ
moved c p = p - removed c p

abbrev pub moved_space : Cut → Space → Space
moved_space c (number z) = number z
moved_space c (name p s) = name (moved c p) s
moved_space c relative = relative

abbrev pub moved_entry : Cut → Entry → Entry
moved_entry c e = record { first = moved c e.first; after = moved c e.after; space = moved_space c e.space }

-- R205: an entry inside the struck part
abbrev pub is_inside : Cut → Entry → Bool
is_inside c e = leb c.struck.first e.first && leb e.after c.struck.after

-- the entries that stay
abbrev pub staying : Cut → List Entry → List Entry
staying c [] = []
staying c (e ∷ es) = let r = staying c es in cond (is_inside c e) r (e ∷ r)
