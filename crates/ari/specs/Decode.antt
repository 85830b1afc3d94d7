-- The tree of any bytes, by RFC 8949 alone: heads one after the other, then members by count. No rule but the heads' (R9 to R19) is in it.
-- Interface: decode; the others are its parts, and Headed is the text reader's too.
use Rattle.std.specs.Prelude.{ℕ, zero, suc, ◌+◌, ◌≡◌, List, [], ◌∷◌, length, take, drop}
use Rattle.cbor.specs.Head.{Lead, Sound, size, Got, bad, got, get_head, string_size, arity}
use Rattle.ari.specs.Items.{Items, none, item}

-- a head with its string
pub record Headed : Type 0 where
  pub lead : Lead
  pub str : List ℕ

-- the heads of bytes from the front, at most so many, up to one that is refused
unfoldable pub trace_got : (List ℕ → List Headed) → List ℕ → Got → List Headed
trace_got go b (bad r) = []
trace_got go b (got l) = record { lead = l; str = take (string_size l) (drop (size l) b) } ∷ go (drop (size l + string_size l) b)

unfoldable pub trace : ℕ → List ℕ → List Headed
trace zero b = []
trace (suc n) b = trace_got (trace n) b (get_head b)

-- the first n items of a run, and those behind them
abbrev pub front : ℕ → Items → Items
front zero g = none
front (suc n) none = none
front (suc n) (item l s ms rs) = item l s ms (front n rs)

abbrev pub behind_first : ℕ → Items → Items
behind_first zero g = g
behind_first (suc n) none = none
behind_first (suc n) (item l s ms rs) = behind_first n rs

-- a head takes as many of the items behind it as it announces
unfoldable pub build : List Headed → Items
build [] = none
build (h ∷ hs) = let g = build hs in item h.lead h.str (front (arity h.lead) g) (behind_first (arity h.lead) g)

unfoldable pub decode : List ℕ → Items
decode b = build (trace (length b) b)
