-- Private to src/: the same in the code's terms.
use Rattle.std.specs.Prelude.{ℕ, ◌*◌, ◌<◌, ◌≡◌, length, take, drop}
use mathlib.Core.List.{List, ◌++◌, Memᴰ}
use Rattle.grammar.specs.Code.{slot_of}
use Rattle.ari.specs.declared.Limits.{Limits}
use Rattle.ari.specs.declared.Input.TheVariants.{Message}
use Rattle.ari.specs.Reader.{accept, read}
use Rattle.ari.specs.Listing.{Entry, listing}
use Rattle.listing.specs.declared.Namespace.{Namespace}
use Rattle.listing.specs.declared.Namespace.TheVariants as code
use Rattle.why_held.specs.declared.Link.{Link}
use Rattle.why_held.specs.declared.Chain.{Chain}
use Rattle.why_held.specs.declared.Place.{Place}
use Rattle.why_held.specs.declared.Outcome.{Outcome}
use Rattle.why_held.specs.declared.Outcome.TheVariants.{Released, Held}
use Rattle.std.specs.declared.result.Result.{Result}
use Rattle.std.specs.declared.result.Result.TheVariants.{Ok, Err}
use Rattle.ari.specs.declared.Refusal.{Refusal}
use Rattle.why_held.specs.Chain.{slot_meaning, meaning_of, chain}
use Rattle.why_held.specs.Why.{reason_of, in_room, links_bytes}

abbrev pub slot_meaning_by : ℕ → ℕ
slot_meaning_by i = slot_meaning (slot_of i)

unfoldable pub meaning_by : ℕ → ℕ → ℕ
meaning_by around i = meaning_of around (slot_of i)

abbrev pub chain_by : List ℕ → ℕ → ℕ → Chain
chain_by b first after = record { links = in_room (chain b first after); count = length (chain b first after) }

-- a namespace with what it stands for
abbrev pub reason_by : Namespace → ℕ
reason_by (code.Number w) = 0
reason_by (code.Name p n) = 1
reason_by code.Relative = 2

-- an entry's ends and reason
abbrev pub place_of : Entry → Place
place_of e = record { first = e.first; after = e.after; reason = reason_of e.space }

-- the ends of a listed entry
pub record IsListed (b : List ℕ) (first after : ℕ) : Type 0 where
  pub entry : Entry
  pub listed : Memᴰ entry (listing b)
  pub first_is : first ≡ entry.first
  pub after_is : after ≡ entry.after

-- the message is accepted, and has an entry of this number
pub record IsHeld (m : Limits) (b : List ℕ) (entry : ℕ) : Type 0 where
  pub items : ℕ
  pub accepted : read m Message b ≡ accept items
  pub below : entry < length (listing b)

-- the room after an outcome, from the links that a room of links has in front
abbrev pub written_by : Result Outcome Refusal → List Link → List ℕ → List ℕ
written_by (Ok Released) ls out = out
written_by (Ok (Held k r n)) ls out = links_bytes (take n ls) ++ drop (24 * n) out
written_by (Err e) ls out = out
