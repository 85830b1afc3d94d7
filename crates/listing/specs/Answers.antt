-- The listing as it is handed over: R48, R49, R66, R81, R94, R95. Interface: listed_of, list_of, written_by, written_of.
use Rattle.std.specs.Prelude.{ℕ, ◌*◌, ◌/◌, cond, List, ◌++◌, length, drop, ltb}
use Rattle.ari.specs.declared.Limits.{Limits}
use Rattle.ari.specs.declared.Input.TheVariants.{Message}
use Rattle.ari.specs.Reader.{refuse, accept, read}
use Rattle.ari.specs.Reader as reader
use Rattle.ari.specs.Listing.{Entry, listing}
use Rattle.std.specs.declared.result.Result.{Result}
use Rattle.std.specs.declared.result.Result.TheVariants.{Ok, Err}
use Rattle.ari.specs.declared.Refusal.{Refusal}
use Rattle.ari.specs.Refusals.{refused}
use Rattle.listing.specs.declared.Listed.{Listed}
use Rattle.listing.specs.Bytes.{listing_bytes}

-- R95: room counts in whole entries; R81: where it is short, 16 gives the number of references
abbrev pub listed_of : reader.Answer → List Entry → ℕ → Result Listed Refusal
listed_of (refuse r p) es room = refused r p
listed_of (accept n) es room = cond (ltb room (length es)) (refused 16 (length es)) (Ok (record { listed = length es; count = n }))

unfoldable pub list_of : Limits → List ℕ → List ℕ → Result Listed Refusal
list_of m b out = listed_of (read m Message b) (listing b) (length out / 24)

-- R48: a refusal leaves the room as it was; R49: an acceptance leaves what is past its answer
abbrev pub written_by : Result Listed Refusal → List Entry → List ℕ → List ℕ
written_by (Err e) es out = out
written_by (Ok l) es out = listing_bytes es ++ drop (24 * length es) out

unfoldable pub written_of : Limits → List ℕ → List ℕ → List ℕ
written_of m b out = written_by (list_of m b out) (listing b) out
