-- Why a message was held: R175 to R178. Interface: all of it.
use Rattle.std.specs.Prelude.{ℕ, ◌-◌, ◌*◌, ◌%◌, ◌≤◌, ◌≡◌, cond, List, [], ◌∷◌, ◌++◌, length, get_or, drop, replicate, ltb}
use Rattle.buffer.specs.Bytes.{be}
use Rattle.ari.specs.Table.{max64}
use Rattle.ari.specs.Limits.{gate_limits}
use Rattle.ari.specs.declared.Limits.{Limits}
use Rattle.ari.specs.Listing.{Space, number, name, relative, Entry}
use Rattle.names.specs.Translated.{translated}
use Rattle.std.specs.declared.result.Result.{Result}
use Rattle.std.specs.declared.result.Result.TheVariants.{Ok, Err}
use Rattle.ari.specs.declared.Refusal.{Refusal}
use Rattle.ari.specs.Refusals.{refused}
use Rattle.release.specs.Release.{Release, yes, no, release_bytes}
use Rattle.why_held.specs.declared.Link.{Link}
use Rattle.why_held.specs.declared.Outcome.{Outcome}
use Rattle.why_held.specs.declared.Outcome.TheVariants.{Released, Held}
use Rattle.why_held.specs.declared.Why.{Why}
use Rattle.why_held.specs.Chain.{chain}

-- R175: by what the namespace stands for: a number that is not granted, a name that has none, relative
abbrev pub reason_of : Space → ℕ
reason_of (number z) = 0
reason_of (name p n) = 1
reason_of relative = 2

abbrev pub no_entry : Entry
no_entry = record { first = 0; after = 0; space = relative }

abbrev pub no_link : Link
no_link = record { first = 0; after = 0; meaning = 0; key = max64 }

-- links in a room for as many as containers may be open
abbrev pub in_room : List Link → List Link
in_room ls = ls ++ replicate (gate_limits.containers - length ls) no_link

abbrev pub outcome_of : List ℕ → List ℕ → List ℕ → Release → Result Outcome Refusal
outcome_of b published own yes = Ok Released
outcome_of b published own (Release.refused r p) = refused r p
outcome_of b published own (no k) = let e = get_or (translated published own b) k no_entry in Ok (Held k (reason_of e.space) (length (chain b e.first e.after)))

abbrev pub links_of : List ℕ → List ℕ → List ℕ → Release → List Link
links_of b published own yes = []
links_of b published own (Release.refused r p) = []
links_of b published own (no k) = let e = get_or (translated published own b) k no_entry in chain b e.first e.after

abbrev pub with_links : Result Outcome Refusal → List Link → Result Why Refusal
with_links (Ok o) ls = Ok (record { outcome = o; links = in_room ls })
with_links (Err e) ls = Err e

abbrev pub why_by : List ℕ → List ℕ → List ℕ → Release → Result Why Refusal
why_by b published own r = with_links (outcome_of b published own r) (links_of b published own r)

-- R176: what release refuses is refused alike, what it releases is released, and what it holds is held with the chain to the entry that it names
unfoldable pub why : Limits → List ℕ → List ℕ → List ℕ → List ℕ → ℕ → Result Why Refusal
why m b t published own s = why_by b published own (release_bytes m b t published own s)

-- R174: the links of a chain are no more than containers may be open, so they have room
abbrev pub FewBy : Outcome → Type 0
FewBy Released = Unit {0}
FewBy (Held k r n) = n ≤ gate_limits.containers

pub record Few (w : Why) : Type 0 where
  pub links : FewBy w.outcome
  pub room : length w.links ≡ gate_limits.containers

-- R177: the links as bytes; places are far below 2^32
unfoldable pub link_bytes : Link → List ℕ
link_bytes l = be 4 (l.first % 4294967296) ++ (be 4 (l.after % 4294967296) ++ (be 8 l.meaning ++ be 8 l.key))

abbrev pub links_bytes : List Link → List ℕ
links_bytes [] = []
links_bytes (l ∷ ls) = link_bytes l ++ links_bytes ls

-- the answer without the links
abbrev pub answer_of : Result Why Refusal → Result Outcome Refusal
answer_of (Ok w) = Ok w.outcome
answer_of (Err e) = Err e

-- R178: 16 with the bytes of the chain, where the room has fewer; a refusal and a release leave the room as it was
abbrev pub outcome_in : Result Outcome Refusal → ℕ → Result Outcome Refusal
outcome_in (Ok Released) room = Ok Released
outcome_in (Ok (Held k r n)) room = cond (ltb room (24 * n)) (refused 16 (24 * n)) (Ok (Held k r n))
outcome_in (Err e) room = Err e

abbrev pub room_after : Result Outcome Refusal → List Link → List ℕ → List ℕ
room_after (Ok Released) ls out = out
room_after (Ok (Held k r n)) ls out = links_bytes ls ++ drop (24 * length ls) out
room_after (Err e) ls out = out

unfoldable pub why_room : Limits → List ℕ → List ℕ → List ℕ → List ℕ → ℕ → List ℕ → List ℕ
why_room m b t published own s out =
    let r = release_bytes m b t published own s in
    room_after (outcome_in (outcome_of b published own r) (length out)) (links_of b published own r) out
