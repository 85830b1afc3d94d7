-- A message as the link delivers it: R130 to R134. Interface: all of it. The bytes are those that were received since a fresh message began, however
-- they were cut.
use Rattle.std.specs.Prelude.{ℕ, ◌-◌, ◌/◌, Bool, ◌||◌, cond, List, length, take, ltb, eqb}
use Rattle.std.proofs.lemmas.List.Edits.{sets}
use Rattle.ari.specs.declared.Limits.{Limits}
use Rattle.ari.specs.declared.Input.TheVariants.{Message}
use Rattle.ari.specs.Reader.{Answer, refuse, accept, read}
use Rattle.ari.specs.Listing.{listing}
use Rattle.std.specs.declared.result.Result.{Result}
use Rattle.ari.specs.declared.Refusal.{Refusal}
use Rattle.listing.specs.declared.Listed.{Listed}
use Rattle.listing.specs.Answers.{listed_of, written_by}

-- the tests that ask how many bytes there are: more of them may change the answer
abbrev pub open_ended : ℕ → Bool
open_ended r = eqb r 2 || eqb r 9

-- R131, from the answer to the first so many bytes
abbrev pub beyond : Answer → Answer
beyond (refuse r p) = cond (open_ended r) (refuse 1 0) (refuse r p)
beyond (accept n) = refuse 1 0

-- R130: within the limit the answer is the whole message's; R131: past it, what the bytes up to the limit give, if more of them can't change that
unfoldable pub closing : Limits → List ℕ → Answer
closing m b = cond (ltb m.bytes (length b)) (beyond (read m Message (take m.bytes b))) (read m Message b)

-- R132: the refusal that stands before the close, if one does
pub data Standing : Type 0 where
  none : Standing
  stands : ℕ → ℕ → Standing  -- number, place

abbrev pub standing_of : Answer → Standing
standing_of (refuse r p) = cond (open_ended r) none (stands r p)
standing_of (accept n) = none

unfoldable pub standing : Limits → List ℕ → Standing
standing m b = standing_of (closing m b)

-- R133: what a close answers, and what the room for the listing then holds
unfoldable pub close_of : Limits → List ℕ → List ℕ → Result Listed Refusal
close_of m b out = listed_of (closing m b) (listing b) (length out / 24)

unfoldable pub closed_room : Limits → List ℕ → List ℕ → List ℕ
closed_room m b out = written_by (close_of m b out) (listing b) out

-- R134: what the room for the message holds when f has been fed behind b: f as far as the limit goes; nothing more once a refusal stands
abbrev pub fed_by : Standing → Limits → List ℕ → List ℕ → List ℕ → List ℕ
fed_by none m b f room = sets room (length b) (take (m.bytes - length b) f)
fed_by (stands r p) m b f room = room

unfoldable pub fed_room : Limits → List ℕ → List ℕ → List ℕ → List ℕ
fed_room m b f room = fed_by (standing m b) m b f room
