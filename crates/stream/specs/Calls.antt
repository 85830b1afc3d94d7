-- What the calls answer, and what they leave in lent memory: R132 to R137. Interface: words, need, Fed, fed_of, wants_room, Opens, Feeds, Closes. Private to src/: the
-- others.
use Rattle.std.specs.Prelude.{ℕ, ◌+◌, ◌-◌, ◌*◌, ◌%◌, ◌<◌, ◌≤◌, min, ◌≡◌, Bool, true, false, ◌&&◌, cond, List, [], ◌∷◌, ◌++◌, length, take, ltb, leb, eqb}
use Rattle.std.proofs.lemmas.List.Edits.{sets}
use Rattle.ari.specs.declared.Limits.{Limits}
use Rattle.ari.specs.Limits.{gate_limits}
use Rattle.ari.specs.Reader.{run, refuse}
use Rattle.std.specs.declared.result.Result.{Result}
use Rattle.std.specs.declared.result.Result.TheVariants.{Ok, Err}
use Rattle.ari.specs.declared.Refusal.{Refusal}
use Rattle.ari.specs.Refusals.{number_of, refused}
use Rattle.listing.specs.declared.Listed.{Listed}
use Rattle.cbor.specs.declared.Head.{Head}
use Rattle.cbor.specs.declared.Head.TheVariants.{Bad, Good}
use Rattle.grammar.specs.Code.{slot_of, next_code, inside_code}
use Rattle.cbor.specs.Answer.{head_at}
use Rattle.cbor.specs.Head.{key_of}
use Rattle.reader.specs.Steps.{key_at, key_span, step_at, Bounded}
use Rattle.reader.specs.declared.Taken.{Taken}
use Rattle.ari.specs.Table.{rule}
use Rattle.grammar.specs.declared.Next.{Next}
use Rattle.grammar.specs.declared.Next.TheVariants.{Done, Due}
use Rattle.stream.specs.declared.Frame.{Frame}
use Rattle.stream.specs.declared.Stop.{Stop}
use Rattle.stream.specs.Stream.{Standing, none, stands, open_ended, standing, close_of, closed_room, fed_room}
use Rattle.stream.specs.State.{word, frame_start, frame_at, first, Quiet, Goes, Stopped, Holds}
use Rattle.stream.specs.State as State

-- the words of a state
abbrev pub words : ℕ
words = 7 + gate_limits.containers * 5

-- so many words and so many bytes of room are lent, and so many bytes a message may have
unfoldable pub needed : ℕ → ℕ → ℕ → ℕ
needed n room most = cond (ltb n words) (words * 8) (cond (ltb room most) most 0)

-- R135: the bytes that are needed of the first memory that is short, the state or the room for the message; 0 where neither is
abbrev pub need : Limits → List ℕ → List ℕ → ℕ
need m ws room = needed (length ws) (length room) m.bytes

-- R132: a fragment was fed, and there is nothing to say yet; or the message is refused whatever follows
abbrev pub Fed : Type 0
Fed = Result (Unit {0}) Refusal

abbrev pub fed_of : Standing → Fed
fed_of none = Ok tt
fed_of (stands r p) = refused r p

-- too little is lent where bytes are needed
abbrev pub lent_of : ℕ → Fed
lent_of n = cond (eqb n 0) (Ok tt) (refused 16 n)

-- the refusal in the words
abbrev pub kept_in : List ℕ → Fed
kept_in ws = cond (eqb (word ws 1) 0) (Ok tt) (refused (word ws 1 % 256) (word ws 2))

-- R136: a state that was opened has received nothing
pub record Opens (ws : List ℕ) (r : Fed) (ws' : List ℕ) : Type 0 where
  pub short : length ws < words → (r ≡ refused 16 (words * 8)) × (ws' ≡ ws)
  pub afresh : words ≤ length ws → (r ≡ Ok tt) × ((m : Limits) (room : List ℕ) → Holds m ws' room [])

-- The bytes f were fed to a state that had received b.
pub record FedBehind (m : Limits) (ws room b f : List ℕ) (r : Fed) (ws' room' : List ℕ) : Type 0 where
  pub answer : r ≡ fed_of (standing m (b ++ f))
  pub holds : Holds m ws' room' (b ++ f)
  pub kept : room' ≡ fed_room m b f room
  -- once a refusal stands later fragments change nothing
  pub still : (standing m b ≡ none → ⊥) → ws' ≡ ws

pub record Feeds (m : Limits) (ws room f : List ℕ) (r : Fed) (ws' room' : List ℕ) : Type 0 where
  pub short : (need m ws room ≡ 0 → ⊥) → (r ≡ refused 16 (need m ws room)) × (ws' ≡ ws) × (room' ≡ room)
  pub behind : need m ws room ≡ 0 → (b : List ℕ) → Holds m ws room b → FedBehind m ws room b f r ws' room'

-- an answer that asks for more room
abbrev pub wants_room : Result Listed Refusal → Bool
wants_room (Err e) = eqb (number_of e.fault) 16
wants_room (Ok l) = false

-- R133, R137: a state that had received b was closed. A close that answers 16 closes nothing; after any other a fresh message begins
pub record ClosedAfter (m : Limits) (ws b out : List ℕ) (r : Result Listed Refusal) (ws' out' : List ℕ) : Type 0 where
  pub answer : r ≡ close_of m b out
  pub listed : out' ≡ closed_room m b out
  pub repeats : wants_room r ≡ true → ws' ≡ ws
  pub afresh : wants_room r ≡ false → (room : List ℕ) → Holds m ws' room []

pub record Closes (m : Limits) (ws room out : List ℕ) (r : Result Listed Refusal) (ws' out' : List ℕ) : Type 0 where
  pub short : (need m ws room ≡ 0 → ⊥) → (r ≡ refused 16 (need m ws room)) × (ws' ≡ ws) × (out' ≡ out)
  pub after : need m ws room ≡ 0 → (b : List ℕ) → Holds m ws room b → ClosedAfter m ws b out r ws' out'

-- what is due at a place: at the bottom the version, and behind it the sets
abbrev pub bottom_frame : ℕ → Frame
bottom_frame at = record { slot = cond (eqb at 0) 0 2; more = 0; from = 0; to = 0; around = 0 }

abbrev pub due_frame : List ℕ → ℕ → ℕ → Frame
due_frame ws at opened = cond (eqb opened 0) (bottom_frame at) (frame_at ws (opened - 1))

-- a frame in the words
unfoldable pub stored : List ℕ → ℕ → Frame → List ℕ
stored ws k f = sets ws (frame_start k) (f.slot ∷ f.more ∷ f.from ∷ f.to ∷ f.around ∷ [])

-- the frame of what is due behind an item from p to q: only a key moves the key before
abbrev pub frame_behind : Frame → ℕ → ℕ → ℕ → ℕ → Frame
frame_behind f j n p q = record {
  slot = j;
  more = n;
  from = key_span (rule (slot_of f.slot)).extra f.from p;
  to = key_span (rule (slot_of f.slot)).extra f.to q;
  around = f.around;
}

-- the open levels and the words, when what is due behind an item has taken the place of its level's frame
abbrev pub open_behind : Next → ℕ → ℕ
open_behind Done opened = opened - 1
open_behind (Due j n) opened = opened

abbrev pub words_behind : Next → List ℕ → ℕ → Frame → ℕ → ℕ → List ℕ
words_behind Done ws opened f p q = ws
words_behind (Due j n) ws opened f p q = cond (eqb opened 0) ws (stored ws (opened - 1) (frame_behind f j n p q))

-- and when a level has been opened inside it
abbrev pub open_inside : Next → ℕ → ℕ
open_inside Done opened = opened
open_inside (Due j n) opened = opened + 1

abbrev pub words_inside : Next → List ℕ → ℕ → ℕ → List ℕ
words_inside Done ws opened around = ws
words_inside (Due j n) ws opened around = stored ws opened (record { slot = j; more = n; from = 0; to = 0; around = around + 1 })

-- the length below which a head's string is not all there; of what is no head, one byte more
abbrev pub string_until : Head → ℕ → ℕ → ℕ
string_until (Good k a n) most size = n + min a most
string_until (Bad r) most size = size + 1

-- both: a head of this kind and argument from p to q was taken
abbrev pub open_after : Frame → ℕ → ℕ → ℕ → ℕ
open_after f k a opened = open_inside (inside_code f.slot k a) (open_behind (next_code f.slot a f.more) opened)

abbrev pub words_after : Frame → ℕ → ℕ → List ℕ → ℕ → ℕ → ℕ → List ℕ
words_after f k a ws opened p q =
    let next = next_code f.slot a f.more in
    words_inside (inside_code f.slot k a) (words_behind next ws opened f p q) (open_behind next opened) f.around

-- the head that is due; the message waits where the frame is none that these calls make
unfoldable pub step_due : Limits → List ℕ → Frame → ℕ → ℕ → ℕ → Result Taken Refusal
step_due m b f at count opened =
    cond (leb opened f.around && leb f.around m.containers)
    (step_at b at (slot_of f.slot) (key_of (key_at b f.from f.to)) (m.items - count) (m.containers - f.around)) (refused 2 at)

-- what a head that was taken has shown
abbrev pub TakenDue : Limits → List ℕ → Frame → ℕ → ℕ → ℕ → Result Taken Refusal → Type 0
TakenDue m b f at count opened (Ok t) =
    Bounded b at count m.items (m.containers - f.around) f.slot (Ok t) × (opened ≤ f.around) × (f.around ≤ m.containers)
TakenDue m b f at count opened (Err e) = Unit {0}

-- where no head is taken
abbrev pub stop_at : ℕ → ℕ → ℕ → ℕ → Stop
stop_at at count opened until = record { place = record { at = at; count = count; opened = opened }; until = until }

abbrev pub halt_of : List ℕ → ℕ → Refusal → ℕ → ℕ → ℕ → Result Stop Refusal
halt_of b most e at count opened =
    cond (eqb (number_of e.fault) 2) (Ok (stop_at at count opened (length b + 1)))
    (cond (eqb (number_of e.fault) 9) (Ok (stop_at at count opened (string_until (head_at b at) most (length b)))) (Err e))

-- the words before the frames are as they were
pub record Kept (ws ws' : List ℕ) : Type 0 where
  pub size : length ws' ≡ length ws
  pub front : (j : ℕ) → j < 7 → word ws' j ≡ word ws j

-- what was reached by taking heads from a state's place on
abbrev pub Reached : Limits → List ℕ → List ℕ → Result Stop Refusal → Type 0
Reached m b ws (Ok s) = (standing m b ≡ none) × Quiet m b s.until × State.Due m ws b s.place.at s.place.count s.place.opened
Reached m b ws (Err e) =
    let r = number_of e.fault in
    ((c : List ℕ) → run m.items (first m.containers) 0 (b ++ c) ≡ refuse r e.place) × (open_ended r ≡ false) × (0 < r)

pub record Advanced (m : Limits) (b ws : List ℕ) (at count opened : ℕ) (r : Result Stop Refusal) (ws' : List ℕ) : Type 0 where
  pub kept : Kept ws ws'
  pub reached : words ≤ length ws → State.Due m ws b at count opened → Reached m b ws' r

-- a walk over all bytes received: b, where the words before knew what is due
pub record Walks (m : Limits) (b ws : List ℕ) (r : Fed) (ws' : List ℕ) : Type 0 where
  pub holds : word ws 1 ≡ 0 → word ws 0 ≡ length b → State.Due m ws b (word ws 4) (word ws 5) (word ws 6) → (room : List ℕ) → take (length b) room ≡ b
      → (r ≡ fed_of (standing m b)) × Holds m ws' room b

-- and over the first of them, where there are more than the limit
pub record Overflows (m : Limits) (b ws : List ℕ) (r : Fed) (ws' : List ℕ) : Type 0 where
  pub stops : State.Due m ws b (word ws 4) (word ws 5) (word ws 6) → length b ≡ m.bytes → (x : List ℕ) → 0 < length x
      → (r ≡ fed_of (standing m (b ++ x))) × Stopped m ws' (b ++ x)

-- f was received: what a feed does where no refusal stands
pub record Receives (m : Limits) (ws room f : List ℕ) (r : Fed) (ws' room' : List ℕ) : Type 0 where
  pub behind : (b : List ℕ) → Goes m ws room b → (r ≡ fed_of (standing m (b ++ f))) × Holds m ws' room' (b ++ f) × (room' ≡ fed_room m b f room)

-- a close's answer, before the state is made fresh
pub record Answers (m : Limits) (ws room out : List ℕ) (r : Result Listed Refusal) (out' : List ℕ) : Type 0 where
  pub after : (b : List ℕ) → Holds m ws room b → (r ≡ close_of m b out) × (out' ≡ closed_room m b out)

-- nothing received, and the version due
pub record Fresh (ws : List ℕ) : Type 0 where
  pub none_received : word ws 0 ≡ 0
  pub unrefused : word ws 1 ≡ 0
  pub until : word ws 3 ≡ 0
  pub next : word ws 4 ≡ 0
  pub count : word ws 5 ≡ 0
  pub levels : word ws 6 ≡ 0

-- after a close's answer: the state as it was, or a fresh one
pub record Ends (a : Result Listed Refusal) (ws ws' : List ℕ) : Type 0 where
  pub repeats : wants_room a ≡ true → ws' ≡ ws
  pub afresh : wants_room a ≡ false → Fresh ws'
