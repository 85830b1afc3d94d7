-- Private to the contracts: how the words of a state stand for the bytes that were received. Of `Holds` a reader has to believe nothing: a fresh state
-- holds no bytes (Calls `Fresh`, proofs `fresh_holds`), and each call says which bytes its state holds afterwards.
use Rattle.std.specs.Prelude.{ℕ, zero, suc, ◌+◌, ◌-◌, ◌*◌, ◌<◌, ◌≤◌, ◌≡◌, cond, List, [], ◌++◌, length, get_or, take, drop, eqb}
use Rattle.buffer.specs.Bytes.{part}
use Rattle.cbor.specs.Head.{key_of}
use Rattle.ari.specs.declared.Limits.{Limits}
use Rattle.ari.specs.Table.{version}
use Rattle.ari.specs.Reader.{Dues, sets, frame, run}
use Rattle.grammar.specs.Code.{slot_of, IsSlot}
use Rattle.stream.specs.declared.Frame.{Frame}
use Rattle.stream.specs.Stream.{none, stands, standing}

abbrev pub word : List ℕ → ℕ → ℕ
word ws k = get_or ws k 0

-- The words, in this order: the bytes received; the number and the place of the refusal that stands, 0 for none; the length below which there is nothing to
-- do; the place where a head is due; the items taken; the levels that are open; then a frame of five words for each of these.
abbrev pub frame_start : ℕ → ℕ
frame_start k = 7 + k * 5

unfoldable pub frame_at : List ℕ → ℕ → Frame
frame_at ws k = record {
  slot = word ws (frame_start k);
  more = word ws (frame_start k + 1);
  from = word ws (frame_start k + 2);
  to = word ws (frame_start k + 3);
  around = word ws (frame_start k + 4);
}

-- what is due first: the version, and behind it the sets
abbrev pub first : ℕ → Dues
first d = frame version 0 [] d (sets d)

-- a frame's key before, by its place
abbrev pub key_in : List ℕ → Frame → List ℕ
key_in b f = key_of (part b f.from f.to)

-- what is due on the open levels, the innermost first
abbrev pub levels : List ℕ → ℕ → List ℕ → ℕ → Dues
levels ws d b zero = sets d
levels ws d b (suc k) = frame (slot_of (frame_at ws k).slot) (frame_at ws k).more (key_in b (frame_at ws k)) (d - (frame_at ws k).around) (levels ws d b k)

abbrev pub dues : List ℕ → ℕ → List ℕ → ℕ → ℕ → Dues
dues ws d b at zero = cond (eqb at 0) (first d) (sets d)
dues ws d b at (suc k) = levels ws d b (suc k)

-- the frames of the open levels stand for something, and each level has at least one container more around it than the one below
abbrev pub WellFrame : ℕ → ℕ → ℕ → Frame → Type 0
WellFrame d n k f = IsSlot f.slot × (f.from ≤ f.to) × (f.to ≤ n) × (k < f.around) × (f.around ≤ d)

abbrev pub WellFrames : List ℕ → ℕ → ℕ → ℕ → Type 0
WellFrames ws d n zero = Unit {0}
WellFrames ws d n (suc k) = WellFrame d n k (frame_at ws k) × WellFrames ws d n k

-- From here the reader goes on as it would from the front, whatever follows the bytes b.
pub record Due (m : Limits) (ws b : List ℕ) (at count opened : ℕ) : Type 0 where
  pub runs : (c : List ℕ) → run m.items (first m.containers) 0 (b ++ c) ≡ run (m.items - count) (dues ws m.containers b at opened) at (drop at (b ++ c))
  pub inside : at ≤ length b
  pub frames : WellFrames ws m.containers (length b) opened

-- below a length nothing stands
abbrev pub Quiet : Limits → List ℕ → ℕ → Type 0
Quiet m b until = (c : List ℕ) → length (b ++ c) < until → length (b ++ c) ≤ m.bytes → standing m (b ++ c) ≡ none

-- no refusal stands
pub record Goes (m : Limits) (ws room b : List ℕ) : Type 0 where
  pub unrefused : word ws 1 ≡ 0
  pub idle : standing m b ≡ none
  pub size : word ws 0 ≡ length b
  pub within : length b ≤ m.bytes
  pub held : take (length b) room ≡ b
  pub quiet : Quiet m b (word ws 3)
  pub due : Due m ws b (word ws 4) (word ws 5) (word ws 6)

-- one does, and it is in the words
pub record Stopped (m : Limits) (ws b : List ℕ) : Type 0 where
  pub refused : word ws 1 ≡ 0 → ⊥
  pub small : word ws 1 < 256
  pub standing_is : standing m b ≡ stands (word ws 1) (word ws 2)

-- The state has received the bytes b since a fresh message began; as long as no refusal stands, the room for the message holds them.
pub data Holds (m : Limits) (ws room b : List ℕ) : Type 0 where
  goes : Goes m ws room b → Holds m ws room b
  stopped : Stopped m ws b → Holds m ws room b
