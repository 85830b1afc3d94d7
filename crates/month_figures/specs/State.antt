-- The calls over a lent state: R214, R215. Interface: words, Opens, figures_bytes, shown_of, room_after, Shows. Of `Holds`, how words stand for figures, a reader
-- has to believe nothing: a state of zeros holds the figures of no messages, and each call says which figures its state holds afterwards.
use Rattle.std.specs.Prelude.{ℕ, ◌+◌, ◌*◌, ◌<◌, ◌≤◌, ◌≡◌, true, cond, List, [], ◌∷◌, ◌++◌, map, length, take, drop, get_or, ltb}
use Rattle.std.specs.declared.result.Result.{Result}
use Rattle.std.specs.declared.result.Result.TheVariants.{Ok, Err}
use Rattle.buffer.specs.Bytes.{be}
use Rattle.ari.specs.declared.Refusal.{Refusal}
use Rattle.ari.specs.Refusals.{refused}
use Rattle.month_lines.specs.Lines.{Line, Rising, most_lines}
use Rattle.month_figures.specs.Figures.{turned, Figures, figures, fits}

-- The words, in this order: the five totals, how many lines there are, then the places of all lines, then their references
abbrev pub words : ℕ
words = 518

abbrev pub first_place : ℕ
first_place = 6

abbrev pub first_amount : ℕ
first_amount = 262

abbrev pub word : List ℕ → ℕ → ℕ
word ws k = get_or ws k 0

abbrev pub place_in : Line → ℕ
place_in l = l.place

abbrev pub references_in : Line → ℕ
references_in l = l.references

pub record Holds (ws : List ℕ) (f : Figures) : Type 0 where
  pub room : words ≤ length ws
  pub messages : word ws 0 ≡ f.messages
  pub bytes : word ws 1 ≡ f.bytes
  pub items : word ws 2 ≡ f.items
  pub unknown : word ws 3 ≡ f.unknown
  pub relative : word ws 4 ≡ f.relative
  pub lines : word ws 5 ≡ length f.lines
  pub few : length f.lines ≤ most_lines
  pub rising : Rising f.lines
  pub fit : fits f ≡ true
  pub places : take (length f.lines) (drop first_place ws) ≡ map place_in f.lines
  pub amounts : take (length f.lines) (drop first_amount ws) ≡ map references_in f.lines

-- R214: a month begins; too short a state answers 16 with the bytes needed
pub record Opens (ws : List ℕ) (r : Result (Unit {0}) Refusal) (ws' : List ℕ) : Type 0 where
  pub short : length ws < words → (r ≡ refused 16 (words * 8)) × (ws' ≡ ws)
  pub afresh : words ≤ length ws → (r ≡ Ok tt) × Holds ws' (figures [])

-- R215: the figures as bytes, each number in 8; a namespace's number in two's complement
abbrev pub line_bytes : Line → List ℕ
line_bytes l = be 8 (turned l.place) ++ be 8 l.references

abbrev pub lines_bytes : List Line → List ℕ
lines_bytes [] = []
lines_bytes (l ∷ ls) = line_bytes l ++ lines_bytes ls

unfoldable pub figures_bytes : Figures → List ℕ
figures_bytes f = ((be 8 f.messages ++ (be 8 f.bytes ++ be 8 f.items)) ++ (be 8 f.unknown ++ be 8 f.relative)) ++ lines_bytes f.lines

-- the bytes that so many lines need; 16 asks for them
abbrev pub bytes_for : ℕ → ℕ
bytes_for n = 40 + 16 * n

abbrev pub shown_of : ℕ → ℕ → Result ℕ Refusal
shown_of n room = cond (ltb room (bytes_for n)) (refused 16 (bytes_for n)) (Ok n)

abbrev pub room_after : Result ℕ Refusal → List ℕ → List ℕ → List ℕ
room_after (Err e) u out = out
room_after (Ok n) u out = u ++ drop (bytes_for n) out

pub record Shows (ws out : List ℕ) (r : Result ℕ Refusal) (out' : List ℕ) : Type 0 where
  pub short : length ws < words → (r ≡ refused 16 (words * 8)) × (out' ≡ out)
  pub figures_are : (f : Figures) → Holds ws f → (r ≡ shown_of (length f.lines) (length out)) × (out' ≡ room_after r (figures_bytes f) out)
