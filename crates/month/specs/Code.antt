-- Private to src/: figures that are counted on, reference by reference, and the words that stand for them meanwhile.
use Rattle.std.specs.Prelude.{ℕ, ◌+◌, ◌<◌, ◌≤◌, min, ◌≡◌, Bool, true, false, ◌&&◌, List, [], ◌∷◌, map, take, ltb}
use Rattle.std.proofs.lemmas.List.Edits.{sets}
use Rattle.std.proofs.Math.Seq.{paste}
use Rattle.buffer.specs.Bytes.{all}
use Rattle.std.specs.declared.result.Result.{Result}
use Rattle.std.specs.declared.result.Result.TheVariants.{Ok, Err}
use Rattle.ari.specs.declared.Refusal.{Refusal}
use Rattle.ari.specs.declared.Limits.{Limits}
use Rattle.ari.specs.declared.Input.TheVariants as input
use Rattle.ari.specs.Listing.{Space, number, name, relative}
use Rattle.ari.specs.Reader.{read}
use Rattle.listing.specs.declared.Namespace.{Namespace}
use Rattle.listing.specs.declared.Namespace.TheVariants as code
use Rattle.day_file.specs.declared.Format.{Format}
use Rattle.day_file.specs.Day.{is_accepted, message_stands, first_not, messages_from, messages_in, check_day}
use Rattle.month_lines.specs.Lines.{counted, most_lines}
use Rattle.month_lines.specs.Code.{beyond, capped, Lined}
use Rattle.month_figures.specs.Figures.{Message, message_with, turned, place_of, bytes_in, items_in, Figures}
use Rattle.month_figures.specs.State.{first_place, first_amount, word, Holds}
use Rattle.month.specs.declared.Tally.{Tally}
use Rattle.month.specs.Adding.{judged}

-- one reference more
abbrev pub with_line : ℕ → Figures → Figures
with_line p f = record { messages = f.messages; bytes = f.bytes; items = f.items; unknown = f.unknown; relative = f.relative; lines = counted p f.lines }

abbrev pub with_unknown : Figures → Figures
with_unknown f = record { messages = f.messages; bytes = f.bytes; items = f.items; unknown = f.unknown + 1; relative = f.relative; lines = f.lines }

abbrev pub with_relative : Figures → Figures
with_relative f = record { messages = f.messages; bytes = f.bytes; items = f.items; unknown = f.unknown; relative = f.relative + 1; lines = f.lines }

abbrev pub with_space : Space → Figures → Figures
with_space (number z) f = with_line (place_of z) f
with_space (name p n) f = with_unknown f
with_space relative f = with_relative f

abbrev pub with_spaces : List Space → Figures → Figures
with_spaces [] f = f
with_spaces (x ∷ xs) f = with_spaces xs (with_space x f)

-- as the code has it
abbrev pub with_code : Namespace → Figures → Figures
with_code (code.Number w) f = with_line (turned w) f
with_code (code.Name p n) f = with_unknown f
with_code code.Relative f = with_relative f

-- a message more: first without its references
abbrev pub with_size : ℕ → ℕ → Figures → Figures
with_size b i f = record { messages = f.messages + 1; bytes = f.bytes + b; items = f.items + i; unknown = f.unknown; relative = f.relative; lines = f.lines }

abbrev pub with_message : Message → Figures → Figures
with_message x f = with_spaces x.spaces (with_size (bytes_in x) (items_in x) f)

abbrev pub with_messages : List Message → Figures → Figures
with_messages [] f = f
with_messages (x ∷ xs) f = with_messages xs (with_message x f)

-- A tally and two rows of words stand for figures. A total that is beyond the most, or lines that are too many, stand for all such.
pub record Held (t : Tally) (ps cs : List ℕ) (f : Figures) : Type 0 where
  pub messages : t.messages ≡ capped f.messages
  pub bytes : t.bytes ≡ capped f.bytes
  pub items : t.items ≡ capped f.items
  pub unknown : t.unknown ≡ capped f.unknown
  pub relative : t.relative ≡ capped f.relative
  pub lined : Lined ps cs t.lines f.lines

-- what stood for figures stands for others
pub record Goes (t : Tally) (ps cs : List ℕ) (g : Figures → Figures) (t' : Tally) (ps' cs' : List ℕ) : Type 0 where
  pub on : (f : Figures) → Held t ps cs f → Held t' ps' cs' (g f)

abbrev pub with_counts : Tally → ℕ → ℕ → ℕ → Tally
with_counts t u r n = record { messages = t.messages; bytes = t.bytes; items = t.items; unknown = u; relative = r; lines = n }

abbrev pub sized : Tally → ℕ → ℕ → Tally
sized t b i = record { messages = min (t.messages + 1) beyond; bytes = min (t.bytes + b) beyond; items = min (t.items + i) beyond; unknown = t.unknown; relative = t.relative; lines = t.lines }

-- a message is counted, or it is refused
abbrev pub MessageBy : Limits → List ℕ → List ℕ → List ℕ → Tally → List ℕ → List ℕ → Result Tally Refusal → List ℕ → List ℕ → Type 0
MessageBy m b published own t ps cs (Ok t') ps' cs' = (is_accepted (read m input.Message b) ≡ true) × Goes t ps cs (with_message (message_with published own b)) t' ps' cs'
MessageBy m b published own t ps cs (Err e) ps' cs' = is_accepted (read m input.Message b) ≡ false

pub record MessageWalked (m : Limits) (b published own : List ℕ) (t : Tally) (ps cs : List ℕ) (r : Result Tally Refusal) (ps' cs' : List ℕ) : Type 0 where
  pub by : MessageBy m b published own t ps cs r ps' cs'

-- a state's words, taken out
abbrev pub tally_in : List ℕ → Tally
tally_in ws = record { messages = word ws 0; bytes = word ws 1; items = word ws 2; unknown = word ws 3; relative = word ws 4; lines = min (word ws 5) 256 }

pub record Fetches (ws : List ℕ) (t : Tally) (ps cs : List ℕ) : Type 0 where
  pub held : (f : Figures) → Holds ws f → Held t ps cs f

-- with all messages of a file; or the first that is refused is known
abbrev pub CountedBy : Format → Limits → List ℕ → ℕ → List ℕ → List ℕ → List ℕ → Result Tally ℕ → List ℕ → List ℕ → Type 0
CountedBy f m b n published own ws (Ok t) ps cs =
    (n ≡ first_not (message_stands f m b) 0 n) × ((x : Figures) → Holds ws x → Held t ps cs (with_messages (map (message_with published own) (messages_from f b 0 n)) x))
CountedBy f m b n published own ws (Err k) ps cs = (k ≡ first_not (message_stands f m b) 0 n) × (k < n)

pub record CountedOn (f : Format) (m : Limits) (b : List ℕ) (n : ℕ) (published own ws : List ℕ) (r : Result Tally ℕ) (ps cs : List ℕ) : Type 0 where
  pub by : CountedBy f m b n published own ws r ps cs

-- and put back
abbrev pub tally_words : Tally → List ℕ
tally_words t = t.messages ∷ t.bytes ∷ t.items ∷ t.unknown ∷ t.relative ∷ t.lines ∷ []

unfoldable pub put_back : List ℕ → Tally → List ℕ → List ℕ → List ℕ
put_back ws t ps cs = paste (paste (sets ws 0 (tally_words t)) first_place ps t.lines) first_amount cs t.lines

-- no total is beyond
abbrev pub is_small : ℕ → Bool
is_small x = ltb x beyond

abbrev pub totals_small : Tally → Bool
totals_small t = is_small t.messages && (is_small t.bytes && (is_small t.items && (is_small t.unknown && is_small t.relative)))

abbrev pub lines_small : List ℕ → ℕ → Bool
lines_small cs n = all is_small (take n cs)

pub record Judges (t : Tally) (cs : List ℕ) (r : Result (Unit {0}) Refusal) : Type 0 where
  pub answer : (ps : List ℕ) (f : Figures) → Held t ps cs f → r ≡ judged f
  pub few : r ≡ Ok tt → t.lines ≤ most_lines

-- the words when a file has been counted, or as they were
pub record Settles (ws : List ℕ) (t : Tally) (ps cs : List ℕ) (r : Result (Unit {0}) Refusal) (ws' : List ℕ) : Type 0 where
  pub kept : (r ≡ Ok tt → ⊥) → ws' ≡ ws
  pub answer : (f : Figures) → Held t ps cs f → (r ≡ judged f) × (r ≡ Ok tt → Holds ws' f)

-- what the figures say with all messages of a file whose lists are well-formed
abbrev pub filed_by : Result ℕ Refusal → Figures → Result (Unit {0}) Refusal
filed_by (Err e) f = Err e
filed_by (Ok n) f = judged f

pub record Files (f : Format) (m : Limits) (b published own ws : List ℕ) (r : Result (Unit {0}) Refusal) (ws' : List ℕ) : Type 0 where
  pub kept : (r ≡ Ok tt → ⊥) → ws' ≡ ws
  pub answer : (x : Figures) → Holds ws x
      → (r ≡ filed_by (check_day f m b) (with_messages (map (message_with published own) (messages_in f b)) x)) × (r ≡ Ok tt → Holds ws' (with_messages (map (message_with published own) (messages_in f b)) x))
