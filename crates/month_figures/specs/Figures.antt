-- Month figures: R209 to R213. Interface: all of it. There is no state in it: each figure is a sum over the messages of the month.
use Rattle.std.specs.Prelude.{ℕ, ◌+◌, ◌-◌, Bool, true, false, ◌&&◌, cond, List, [], ◌∷◌, ◌++◌, map, length, ℤ, ltb, leb, eqb}
use Rattle.ari.specs.Signed.{word}
use Rattle.ari.specs.Items.{heads}
use Rattle.ari.specs.Decode.{decode}
use Rattle.ari.specs.Listing.{Space, number, name, relative, Entry}
use Rattle.names.specs.Translated.{translated}
use Rattle.day_file.specs.declared.Format.{Format}
use Rattle.day_file.specs.Day.{messages_in}
use Rattle.month_lines.specs.Lines.{Line, counted, most_total}

-- R209: a day file, and the two lists of names that are given with it
pub record Source : Type 0 where
  pub format : Format
  pub file : List ℕ
  pub published : List ℕ
  pub own : List ℕ

-- a message of it: its bytes, and the namespaces of all references that are listed of it, each with what it stands for by these lists
pub record Message : Type 0 where
  pub bytes : List ℕ
  pub spaces : List Space

abbrev pub space_of : Entry → Space
space_of e = e.space

abbrev pub message_with : List ℕ → List ℕ → List ℕ → Message
message_with published own x = record { bytes = x; spaces = map space_of (translated published own x) }

abbrev pub messages_of : Source → List Message
messages_of s = map (message_with s.published s.own) (messages_in s.format s.file)

-- the messages of all files
abbrev pub month : List Source → List Message
month [] = []
month (s ∷ ss) = messages_of s ++ month ss

-- R210: a sum over messages; what a message adds to it
abbrev pub total : (Message → ℕ) → List Message → ℕ
total f [] = 0
total f (x ∷ xs) = f x + total f xs

abbrev pub one_each : Message → ℕ
one_each x = 1

abbrev pub bytes_in : Message → ℕ
bytes_in x = length x.bytes

abbrev pub items_in : Message → ℕ
items_in x = heads (decode x.bytes)

-- R211: its references of a kind: names that stand for no number, relative ones, and those to the namespace at a place
abbrev pub many : (Space → Bool) → List Space → ℕ
many p [] = 0
many p (x ∷ xs) = cond (p x) 1 0 + many p xs

abbrev pub is_unknown : Space → Bool
is_unknown (number z) = false
is_unknown (name p n) = true
is_unknown relative = false

abbrev pub is_relative : Space → Bool
is_relative (number z) = false
is_relative (name p n) = false
is_relative relative = true

-- R212: the place of a number among all numbers of 64 bits in rising order, by its word in two's complement, and back: 2^63 more in 64 bits
abbrev pub half : ℕ
half = 9223372036854775808

abbrev pub turned : ℕ → ℕ
turned w = cond (ltb w half) (w + half) (w - half)

abbrev pub place_of : ℤ → ℕ
place_of z = turned (word z)

abbrev pub is_at : ℕ → Space → Bool
is_at p (number z) = eqb (place_of z) p
is_at p (name q n) = false
is_at p relative = false

abbrev pub many_in : (Space → Bool) → Message → ℕ
many_in p x = many p x.spaces

-- all references of the month
abbrev pub spaces_of : List Message → List Space
spaces_of [] = []
spaces_of (x ∷ xs) = x.spaces ++ spaces_of xs

abbrev pub places : List Space → List ℕ
places [] = []
places (number z ∷ xs) = place_of z ∷ places xs
places (name p n ∷ xs) = places xs
places (relative ∷ xs) = places xs

-- the lines when these are counted too
abbrev pub lines_from : List Line → List ℕ → List Line
lines_from ls [] = ls
lines_from ls (p ∷ ps) = lines_from (counted p ls) ps

pub record Figures : Type 0 where
  pub messages : ℕ
  pub bytes : ℕ
  pub items : ℕ
  pub unknown : ℕ
  pub relative : ℕ
  pub lines : List Line

unfoldable pub figures : List Message → Figures
figures xs = record {
  messages = total one_each xs;
  bytes = total bytes_in xs;
  items = total items_in xs;
  unknown = total (many_in is_unknown) xs;
  relative = total (many_in is_relative) xs;
  lines = lines_from [] (places (spaces_of xs));
}

-- R213: no total is above the most that one may be
abbrev pub lines_fit : List Line → Bool
lines_fit [] = true
lines_fit (l ∷ ls) = leb l.references most_total && lines_fit ls

abbrev pub fits : Figures → Bool
fits f =
    leb f.messages most_total && (leb f.bytes most_total && (leb f.items most_total && (leb f.unknown most_total && (leb f.relative most_total && lines_fit f.lines))))
