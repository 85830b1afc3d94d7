-- The table of a text: R125, R126. Interface: lines, contents, table_of, packed, room_after. Private to src/: HasRoom, TakenAt.
use Rattle.std.specs.Prelude.{ℕ, ◌+◌, ◌≤◌, ◌<◌, ◌≡◌, cond, List, [], ◌∷◌, ◌++◌, map, length, drop, leb, eqb}
use Rattle.std.proofs.lemmas.List.Edits.{sets}
use Rattle.buffer.specs.Bytes.{be}
use Rattle.grant_text.specs.declared.Line.{Line}
use Rattle.grant_text.specs.declared.Line.TheVariants.{Blank, Grant, Bad}
use Rattle.grant_text.specs.declared.Taken.{Taken}
use Rattle.std.specs.declared.result.Result.{Result}
use Rattle.std.specs.declared.result.Result.TheVariants.{Ok, Err}
use Rattle.grant_text.specs.declared.Fault.{Fault}
use Rattle.grant_text.specs.declared.Fault.TheVariants as fault
use Rattle.grant_text.specs.Rows.{row_of}

abbrev pub onto : ℕ → List (List ℕ) → List (List ℕ)
onto x [] = (x ∷ []) ∷ []
onto x (l ∷ ls) = (x ∷ l) ∷ ls

-- the lines of a text, without their ends; behind the last end there is none
unfoldable pub lines : List ℕ → List (List ℕ)
lines [] = []
lines (x ∷ t) = let r = lines t in cond (eqb x 10) ([] ∷ r) (onto x r)

unfoldable pub contents : List ℕ → List Line
contents t = map row_of (lines t)

-- behind k lines and n rows, where so many rows have room
abbrev pub gather : ℕ → ℕ → ℕ → List Line → Result ℕ Fault
gather room k n [] = Ok n
gather room k n (Blank ∷ ls) = gather room (k + 1) n ls
gather room k n (Grant s w ∷ ls) = let r = gather room (k + 1) (n + 1) ls in cond (leb room n) (Err (fault.Full (k + 1))) r
gather room k n (Bad ∷ ls) = Err (fault.Bad (k + 1))

unfoldable pub table_of : List ℕ → ℕ → Result ℕ Fault
table_of t room = gather room 0 0 (contents t)

-- R93: 16 bytes a row
abbrev pub packed : List Line → List ℕ
packed [] = []
packed (Blank ∷ ls) = packed ls
packed (Grant s w ∷ ls) = (be 8 s ++ be 8 w) ++ packed ls
packed (Bad ∷ ls) = packed ls

-- what the room holds at the end: the rows of a text that gives some; otherwise it is as it was
abbrev pub room_after : Result ℕ Fault → List ℕ → List ℕ → List ℕ
room_after (Ok n) t xs = sets xs 0 (packed (contents t))
room_after (Err e) t xs = xs

-- a text is a table of no more rows than there is room for
pub record HasRoom (t : List ℕ) (room : ℕ) : Type 0 where
  pub rows : ℕ
  pub is : table_of t room ≡ Ok rows

-- the line from a place on, and the place of the next
pub record TakenAt (t : List ℕ) (a : ℕ) (r : Taken) : Type 0 where
  pub is : contents (drop a t) ≡ r.content ∷ contents (drop r.next t)
  pub on : a < r.next
  pub inside : r.next ≤ length t
