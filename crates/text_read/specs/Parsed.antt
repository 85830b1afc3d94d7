-- The walk that reads a text: what it puts, and where it ends. Private to src/: Parsed, Begins, middle.
use Rattle.std.specs.Prelude.{ℕ, ◌+◌, ◌≤◌, ◌≡◌, cond, List, length, drop}
use Prim.Native.Char.{code}
use Rattle.ari.specs.Items.{encode}
use Rattle.buffer.specs.Put.{Put}
use Rattle.text.specs.Parse.{starts, Run}
use Rattle.text_read.specs.declared.Pos.{Pos}

-- The bytes of a run's items are put. Where they fit, the text behind the run is what is left of it.
pub record Parsed (t : List ℕ) (run : Run) (at : ℕ) (room room' : List ℕ) (w : Pos) : Type 0 where
  pub within : w.next ≤ length t
  pub put : Put room room' at w.end (encode run.items)
  pub rest_is : at + length (encode run.items) ≤ length room → drop w.next t ≡ run.rest

-- R99: behind the scheme, which only a relative reference lacks
pub record Begins (t : List ℕ) (r : ℕ) : Type 0 where
  pub is : drop r t ≡ cond (starts (code ".") t) t (drop 4 t)
  pub inside : r ≤ length t

-- a text of fewer bytes is read in less room
abbrev pub middle : ℕ
middle = 16384
