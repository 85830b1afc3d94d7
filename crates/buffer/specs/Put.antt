-- What a writer does to lent room. Interface: Put.
use Rattle.std.specs.Prelude.{ℕ, ◌+◌, min, max, ◌≡◌, List, length}
use Rattle.std.proofs.lemmas.List.Edits.{sets}

-- The bytes u stand in the room from a place on, and r is the place behind them: what there is no room for is left out.
pub record Put (room room' : List ℕ) (at r : ℕ) (u : List ℕ) : Type 0 where
  pub bytes : room' ≡ sets room at u
  pub place : r ≡ min (at + length u) (max at (length room))
