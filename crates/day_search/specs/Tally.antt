-- Private to src/: what is found, message by message.
use Rattle.std.specs.Prelude.{ℕ, zero, suc, ◌+◌, ◌*◌, ◌≡◌, Bool, false, cond, List, [], ◌++◌, length, eqb, ltb}
use Rattle.std.proofs.lemmas.List.Edits.{sets}
use Rattle.std.specs.declared.result.Result.{Result}
use Rattle.std.specs.declared.result.Result.TheVariants.{Ok}
use Rattle.ari.specs.declared.Limits.{Limits}
use Rattle.ari.specs.declared.Refusal.{Refusal}
use Rattle.ari.specs.Refusals.{refused}
use Rattle.ari.specs.declared.Input.TheVariants.{Message}
use Rattle.ari.specs.Reader.{Answer, accept, refuse, read}
use Rattle.ari.specs.Listing.{Entry}
use Rattle.listing.specs.declared.Namespace.{Namespace}
use Rattle.listing.specs.declared.Namespace.TheVariants as code
use Rattle.names.specs.Translated.{translated}
use Rattle.day_file.specs.declared.Format.{Format}
use Rattle.day_file.specs.Day.{first_at, message_at}
use Rattle.day_search.specs.Search.{Hit, hits_in, hits_bytes}

-- a namespace as the code has it
abbrev pub is_sought : ℕ → Namespace → Bool
is_sought w (code.Number v) = eqb v w
is_sought w (code.Name p n) = false
is_sought w code.Relative = false

-- those of a message that is accepted, and none of another
abbrev pub hits_by : Answer → ℕ → ℕ → ℕ → List Entry → List Hit
hits_by (accept n) w k at es = hits_in w k at es
hits_by (refuse r p) w k at es = []

unfoldable pub hits_within : Limits → List ℕ → List ℕ → ℕ → ℕ → ℕ → List ℕ → List Hit
hits_within m published own w k at x = hits_by (read m Message x) w k at (translated published own x)

-- of n messages from k on
abbrev pub hits_over : Format → Limits → List ℕ → List ℕ → List ℕ → ℕ → ℕ → ℕ → List Hit
hits_over f m b published own w k zero = []
hits_over f m b published own w k (suc n) = hits_within m published own w k (first_at f b k) (message_at f b k) ++ hits_over f m b published own w (suc k) n

-- in lent room, from entry c on, as far as there is room; r is the number behind them
pub record Finds (room room' : List ℕ) (c r : ℕ) (hs : List Hit) : Type 0 where
  pub bytes : room' ≡ sets room (24 * c) (hits_bytes hs)
  pub count : r ≡ c + length hs

-- what so many answer
abbrev pub found_or : ℕ → ℕ → Result ℕ Refusal
found_or c room = cond (ltb room c) (refused 16 c) (Ok c)
