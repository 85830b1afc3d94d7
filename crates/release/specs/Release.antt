-- Release: R86 to R91, R96, R97, over the numbers that names stand for (R146 to R149). Interface: all of it.
use Rattle.std.specs.Prelude.{ℕ, suc, ◌/◌, Bool, cond, List, [], ◌∷◌, length}
use Rattle.ari.specs.declared.Limits.{Limits}
use Rattle.ari.specs.declared.Input.TheVariants.{Message}
use Rattle.ari.specs.Reader.{Answer, refuse, accept, read}
use Rattle.ari.specs.Listing.{Space, Entry}
use Rattle.names.specs.declared.Names.{Names}
use Rattle.names.specs.declared.Names.TheVariants as lists
use Rattle.names.specs.Names.{check_names}
use Rattle.names.specs.Translated.{translated}
use Rattle.grants.specs.Grants.{Grant, granted}
use Rattle.grants.specs.Bytes.{rows, ragged}
use Rattle.std.specs.declared.result.Result.{Result}
use Rattle.std.specs.declared.result.Result.TheVariants.{Ok, Err}
use Rattle.ari.specs.declared.Refusal.{Refusal}
use Rattle.ari.specs.Refusals.{number_of}
use Rattle.release.specs.declared.Released.{Released}
use Rattle.release.specs.declared.Released.TheVariants.{Yes, No}

-- R86: the message's refusal, yes, or no with an entry, counted from 0
pub data Release : Type 0 where
  refused : ℕ → ℕ → Release  -- number, place
  yes : Release
  no : ℕ → Release

abbrev pub judge_from : (Space → Bool) → ℕ → List Entry → Release
judge_from ok i [] = yes
judge_from ok i (e ∷ es) = let r = judge_from ok (suc i) es in cond (ok e.space) r (no i)

abbrev pub judge : Answer → (Space → Bool) → List Entry → Release
judge (refuse r p) ok es = refused r p
judge (accept n) ok es = judge_from ok 0 es

-- R86, R147: the message's listing is judged, with what its namespaces stand for; the table's check isn't run (R91)
unfoldable pub release : Limits → List ℕ → List Grant → List ℕ → List ℕ → ℕ → Release
release m b t published own s = judge (read m Message b) (granted t s) (translated published own b)

-- R148: the message's refusal, then 19, then what is behind them
abbrev pub with_lists : Names → Release → Release
with_lists lists.Passes x = x
with_lists (lists.Refused p) x = refused 19 p

abbrev pub after_lists : Answer → Names → Release → Release
after_lists (refuse r p) c x = refused r p
after_lists (accept n) c x = with_lists c x

unfoldable pub release_rows : Limits → List ℕ → List Grant → List ℕ → List ℕ → ℕ → Release
release_rows m b t published own s = after_lists (read m Message b) (check_names published own) (release m b t published own s)

-- R96, R97: release by a table as bytes; no whole rows are 18, after 19
unfoldable pub release_bytes : Limits → List ℕ → List ℕ → List ℕ → List ℕ → ℕ → Release
release_bytes m b t published own s =
    after_lists (read m Message b) (check_names published own) (cond (ragged t) (refused 18 (length t / 16)) (release m b (rows t) published own s))

-- the code's answer in these terms, without its count
abbrev pub answer_of : Result Released Refusal → Release
answer_of (Ok (Yes c)) = yes
answer_of (Ok (No k c)) = no k
answer_of (Err e) = refused (number_of e.fault) e.place
