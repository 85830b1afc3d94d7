-- How many grant rows a release compares: R150 to R153. Interface: all of it.
use Rattle.std.specs.Prelude.{ℕ, suc, ◌+◌, ◌-◌, ◌^◌, min, Bool, cond, List, [], ◌∷◌}
use Rattle.ari.specs.Listing.{Space, number, name, relative, Entry}
use Rattle.names.specs.Translated.{translated}
use Rattle.grants.specs.Grants.{Grant, holds, granted}
use Rattle.ari.specs.declared.Limits.{Limits}
use Rattle.grants.specs.Bytes.{rows}
use Rattle.std.specs.declared.result.Result.{Result}
use Rattle.std.specs.declared.result.Result.TheVariants.{Ok, Err}
use Rattle.ari.specs.declared.Refusal.{Refusal}
use Rattle.ari.specs.Refusals as refusals
use Rattle.release.specs.Release.{Release, refused, yes, no, judge_from, release_rows, release_bytes}
use Rattle.release.specs.declared.Released.{Released}
use Rattle.release.specs.declared.Released.TheVariants.{Yes, No}

-- R150: the rows from the front up to and including the first that is as asked, or all rows
abbrev pub rows_up_to : (Grant → Bool) → List Grant → ℕ
rows_up_to p [] = 0
rows_up_to p (g ∷ gs) = suc (cond (p g) 0 (rows_up_to p gs))

-- for one namespace: a name that has no number and a relative one cost none
abbrev pub compared_for : List Grant → ℕ → Space → ℕ
compared_for t s (number z) = rows_up_to (holds s z) t
compared_for t s (name p n) = 0
compared_for t s relative = 0

-- R151: for each entry up to and including the first that is not granted
abbrev pub compared_over : List Grant → ℕ → List Entry → ℕ
compared_over t s [] = 0
compared_over t s (e ∷ es) = let r = compared_over t s es in compared_for t s e.space + cond (granted t s e.space) r 0

-- R152: as far as 64 bits go
abbrev pub within64 : ℕ → ℕ
within64 n = min n (2 ^ 64 - 1)

unfoldable pub compared : List Grant → List ℕ → List ℕ → List ℕ → ℕ → ℕ
compared t b published own s = within64 (compared_over t s (translated published own b))

-- R153: yes and no have the count, a refusal has none
pub data Counted : Type 0 where
  yes_after : ℕ → Counted  -- rows compared
  no_after : ℕ → ℕ → Counted  -- entry, rows compared
  uncounted : ℕ → ℕ → Counted  -- number, place

abbrev pub with_count : Release → ℕ → Counted
with_count yes c = yes_after c
with_count (no k) c = no_after k c
with_count (refused r p) c = uncounted r p

-- the release without its count
abbrev pub release_of : Counted → Release
release_of (yes_after c) = yes
release_of (no_after k c) = no k
release_of (uncounted r p) = refused r p

-- what the code answers for it
abbrev pub answered : Counted → Result Released Refusal
answered (yes_after c) = Ok (Yes c)
answered (no_after k c) = Ok (No k c)
answered (uncounted r p) = refusals.refused r p

abbrev pub counted : Release → ℕ → Result Released Refusal
counted x c = answered (with_count x c)

-- a lent number after a release: the count, and as it was where there is none
abbrev pub count_after : Result Released Refusal → ℕ → ℕ
count_after (Ok (Yes c)) was = c
count_after (Ok (No k c)) was = c
count_after (Err e) was = was

-- release with its count, by rows and by a table as bytes
unfoldable pub counted_rows : Limits → List ℕ → List Grant → List ℕ → List ℕ → ℕ → Result Released Refusal
counted_rows m b t published own s = counted (release_rows m b t published own s) (compared t b published own s)

unfoldable pub counted_bytes : Limits → List ℕ → List ℕ → List ℕ → List ℕ → ℕ → Result Released Refusal
counted_bytes m b t published own s = counted (release_bytes m b t published own s) (compared (rows t) b published own s)

-- what entries give, with the rows compared
abbrev pub judged_over : List Grant → ℕ → List Entry → Result Released Refusal
judged_over t s es = counted (judge_from (granted t s) 0 es) (within64 (compared_over t s es))
