-- R151 to R153: the count is at most entries times rows, and beside it release answers what it answers without. The idea: each entry costs each row once at
-- the most.
use Prim.Native.Nat.{ℕ, suc, ◌+◌, ◌*◌, ◌/◌, ◌≤◌}
use mathlib.Core.Path.{◌≡◌, refl, ap}
use mathlib.Core.Bool.{Bool, true, false, cond}
use mathlib.Core.List.{List, [], ◌∷◌}
use native.Mathlib.Omega.{arith}
use lib.ListN.{length, length-map}
use Rattle.ari.specs.declared.Limits.{Limits}
use Rattle.ari.specs.Listing.{Space, number, name, relative, Entry, listing}
use Rattle.names.specs.Translated.{translate, translated}
use Rattle.grants.specs.Grants.{Grant, holds, granted}
use Rattle.grants.specs.Bytes.{rows, ragged}
use Rattle.ari.specs.declared.Input.TheVariants.{Message}
use Rattle.ari.specs.Reader.{Answer}
use Rattle.ari.proofs.Refusals.{IsNumber, number_of-fault_of, read_numbered}
use Rattle.ari.proofs.Refusals as answers
use Rattle.names.specs.declared.Names.{Names}
use Rattle.names.specs.declared.Names.TheVariants.{Passes, Refused}
use Rattle.names.specs.Names.{check_names}
use Rattle.release.specs.Release.{Release, refused, yes, no, judge_from, judge, release, after_lists, release_rows, release_bytes, answer_of}
use Rattle.release.specs.Compared.{rows_up_to, compared_for, compared_over, compared, with_count, release_of, counted, counted_rows, counted_bytes}

-- The yes, the no and its entry, and the refusals are those of the release without its count.
pub without_count : (x : Release) (c : ℕ) → release_of (with_count x c) ≡ x
without_count yes c = refl
without_count (no k) c = refl
without_count (refused r p) c = refl

-- a refusal with a number that the rules have, or none
pub data Numbered : Release → Type 0 where
  refusal : {r p : ℕ} → IsNumber r → Numbered (refused r p)
  released : Numbered yes
  held : {k : ℕ} → Numbered (no k)

-- So they are of what the code answers, where a refusal has a number that the rules have.
pub counted_back : {x : Release} → Numbered x → (c : ℕ) → answer_of (counted x c) ≡ x
counted_back released c = refl
counted_back held c = refl
counted_back (refusal {r} {p} i) c = ap (λ (n : ℕ). refused n p) (number_of-fault_of r i)

judged_numbered : (ok : Space → Bool) (i : ℕ) (es : List Entry) → Numbered (judge_from ok i es)
judged_numbered ok i [] = released
judged_numbered ok i (e ∷ es) = go (ok e.space) (judged_numbered ok (suc i) es)
  where
    go : (x : Bool) → Numbered (judge_from ok (suc i) es) → Numbered (cond x (judge_from ok (suc i) es) (no i))
    go true h = h
    go false h = held

judge_numbered : {a : Answer} → answers.Numbered a → (ok : Space → Bool) (es : List Entry) → Numbered (judge a ok es)
judge_numbered (answers.refused i) ok es = refusal i
judge_numbered answers.accepted ok es = judged_numbered ok 0 es

listed_numbered : {a : Answer} → answers.Numbered a → (c : Names) (x : Release) → Numbered x → Numbered (after_lists a c x)
listed_numbered (answers.refused i) c x h = refusal i
listed_numbered answers.accepted Passes x h = h
listed_numbered answers.accepted (Refused p) x h = refusal (record { from = omega arith; to = omega arith })

module _ (m : Limits) (b published own : List ℕ) (s : ℕ) where
  judged : (t : List Grant) → Numbered (release m b t published own s)
  unfolding release
  judged t = judge_numbered (read_numbered m Message b) (granted t s) (translated published own b)

  ragged_numbered : (x : Bool) (n : ℕ) (t : List Grant) → Numbered (cond x (refused 18 n) (release m b t published own s))
  ragged_numbered true n t = refusal (record { from = omega arith; to = omega arith })
  ragged_numbered false n t = judged t

  -- Each refusal has a number that the rules have.
  pub rows_numbered : (t : List Grant) → Numbered (release_rows m b t published own s)
  unfolding release_rows
  rows_numbered t = listed_numbered (read_numbered m Message b) (check_names published own) (release m b t published own s) (judged t)

  pub bytes_numbered : (t : List ℕ) → Numbered (release_bytes m b t published own s)
  unfolding release_bytes
  bytes_numbered t = listed_numbered (read_numbered m Message b) (check_names published own) (cond (ragged t) (refused 18 (length t / 16)) (release m b (rows t) published own s)) (ragged_numbered (ragged t) (length t / 16) (rows t))

  pub rows_without_count : (t : List Grant) → answer_of (counted_rows m b t published own s) ≡ release_rows m b t published own s
  unfolding counted_rows
  rows_without_count t = counted_back (rows_numbered t) (compared t b published own s)

  pub bytes_without_count : (t : List ℕ) → answer_of (counted_bytes m b t published own s) ≡ release_bytes m b t published own s
  unfolding counted_bytes
  bytes_without_count t = counted_back (bytes_numbered t) (compared (rows t) b published own s)

  -- So it is of every release.
  pub of_every_release : ((t : List Grant) → answer_of (counted_rows m b t published own s) ≡ release_rows m b t published own s)
      × ((t : List ℕ) → answer_of (counted_bytes m b t published own s) ≡ release_bytes m b t published own s)
  of_every_release = (rows_without_count, bytes_without_count)

-- each row once
rows_at_most : (p : Grant → Bool) (t : List Grant) → rows_up_to p t ≤ length t
rows_at_most p [] = omega arith
rows_at_most p (g ∷ gs) = go (p g) (rows_at_most p gs)
  where
    go : (x : Bool) → rows_up_to p gs ≤ length gs → suc (cond x 0 (rows_up_to p gs)) ≤ length (g ∷ gs)
    go true h = omega arith
    go false h = omega arith

module _ (t : List Grant) (s : ℕ) where
  one_at_most : (x : Space) → compared_for t s x ≤ length t
  one_at_most (number z) = rows_at_most (holds s z) t
  one_at_most (name p n) = omega arith
  one_at_most relative = omega arith

  all_at_most : (es : List Entry) → compared_over t s es ≤ length es * length t
  all_at_most [] = omega arith
  all_at_most (e ∷ es) = go (granted t s e.space) (one_at_most e.space) (all_at_most es)
    where
      go : (x : Bool) → compared_for t s e.space ≤ length t → compared_over t s es ≤ length es * length t
          → compared_for t s e.space + cond x (compared_over t s es) 0 ≤ suc (length es) * length t
      go true h i = omega arith
      go false h i = omega arith

-- It is at most the entries times the rows.
pub entries_times_rows : (t : List Grant) (b published own : List ℕ) (s : ℕ) → compared t b published own s ≤ length (listing b) * length t
unfolding compared
entries_times_rows t b published own s =
    let h : compared_over t s (translated published own b) ≤ length (translated published own b) * length t = all_at_most t s (translated published own b) in
    let l : length (translated published own b) ≡ length (listing b) = length-map (listing b) (translate published own) in
    let i : compared_over t s (translated published own b) ≤ length (listing b) * length t = rw l at h in
    omega arith

-- So wherever that product keeps within 64 bits, the count is exact.
pub exact : (t : List Grant) (b published own : List ℕ) (s : ℕ) → length (listing b) * length t ≤ 18446744073709551615
    → compared t b published own s ≡ compared_over t s (translated published own b)
unfolding compared
exact t b published own s k =
    let h : compared_over t s (translated published own b) ≤ length (translated published own b) * length t = all_at_most t s (translated published own b) in
    let l : length (translated published own b) ≡ length (listing b) = length-map (listing b) (translate published own) in
    let i : compared_over t s (translated published own b) ≤ length (listing b) * length t = rw l at h in
    omega arith
