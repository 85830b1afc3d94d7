-- From the message's answer and table to what is listed and written.
use Prim.Native.Nat.{ℕ, ◌*◌, ◌/◌, ◌<◌, ◌≤◌}
use mathlib.Core.Path.{◌≡◌, refl, ◌∙◌}
use mathlib.Core.List.{List}
use native.Mathlib.Omega.{arith}
use lib.ListN.{length, get_or}
use borrow.Author.Tests.{lt-ltb, le-ltb}
use Rattle.ari.specs.declared.Limits.{Limits}
use Rattle.ari.specs.declared.Input.TheVariants.{Message}
use Rattle.ari.specs.Reader.{accept, read}
use Rattle.ari.specs.Reader as reader
use Rattle.ari.specs.Listing.{listing}
use Rattle.item_table.specs.References.{Referenced}
use Rattle.std.specs.declared.result.Result.{Result}
use Rattle.std.specs.declared.result.Result.TheVariants.{Ok, Err}
use Rattle.ari.specs.declared.Refusal.{Refusal}
use Rattle.ari.specs.Refusals.{refused}
use Rattle.reader.specs.Results.{result_of}
use Rattle.reader.proofs.Results.{is_accepted, is_refused}
use Rattle.listing.specs.declared.Listed.{Listed}
use Rattle.listing.specs.Answers.{listed_of, list_of, written_by, written_of}
use Rattle.listing.proofs.Kept.{number_is}

-- The room for a table's listing, in whole entries; what is answered tells what is written.
module _ (room : ℕ) {m : Limits} {b t : List ℕ} {n : ℕ} (c : Referenced m Message b n t) {k : ℕ} (e : k ≡ get_or t 0 0) where
  as_listed : k ≡ length (listing b)
  as_listed = e ∙ number_is c

  pub room_short : room / 24 < k → refused 16 k ≡ listed_of (accept n) (listing b) (room / 24)
  room_short h =
      let g : room / 24 < length (listing b) = omega (arith, as_listed, h) in
      rw (lt-ltb (room / 24) (length (listing b)) g, as_listed)

  module _ (h : k ≤ room / 24) where
    pub room_enough : Ok (record { listed = k; count = n }) ≡ listed_of (accept n) (listing b) (room / 24)
    room_enough =
        let g : length (listing b) ≤ room / 24 = omega (arith, as_listed, h) in
        rw (le-ltb (room / 24) (length (listing b)) g, as_listed)

    pub room_for : 24 * length (listing b) ≤ room
    room_for = omega (arith, as_listed, h)

module _ (m : Limits) (b out : List ℕ) {a : Result ℕ Refusal} (e : a ≡ result_of (read m Message b)) where
  pub list_refused : {x : Refusal} → a ≡ Err x → Err x ≡ list_of m b out
  unfolding list_of
  list_refused f = is_refused m Message b e f (λ (r : reader.Answer). listed_of r (listing b) (length out / 24)) (λ r p. refl)

  pub none_written : {x : Refusal} → a ≡ Err x → out ≡ written_of m b out
  unfolding written_of
  none_written f = rw (← list_refused f)

  module _ {n : ℕ} (f : a ≡ Ok n) {r : Result Listed Refusal} (g : r ≡ listed_of (accept n) (listing b) (length out / 24)) where
    pub list_accepted : r ≡ list_of m b out
    unfolding list_of
    list_accepted = rw (is_accepted m Message b e f) g

    pub list_written : {out' : List ℕ} → out' ≡ written_by r (listing b) out → out' ≡ written_of m b out
    unfolding written_of
    list_written h = h ∙ rw list_accepted
