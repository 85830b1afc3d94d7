-- The message of a nonce and targets stands by the rules, whatever its size; so it is accepted exactly if it keeps the limits, and its listing is that of
-- its targets' references.
use Prim.Native.Nat.{ℕ, suc, ◌<◌, ◌≤◌}
use mathlib.Core.Path.{◌≡◌, refl, sym, ◌∙◌}
use mathlib.Core.Bool.{true, true≢false}
use mathlib.Core.List.{[], ◌∷◌, ◌++◌, append-nil, append_assoc}
use native.Mathlib.Omega.{arith}
use lib.ListN.{length, length-append}
use lib.Dec.{leb}
use borrow.Author.Tests.{leb-true, le-leb}
use Rattle.cbor.specs.Head.{unsigned, bytes, array, Sound, counted, a_simple, lead_of, string_size}
use Rattle.cbor.specs.Head as head
use Rattle.cbor.specs.Utf8.{utf8}
use Rattle.cbor.proofs.HeadLaws.{shortest_carries, length_lead}
use Rattle.ari.specs.Table.{max63, max64, message, row, types}
use Rattle.ari.specs.declared.Limits.{Limits}
use Rattle.ari.specs.declared.Input.TheVariants.{Message}
use Rattle.ari.specs.Items.{Items, none, encode, heads, depth, inside_at, spots_of}
use Rattle.ari.specs.Decode.{decode}
use Rattle.ari.specs.Rules.{Plain, Holds, Nonce, TypeAt, typed, execset, Targets, no_more, set, Stands, a_message, Is}
use Rattle.ari.specs.References.{in_targets, past, references}
use Rattle.ari.proofs.RuledTargets.{each_target, counted as targets_among, ruled_targets_lem}
use Rattle.ari.proofs.Demand.{unique}
use Rattle.composer.specs.Compose.{null, number, string, other, in_range, nonce_lead, nonce_string, order_of}
use Rattle.composer.specs.Code.{front_bytes}
use Rattle.composer.specs.Compose as compose

-- the shortest head of a number or a length
short_sound : (k a : ℕ) → leb k head.map ≡ true → a ≤ max64 → Sound (lead_of k a)
unfolding lead_of
short_sound k a h f = counted (leb-true k head.map h) (rw h (shortest_carries a (omega arith)))

holds_array : (n : ℕ) → n ≤ max64 → Holds array n (lead_of array n) []
unfolding lead_of
holds_array n h = record { head = short_sound array n refl h; kind_is = refl; arg_is = refl; bare = refl }

-- the version
one : Plain (row unsigned 1 1 ∷ []) utf8 (lead_of unsigned 1) [] none
unfolding lead_of string_size
one = record { head = short_sound unsigned 1 refl (omega arith); fitting = refl; sized = refl; spelling = refl; bare = refl }

-- the type of an EXECSET
twenty : TypeAt message (lead_of unsigned 20) [] none
unfolding lead_of string_size types
twenty = record { head = short_sound unsigned 20 refl (omega arith); fitting = refl; sized = refl; spelling = refl; bare = refl }

-- a nonce in range, whose string a head can announce
pub nonce_stands : (z : compose.Nonce) → in_range z ≡ true → length (nonce_string z) ≤ max64 → Nonce (nonce_lead z) (nonce_string z) none
unfolding lead_of string_size
nonce_stands null e h = record { head = a_simple refl (omega arith) (omega arith) refl; fitting = refl; sized = refl; spelling = refl; bare = refl }
nonce_stands (number n) e h =
    let l : n ≤ max63 = leb-true n max63 e in
    record { head = short_sound unsigned n refl (omega arith); fitting = rw (le-leb 0 n (omega arith), e); sized = refl; spelling = refl; bare = refl }
nonce_stands (string s) e h =
    record { head = short_sound bytes (length s) refl h; fitting = rw (le-leb 0 (length s) (omega arith), le-leb (length s) max64 h); sized = refl; spelling = refl; bare = refl }
nonce_stands other e h = absurd (true≢false (sym e))

module _ (z : compose.Nonce) {n : ℕ} {ts : Items} (e : in_range z ≡ true) (h : length (nonce_string z) ≤ max64) (f : n < max64) (t : Targets n ts) where
  pub order_stands : Stands Message (order_of z n ts)
  unfolding lead_of
  order_stands = a_message one (set (typed (holds_array 2 (omega arith)) twenty (execset (holds_array (suc n) (omega arith)) (nonce_stands z e h) t)) no_more)

-- the first byte of the targets
abbrev pub first_target : compose.Nonce → ℕ → ℕ
first_target z n =
    past (inside_at (past (inside_at (past 0 (lead_of unsigned 1) [] none) (lead_of array 2) []) (lead_of unsigned 20) [] none) (lead_of array (suc n)) [])
    (nonce_lead z) (nonce_string z) none

module _ (z : compose.Nonce) {n : ℕ} {ts : Items} (e : in_range z ≡ true) (h : length (nonce_string z) ≤ max64) (f : n < max64) (t : Targets n ts) where
  -- an order's references are those of its targets, each from where it stands
  pub order_references : references (order_stands z e h f t) ≡ in_targets t (first_target z n)
  unfolding order_stands lead_of
  order_references = append-nil (in_targets t (first_target z n))

  -- and its targets (R168) are those, each from where it stands
  pub order_targets : targets_among (spots_of Message (order_of z n ts)) ≡ each_target t (first_target z n)
  unfolding order_stands lead_of
  order_targets = ruled_targets_lem (order_stands z e h f t) ∙ append-nil (each_target t (first_target z n))

-- its bytes, the targets' last
pub order_bytes : (z : compose.Nonce) (n : ℕ) (ts : Items) → encode (order_of z n ts) ≡ front_bytes z n ++ encode ts
order_bytes z n ts = simp (append_assoc, append-nil)

pub front_length : (z : compose.Nonce) (n : ℕ) → length (front_bytes z n) ≡ first_target z n
front_length z n =
    simp length-append (omega (
      arith,
      length_lead (lead_of unsigned 1),
      length_lead (lead_of array 2),
      length_lead (lead_of unsigned 20),
      length_lead (lead_of array (suc n)),
      length_lead (nonce_lead z),
    ))

-- What stands is the tree of its bytes, and is accepted exactly if it keeps the limits.
module _ {g : Items} (r : Stands Message g) where
  own_limits : Limits
  own_limits = record { bytes = length (encode g); items = heads g; containers = depth g; text = 0 }

  pub its_tree : g ≡ decode (encode g)
  unfolding own_limits
  its_tree =
      unique own_limits Message (encode g)
      (record { stands = r; bytes = refl; count = refl; short = omega arith; few = omega arith; shallow = omega arith })

  module _ (m : Limits) where
    pub keeps : length (encode g) ≤ m.bytes → heads g ≤ m.items → depth g ≤ m.containers → Is m Message (encode g) g (heads g)
    keeps a b c = record { stands = r; bytes = refl; count = refl; short = a; few = b; shallow = c }
