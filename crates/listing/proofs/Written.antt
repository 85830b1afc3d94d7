-- The entries as they are written. The idea: what stands in front of `at` and the entries from k on are the whole listing.
use Prim.Native.Nat.{ℕ, ◌+◌, ◌-◌, ◌*◌, ◌/◌, ◌%◌, ◌^◌, ◌<◌, ◌≤◌}
use mathlib.Core.Path.{◌≡◌, refl, sym, ◌∙◌, ap}
use mathlib.Core.List.{List, [], ◌++◌, append_assoc, append-nil}
use native.Mathlib.Omega.{arith}
use native.Mathlib.Nat.{add-zero, zero-add, mul-zero, mul-suc}
use lib.ListN.{length, get_or, take, drop, length-append, length-drop, take-append-drop}
use lib.Seq.{sets, sets-eq, length-sets, length-take-le, take_at, drop_at, drop-drop, drop-length}
use Rattle.std.proofs.lemmas.List.{get_or-take, get_or-drop}
use Rattle.buffer.proofs.ByteLaws.{be_join}
use Rattle.buffer.specs.Bytes.{be}
use Rattle.ari.specs.declared.Limits.{Limits}
use Rattle.ari.specs.declared.Input.TheVariants.{Message}
use Rattle.ari.specs.Listing.{Space, number, name, relative, Entry, listing}
use Rattle.item_table.specs.declared.Item.{Item}
use Rattle.item_table.specs.Entries.{item_of, head_of}
use Rattle.item_table.specs.References.{Referenced}
use Rattle.cbor.specs.Answer.{head_at}
use Rattle.listing.specs.declared.Namespace.{Namespace}
use Rattle.listing.specs.Bytes.{kind_of, word_of, space_bytes, entry_bytes, listing_bytes}
use Rattle.listing.specs.Codes.{kind_code, word_code, entry_code}
use Rattle.listing.specs.Entries.{namespace_of, space_code}
use Rattle.listing.proofs.Kept.{Stands, stands, inside, number_is, words}

-- an entry's ends as one number
two_ends : (f a : ℕ) → f < 65536 → a < 65536 → be 8 (f * 4294967296 + a) ≡ be 4 f ++ be 4 a
two_ends f a p q =
    let d : (f * 4294967296 + a) / 4294967296 ≡ f = omega arith in
    let m : (f * 4294967296 + a) % 4294967296 ≡ a = omega arith in
    be_join 4 4 (f * 4294967296 + a) (omega arith) ∙ rw (d, m)

-- a namespace's numbers
kind_is : (x : Space) → kind_code (space_code x) ≡ kind_of x
kind_is (number z) = refl
kind_is (name p s) = refl
kind_is relative = refl

word_is : (x : Space) → word_code (space_code x) ≡ word_of x
word_is (number z) = refl
word_is (name p s) = refl
word_is relative = refl

stands_bytes : {b : List ℕ} {k f a : ℕ} {s : Namespace} (h : Stands b k f a s) → entry_code f a s ≡ entry_bytes h.entry
stands_bytes {f = f} {a = a} {s = s} h =
    ap (λ (l : List ℕ). l ++ (be 8 (kind_code s) ++ be 8 (word_code s))) (two_ends f a h.short.0 h.short.1)
    ∙ append_assoc (be 4 f) (be 4 a) (be 8 (kind_code s) ++ be 8 (word_code s))
    ∙ ap (λ (n : Namespace). be 4 f ++ (be 4 a ++ (be 8 (kind_code n) ++ be 8 (word_code n)))) h.space_is
    ∙ ap (λ (k : ℕ). be 4 f ++ (be 4 a ++ (be 8 k ++ be 8 (word_code (space_code h.entry.space))))) (kind_is h.entry.space)
    ∙ ap (λ (w : ℕ). be 4 f ++ (be 4 a ++ (be 8 (kind_of h.entry.space) ++ be 8 w))) (word_is h.entry.space)
    ∙ ap (λ (n : ℕ). be 4 n ++ (be 4 a ++ space_bytes h.entry.space)) h.first_is
    ∙ ap (λ (n : ℕ). be 4 h.entry.first ++ (be 4 n ++ space_bytes h.entry.space)) h.after_is

-- what stands in front of the next place, and what behind it
module _ (out : List ℕ) (at : ℕ) (vs : List ℕ) {m : ℕ} (l : length vs ≡ m) (h : at + m ≤ length out) {out' : List ℕ} (e : out' ≡ sets out at vs) where
  parts : out' ≡ (take at out ++ vs) ++ drop (at + m) out
  parts = e ∙ sets-eq vs out at (omega arith) ∙ rw l

  seam : length (take at out ++ vs) ≡ at + m
  seam = length-append (take at out) vs ∙ rw (length-take-le at out (omega arith), l)

  in_front : (rest : List ℕ) → take (at + m) out' ++ rest ≡ take at out ++ (vs ++ rest)
  in_front rest = rw (parts, take_at (take at out ++ vs) (drop (at + m) out) (at + m) seam) (append_assoc (take at out) vs rest)

  not_reached : drop (at + m) out' ≡ drop (at + m) out
  not_reached = rw (parts, drop_at (take at out ++ vs) (drop (at + m) out) (at + m) seam)

-- Out of the lent room, the entries before entry k stand in front of `at`, and nothing else has changed.
pub record Written (b out₀ : List ℕ) (k at : ℕ) (out : List ℕ) : Type 0 where
  pub lengths : length out ≡ length out₀
  pub room : 24 * length (listing b) ≤ length out₀
  pub place : at + 24 * length (drop k (listing b)) ≡ 24 * length (listing b)
  pub front : take at out ++ listing_bytes (drop k (listing b)) ≡ listing_bytes (listing b)
  pub behind : drop at out ≡ drop at out₀

-- the words of the references, behind their number
abbrev pub reference_words : List ℕ → List ℕ
reference_words t = take ((1 + get_or t 0 0) - 1) (drop 1 t)

module _ {m : Limits} {b t : List ℕ} {n : ℕ} (c : Referenced m Message b n t) where
  as_many : length (reference_words t) ≡ length (listing b)
  as_many = omega (arith, length-take-le ((1 + get_or t 0 0) - 1) (drop 1 t) (omega (arith, length-drop 1 t, number_is c, words c)), number_is c)

  word_same : (k : ℕ) → k < length (reference_words t) → get_or (reference_words t) k 0 ≡ get_or t (k + 1) 0
  word_same k h =
      get_or-take ((1 + get_or t 0 0) - 1) (drop 1 t) k 0 (omega (arith, as_many, number_is c)) ∙ get_or-drop 1 t k 0 ∙ ap (λ (i : ℕ). get_or t i 0) (omega arith)

  module _ {out₀ : List ℕ} where
    pub written_start : 24 * length (listing b) ≤ length out₀ → Written b out₀ 0 0 out₀
    written_start h = record { lengths = refl; room = h; place = zero-add _; front = refl; behind = refl }

    module _ {k at : ℕ} {out : List ℕ} (i : Written b out₀ k at out) where
      pub written_end : length (reference_words t) ≤ k → k ≤ length (reference_words t) → out ≡ listing_bytes (listing b) ++ drop (24 * length (listing b)) out₀
      written_end h g =
          let last : k ≡ length (listing b) = omega (arith, as_many) in
          let none : drop k (listing b) ≡ [] = rw last (drop-length (listing b)) in
          let p : at ≡ 24 * length (listing b) = rw (none, mul-zero, add-zero) at i.place in
          let f : take at out ≡ listing_bytes (listing b) = sym (append-nil (take at out)) ∙ rw none at i.front in
          sym (take-append-drop at out) ∙ rw (f, i.behind, p)

      module _ (h : k < length (reference_words t)) {x : Item} (ex : x ≡ item_of (get_or (reference_words t) k 0)) {head : ℕ} (eh : head ≡ head_of (get_or (reference_words t) k 0)) where
        listed : k < length (listing b)
        listed = omega (arith, as_many)

        item_same : x ≡ item_of (get_or t (k + 1) 0)
        item_same = ex ∙ ap item_of (word_same k h)

        head_same : head ≡ head_of (get_or t (k + 1) 0)
        head_same = eh ∙ ap head_of (word_same k h)

        pub namespace_inside : x.first + head < 2 ^ 64
        namespace_inside = inside c k listed item_same head_same

        module _ {s : Namespace} (es : s ≡ namespace_of (x.first + head) (head_at b (x.first + head))) where
          abbrev y : Stands b k x.first x.after s
          y = stands c k listed item_same head_same es

          places : at + (24 * length (drop (k + 1) (listing b)) + 24) ≡ 24 * length (listing b)
          places = rw (y.listed, mul-suc) at i.place

          entry_room : at + 24 ≤ length out
          entry_room = omega (arith, places, i.room, i.lengths)

          pub entry_fits : (at + 24 ≤ length out) × (x.first < 65536) × (x.after < 65536)
          entry_fits = (entry_room, y.short.0, y.short.1)

          pub written_one : {out' : List ℕ} → out' ≡ sets out at (entry_code x.first x.after s) → Written b out₀ (k + 1) (at + 24) out'
          written_one stored =
              let vs = entry_code x.first x.after s in
              let l : length vs ≡ 24 = refl in
              record {
                lengths = ap length stored ∙ length-sets out at vs ∙ i.lengths;
                room = i.room;
                place = omega (arith, places);
                front =
                    in_front out at vs l entry_room stored (listing_bytes (drop (k + 1) (listing b)))
                    ∙ ap (λ (u : List ℕ). take at out ++ (u ++ listing_bytes (drop (k + 1) (listing b)))) (stands_bytes y)
                    ∙ ap (λ (es : List Entry). take at out ++ listing_bytes es) (sym y.listed)
                    ∙ i.front;
                behind = not_reached out at vs l entry_room stored ∙ sym (drop-drop 24 at out) ∙ ap (drop 24) i.behind ∙ drop-drop 24 at out₀;
              }
