-- A listing's bytes: how many there are, and kind and word of an entry where its bytes stand.
use Prim.Native.Nat.{ℕ, ◌+◌, ◌-◌, ◌*◌, ◌<◌, ◌^◌}
use mathlib.Core.Path.{◌≡◌, refl, sym, ◌∙◌, ap}
use mathlib.Core.List.{List, [], ◌∷◌, ◌++◌, append_assoc}
use native.Mathlib.Omega.{arith}
use lib.ListN.{length, drop, take, length-append, length-drop}
use lib.Seq.{drop-drop, drop_at, take_at}
use Rattle.buffer.specs.Bytes.{be, value, load_at}
use Rattle.buffer.proofs.ByteLaws.{length_be, value_be}
use Rattle.buffer.proofs.Numbers.{load_there}
use Rattle.ari.specs.Listing.{Space, number, name, relative, Entry}
use Rattle.listing.specs.Bytes.{kind_of, word_of, entry_bytes, listing_bytes}

pub length_entry : (e : Entry) → length (entry_bytes e) ≡ 24
length_entry e =
    simp length-append (omega (arith, length_be 4 e.first, length_be 4 e.after, length_be 8 (kind_of e.space), length_be 8 (word_of e.space)))

pub length_listing : (es : List Entry) → length (listing_bytes es) ≡ 24 * length es
length_listing [] = refl
length_listing (e ∷ es) = omega (arith, length-append (entry_bytes e) (listing_bytes es), length_entry e, length_listing es)

-- a number that stands behind p bytes from a place on
number_there : (l : List ℕ) (at p : ℕ) (a : List ℕ) (n : ℕ) (y : List ℕ) → drop at l ≡ a ++ (be 8 n ++ y) → length a ≡ p → n < 2 ^ 64 → load_at 8 l (at + p) ≡ n
number_there l at p a n y e f h =
    let long : length l - at ≡ p + (8 + length y) =
    sym (length-drop at l) ∙ ap length e ∙ omega (arith, length-append a (be 8 n ++ y), length-append (be 8 n) y, length_be 8 n) in
    load_there 8 l (at + p) (omega arith)
    ∙ ap (λ (x : List ℕ). value (take 8 x)) (sym (drop-drop p at l) ∙ ap (drop p) e ∙ drop_at a (be 8 n ++ y) p f)
    ∙ ap value (take_at (be 8 n) y 8 (length_be 8 n)) ∙ value_be 8 n (omega arith)

kind_fits : (x : Space) → kind_of x < 2 ^ 64
kind_fits (number z) = omega arith
kind_fits (name p n) = omega arith
kind_fits relative = omega arith

-- an entry's first byte and end, as bytes
abbrev pub end_bytes : Entry → List ℕ
end_bytes e = be 4 e.first ++ be 4 e.after

pub length_ends : (e : Entry) → length (end_bytes e) ≡ 8
length_ends e = simp length-append (omega (arith, length_be 4 e.first, length_be 4 e.after))

module _ (l : List ℕ) (at : ℕ) (e : Entry) (y : List ℕ) (q : drop at l ≡ entry_bytes e ++ y) where
  abbrev k : List ℕ
  k = be 8 (kind_of e.space)

  abbrev w : List ℕ
  w = be 8 (word_of e.space)

  pub kind_there : load_at 8 l (at + 8) ≡ kind_of e.space
  kind_there =
      let apart : entry_bytes e ++ y ≡ end_bytes e ++ (k ++ (w ++ y)) = simp append_assoc in
      number_there l at 8 (end_bytes e) (kind_of e.space) (w ++ y) (q ∙ apart) (length_ends e) (kind_fits e.space)

  pub word_there : word_of e.space < 2 ^ 64 → load_at 8 l (at + 16) ≡ word_of e.space
  word_there h =
      let apart : entry_bytes e ++ y ≡ (end_bytes e ++ k) ++ (w ++ y) = simp append_assoc in
      let sixteen : length (end_bytes e ++ k) ≡ 16 = omega (arith, length-append (end_bytes e) k, length_ends e, length_be 8 (kind_of e.space)) in
      number_there l at 16 (end_bytes e ++ k) (word_of e.space) y (q ∙ apart) sixteen h
