-- Laws of writing: nothing, one byte, a room that is full, one text after another, a loop over a text's bytes.
use Prim.Native.Nat.{ℕ, suc, ◌+◌, ◌-◌, ◌≤◌, ◌<◌, min, max}
use mathlib.Core.Path.{◌≡◌, refl, sym, ◌∙◌, ap}
use mathlib.Core.Bool.{Bool, true, false}
use mathlib.Core.List.{List, [], ◌∷◌, ◌++◌, append_assoc}
use native.Mathlib.Omega.{arith}
use native.Mathlib.Numerals.{add-one}
use lib.ListN.{length, take, drop, get_or, set, length-append, take-append-drop}
use lib.Seq.{sets, length-sets, sets-eq, set_out, take-suc, take_all, drop-drop, length-take-le}
use borrow.Rule.Slice.PartMut.{put_mid}
use lib.Dec.{leb}
use borrow.Author.Tests.{leb-true, leb-false}
use Rattle.buffer.specs.Put.{Put}

sets_out : (u xs : List ℕ) (at : ℕ) → length xs ≤ at → sets xs at u ≡ xs
sets_out [] xs at h = refl
sets_out (x ∷ u) xs at h = rw (set_out xs at x h) (sets_out u xs (suc at) (omega arith))

pub sets_append : (l : List ℕ) (i : ℕ) (xs ys : List ℕ) → sets l i (xs ++ ys) ≡ sets (sets l i xs) (i + length xs) ys
sets_append l i [] ys = let e : i + 0 ≡ i = omega arith in rw e
sets_append l i (x ∷ xs) ys =
    let e : i + suc (length xs) ≡ suc i + length xs = omega arith in
    rw e (sets_append (set l i x) (suc i) xs ys)

pub put_nothing : (room : List ℕ) (at : ℕ) → Put room room at at []
put_nothing room at = record { bytes = refl; place = omega arith }

pub put_byte : (room : List ℕ) (at x : ℕ) → at < length room → Put room (set room at x) at (at + 1) (x ∷ [])
put_byte room at x h = record { bytes = refl; place = omega arith }

-- a room that is full stays as it is, whatever is put
pub put_out : (room : List ℕ) (at : ℕ) (u : List ℕ) → length room ≤ at → Put room room at at u
put_out room at u h = record { bytes = sym (sets_out u room at h); place = omega arith }

pub put_full : (room : List ℕ) (at x : ℕ) → length room ≤ at → Put room room at at (x ∷ [])
put_full room at x h = put_out room at (x ∷ []) h

module _ {room room' : List ℕ} {at r : ℕ} {u : List ℕ} (p : Put room room' at r u) where
  pub put_size : length room' ≡ length room
  put_size = ap length p.bytes ∙ length-sets room at u

  -- where the text fits
  pub put_end : at + length u ≤ length room → r ≡ at + length u
  put_end h = omega (arith, p.place)

  -- where it does not, the room is full
  pub put_over : length room < at + length u → length room ≤ r
  put_over h = omega (arith, p.place)

  -- to a full room one text is as good as another
  pub put_other : (v : List ℕ) → length room ≤ at → Put room room' at r v
  put_other v h =
      let e : r ≡ at = omega (arith, p.place) in
      rw (p.bytes, sets_out u room at h, e) (put_out room at v h)

pub put_both : {a b c : List ℕ} {at q r : ℕ} {u v : List ℕ} → Put a b at q u → Put b c q r v → Put a c at r (u ++ v)
put_both {a} {b} {c} {at} {q} {r} {u} {v} p s = record { bytes = s.bytes ∙ rest; place = simp length-append (omega (arith, put_size p, p.place, s.place)) }
  where
    short : at + length u ≤ max at (length a) → sets (sets a at u) q v ≡ sets (sets a at u) (at + length u) v
    short h = let e : q ≡ at + length u = omega (arith, p.place) in rw e

    long : max at (length a) < at + length u → sets (sets a at u) q v ≡ sets (sets a at u) (at + length u) v
    long h =
        sets_out v (sets a at u) q (omega (arith, length-sets a at u, p.place)) ∙ sym (sets_out v (sets a at u) (at + length u) (omega (arith, length-sets a at u)))

    cases : (t : Bool) → leb (at + length u) (max at (length a)) ≡ t → sets (sets a at u) q v ≡ sets (sets a at u) (at + length u) v
    cases true e = short (leb-true (at + length u) (max at (length a)) e)
    cases false e = long (leb-false (at + length u) (max at (length a)) e)

    rest : sets b q v ≡ sets a at (u ++ v)
    rest = rw (p.bytes, sets_append a at u v) (cases (leb (at + length u) (max at (length a))) refl)

-- a turn of a loop over the bytes of a text, and its end
pub put_turn : (t : List ℕ) (i : ℕ) {a b c : List ℕ} {at q r : ℕ} → Put a b at q (take i t) → i < length t → Put b c q r (get_or t i 0 ∷ []) → Put a c at r (take (i + 1) t)
put_turn t i p h s = rw (add-one i, take-suc t i 0 h) (put_both p s)

pub put_whole : (t : List ℕ) (i : ℕ) {a b : List ℕ} {at r : ℕ} → Put a b at r (take i t) → length t ≤ i → Put a b at r t
put_whole t i p h = rw (take_all i t h) at p

pub put_start : (t room : List ℕ) (at : ℕ) → Put room room at at (take 0 t)
put_start t room at = put_nothing room at

-- a copy in the room
pub copied : (at k n : ℕ) (room u : List ℕ) → k ≡ n → length u ≡ n → at + n ≤ length room → put_mid at k room u ≡ sets room at u
copied at k n room u e l h = rw (sets-eq u room at (omega arith), drop-drop k at room, e, l, append_assoc)

-- the same for a loop that knows how much fits
pub put_next : (t : List ℕ) (i : ℕ) {a b : List ℕ} {at : ℕ} → Put a b at (at + i) (take i t) → i < length t → at + i < length a
    → Put a (set b (at + i) (get_or t i 0)) at (at + (i + 1)) (take (i + 1) t)
put_next t i {a} {b} {at} p h g =
    let e : at + (i + 1) ≡ at + i + 1 = omega arith in
    rw e (put_turn t i p h (put_byte b (at + i) (get_or t i 0) (omega (arith, put_size p))))

pub put_first : (t room : List ℕ) (at : ℕ) → Put room room at (at + 0) (take 0 t)
put_first t room at = let e : at + 0 ≡ at = omega arith in rw e (put_nothing room at)

-- all of it, or as much as there is room for
pub put_most : (t : List ℕ) (n i : ℕ) {a b : List ℕ} {at : ℕ} → Put a b at (at + i) (take i t) → i ≤ n → n ≤ i → at < length a → n ≡ min (length t) (length a - at)
    → Put a b at (at + n) t
put_most t n i {a} {b} {at} p h g l e = let z : i ≡ n = omega arith in go (leb (length t) n) refl (rw z at p)
  where
    go : (x : Bool) → leb (length t) n ≡ x → Put a b at (at + n) (take n t) → Put a b at (at + n) t
    go true y p = rw (take_all n t (leb-true (length t) n y)) at p
    go false y p =
        let o : n < length t = leb-false (length t) n y in
        rw (take-append-drop n t) at (put_both p (put_out b (at + n) (drop n t) (omega (arith, put_size p))))

-- how far the loop may go
module _ (n : ℕ) (t a : List ℕ) (at : ℕ) (e : n ≡ min (length t) (length a - at)) where
  pub in_text_lem : (i : ℕ) → i < n → i < length t
  in_text_lem i h = omega arith

  pub in_room : (i : ℕ) → i < n → at + i < length a
  in_room i h = omega arith

  pub in_lent : {b u : List ℕ} {q : ℕ} → Put a b at q u → (i : ℕ) → i < n → at + i < length b
  in_lent p i h = omega (arith, put_size p)

pub ruleset copying = (put_out, put_next, put_first, put_most, in_text_lem, in_room, in_lent, put_size)
