-- The three numbers of an entry as they are stored, one behind the other.
use Prim.Native.Nat.{ℕ, ◌+◌, ◌-◌, ◌≤◌}
use mathlib.Core.Path.{◌≡◌, sym, ◌∙◌}
use mathlib.Core.List.{List, ◌++◌, append_assoc, append-nil}
use native.Mathlib.Omega.{arith}
use lib.ListN.{length, take, drop, length-append, length-take, length-drop, drop_of_length-le}
use lib.Seq.{sets, sets-eq, length-sets, drop-drop}
use Rattle.buffer.specs.Bytes.{be, store_at}
use Rattle.buffer.proofs.ByteLaws.{length_be}
use Rattle.buffer.proofs.Numbers.{joined, store_room}

pub three_stored : (o : List ℕ) (at w x y z : ℕ) → sets (sets (sets o at (be w x)) (at + w) (be w y)) (at + (w + w)) (be w z) ≡ sets o at (be w x ++ (be w y ++ be w z))
three_stored o at w x y z =
    let e : at + (w + w) ≡ at + w + w = omega arith in
    rw e (joined (sets o at (be w x)) (at + w) w y (be w z) ∙ joined o at w x (be w y ++ be w z))

pub entry_stored : (o : List ℕ) (at x y z : ℕ) {o₁ o₂ o₃ : List ℕ} → at + 24 ≤ length o → o₁ ≡ store_at 8 o at x → o₂ ≡ store_at 8 o₁ (at + 8) y
    → o₃ ≡ store_at 8 o₂ (at + 16) z → o₃ ≡ sets o at (be 8 x ++ (be 8 y ++ be 8 z))
entry_stored o at x y z h e f g =
    let l : length (sets o at (be 8 x)) ≡ length o = length-sets o at (be 8 x) in
    let m : length (sets (sets o at (be 8 x)) (at + 8) (be 8 y)) ≡ length o = length-sets (sets o at (be 8 x)) (at + 8) (be 8 y) ∙ l in
    rw (
      g,
      f,
      e,
      store_room 8 o at x (omega arith),
      store_room 8 (sets o at (be 8 x)) (at + 8) y (omega arith),
      store_room 8 (sets (sets o at (be 8 x)) (at + 8) (be 8 y)) (at + 16) z (omega arith),
    )
    (three_stored o at 8 x y z)

-- the same in the part of a room that an entry takes, put back
pub entry_back : (o : List ℕ) (at x y z : ℕ) {o₁ o₂ o₃ : List ℕ} → at + 24 ≤ length o → o₁ ≡ store_at 8 (take ((at + 24) - at) (drop at o)) 0 x → o₂ ≡ store_at 8 o₁ 8 y
    → o₃ ≡ store_at 8 o₂ 16 z → take at o ++ (o₃ ++ drop ((at + 24) - at) (drop at o)) ≡ sets o at (be 8 x ++ (be 8 y ++ be 8 z))
entry_back o at x y z {o₁} {o₂} {o₃} h e f g =
    let p = take ((at + 24) - at) (drop at o) in
    let bs = be 8 x ++ (be 8 y ++ be 8 z) in
    let k : (at + 24) - at ≡ 24 = omega arith in
    let lp : length p ≡ 24 = omega (arith, length-take ((at + 24) - at) (drop at o), length-drop at o) in
    let lb : length bs ≡ 24 = simp length-append (omega (arith, length_be 8 x, length_be 8 y, length_be 8 z)) in
    let whole : o₃ ≡ bs =
    entry_stored p 0 x y z (omega arith) e f g
    ∙ sets-eq bs p 0 (omega arith)
    ∙ rw (drop_of_length-le p {i = 0 + length bs} (omega arith)) (append-nil bs) in
    rw (whole, k, drop-drop 24 at o) (sym (sets-eq bs o at (omega arith) ∙ rw lb (append_assoc (take at o) bs (drop (at + 24) o))))
