-- A to Z are as a to z to the library as well.
use Prim.Native.Nat.{ℕ, ◌+◌}
use mathlib.Core.Path.{◌≡◌, refl, sym, ◌∙◌, ap}
use mathlib.Core.Bool.{Bool, true, false, cond}
use mathlib.Core.List.{List, [], ◌∷◌, map}
use native.Mathlib.Omega.{arith}
use lib.Dec.{ltb}
use borrow.Author.Tests.{le-leb, lt-leb, ltb-true, ltb-false}
use Rattle.std.specs.Prelude.{IsTrue, ◌↔◌}
use Rattle.std.specs.Char.{to_ascii_lowercase}
use Rattle.buffer.specs.Bytes.{same}
use Rattle.buffer.proofs.ByteLaws.{same_is, same_self}
use Rattle.ari.specs.Name.{lower, folded_name, same_name}

lower_is : (b : ℕ) → lower b ≡ to_ascii_lowercase b
unfolding lower
lower_is b = go (ltb b 65) refl (ltb b 91) refl
  where
    go : (t : Bool) → ltb b 65 ≡ t → (u : Bool) → ltb b 91 ≡ u → lower b ≡ cond t b (cond u (b + 32) b)
    go true e u f = let h = ltb-true b 65 e in rw (lt-leb 65 b h)
    go false e true f = let h = ltb-false b 65 e in let g = ltb-true b 91 f in rw (le-leb 65 b h, le-leb b 90 (omega (arith, g)))
    go false e false f = let h = ltb-false b 65 e in let g = ltb-false b 91 f in rw (le-leb 65 b h, lt-leb b 90 (omega (arith, g)))

folded_is : (s : List ℕ) → folded_name s ≡ map to_ascii_lowercase s
folded_is [] = refl
folded_is (b ∷ s) = rw (lower_is b, folded_is s)

pub same_names : (a b : List ℕ) (r : Bool) → IsTrue r ↔ (map to_ascii_lowercase a ≡ map to_ascii_lowercase b) → r ≡ same_name a b
unfolding same_name
same_names a b r t = go r (same (folded_name a) (folded_name b)) refl t
  where
    go : (r s : Bool) → same (folded_name a) (folded_name b) ≡ s → IsTrue r ↔ (map to_ascii_lowercase a ≡ map to_ascii_lowercase b) → r ≡ s
    go true true e t = refl
    go false false e t = refl
    go true false e t =
        let f : folded_name a ≡ folded_name b = folded_is a ∙ t.0 refl ∙ sym (folded_is b) in
        sym (same_self (folded_name a)) ∙ ap (same (folded_name a)) f ∙ e
    go false true e t = t.1 (sym (folded_is a) ∙ same_is (folded_name a) (folded_name b) e ∙ folded_is b)
