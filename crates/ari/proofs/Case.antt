-- Letters without regard to case (R184): which bytes are as one, and that names stay names.
use Prim.Native.Nat.{ℕ, suc, ◌+◌, ◌≤◌}
use mathlib.Core.Path.{◌≡◌, refl, sym, ◌∙◌, ap}
use mathlib.Core.Bool.{Bool, true, false}
use mathlib.Core.List.{List, [], ◌∷◌}
use native.Mathlib.Omega.{arith}
use lib.ListN.{length, get_or, drop, length-map}
use lib.Dec.{eqb}
use borrow.Author.Tests.{le-leb, lt-leb}
use Rattle.buffer.specs.Bytes.{all, within}
use Rattle.buffer.proofs.ByteLaws.{within_true, within_is}
use Rattle.cbor.proofs.Computed.{same, same_true, all_from, all_at}
use Rattle.ari.specs.Name.{starts_name, continues_name, identifier, namespace_name, lower, folded_name}

-- Two bytes are the same, or a letter and its capital.
pub data OneLetter : ℕ → ℕ → Type 0 where
  itself : {a : ℕ} → OneLetter a a
  to_small : {a : ℕ} → 65 ≤ a → a ≤ 90 → OneLetter a (a + 32)
  to_capital : {a : ℕ} → 65 ≤ a → a ≤ 90 → OneLetter (a + 32) a

-- Runs of the same length, byte for byte so.
pub data Recased : List ℕ → List ℕ → Type 0 where
  no_byte : Recased [] []
  byte_too : {a b : ℕ} {u v : List ℕ} → OneLetter a b → Recased u v → Recased (a ∷ u) (b ∷ v)

pub lower_capital : (a : ℕ) → 65 ≤ a → a ≤ 90 → lower a ≡ a + 32
unfolding lower
lower_capital a h g = rw (within_is 65 90 a h g)

pub lower_other : (a : ℕ) → within 65 90 a ≡ false → lower a ≡ a
unfolding lower
lower_other a e = rw e

-- what is said of no capital otherwise than of its small letter is not changed
pub kept : (p : ℕ → Bool) → all_from 26 65 (λ x. same (p (x + 32)) (p x)) ≡ true → (b : ℕ) → p (lower b) ≡ p b
kept p e b = go (within 65 90 b) refl
  where
    go : (c : Bool) → within 65 90 b ≡ c → p (lower b) ≡ p b
    go true f =
        let (h, g) = within_true 65 90 b f in
        ap p (lower_capital b h g) ∙ same_true (p (b + 32)) (p b) (all_at 26 65 (λ x. same (p (x + 32)) (p x)) e b h (omega arith))
    go false f = ap p (lower_other b f)

starts_kept : (b : ℕ) → starts_name (lower b) ≡ starts_name b
unfolding starts_name
starts_kept = kept starts_name refl

continues_kept : (b : ℕ) → continues_name (lower b) ≡ continues_name b
unfolding starts_name continues_name
continues_kept = kept continues_name refl

all_kept : (s : List ℕ) → all continues_name (folded_name s) ≡ all continues_name s
all_kept [] = refl
all_kept (b ∷ s) = rw (continues_kept b, all_kept s)

pub identifier_kept : (s : List ℕ) → identifier (folded_name s) ≡ identifier s
unfolding identifier
identifier_kept [] = refl
identifier_kept (b ∷ s) = rw (starts_kept b, all_kept s, length-map s lower)

mark_kept : (b : ℕ) → eqb (lower b) 33 ≡ eqb b 33
mark_kept = kept (λ x. eqb x 33) refl

pub namespace_name_kept : (s : List ℕ) → namespace_name (folded_name s) ≡ namespace_name s
unfolding namespace_name
namespace_name_kept [] = refl
namespace_name_kept (b ∷ s) = rw (identifier_kept (b ∷ s), mark_kept b, identifier_kept s)

-- a small letter
past : (b : ℕ) → 65 ≤ b → within 65 90 (b + 32) ≡ false
past b h = rw (le-leb 65 (b + 32) (omega arith), lt-leb (b + 32) 90 (omega arith))

-- folding twice
lower_again : (b : ℕ) → lower (lower b) ≡ lower b
lower_again b = go (within 65 90 b) refl
  where
    go : (c : Bool) → within 65 90 b ≡ c → lower (lower b) ≡ lower b
    go true f = let (h, g) = within_true 65 90 b f in rw (lower_capital b h g) (lower_other (b + 32) (past b h))
    go false f = ap lower (lower_other b f)

pub folded_again : (s : List ℕ) → folded_name (folded_name s) ≡ folded_name s
folded_again [] = refl
folded_again (b ∷ s) = rw (lower_again b, folded_again s)

-- exactly these bytes are as one
lower_same : (a b : ℕ) → lower a ≡ lower b → OneLetter a b
lower_same a b e = go (within 65 90 a) (within 65 90 b) refl refl
  where
    go : (c d : Bool) → within 65 90 a ≡ c → within 65 90 b ≡ d → OneLetter a b
    go true true f g =
        let (h, i) = within_true 65 90 a f in
        let (j, k) = within_true 65 90 b g in
        let z : a ≡ b = omega (arith, lower_capital a h i, lower_capital b j k, e) in
        rw z itself
    go true false f g =
        let (h, i) = within_true 65 90 a f in
        let z : b ≡ a + 32 = omega (arith, lower_capital a h i, lower_other b g, e) in
        rw z (to_small h i)
    go false true f g =
        let (j, k) = within_true 65 90 b g in
        let z : a ≡ b + 32 = omega (arith, lower_other a f, lower_capital b j k, e) in
        rw z (to_capital j k)
    go false false f g = let z : a ≡ b = omega (arith, lower_other a f, lower_other b g, e) in rw z itself

same_lower : {a b : ℕ} → OneLetter a b → lower a ≡ lower b
same_lower itself = refl
same_lower (to_small {a = a} h g) = lower_capital a h g ∙ sym (lower_other (a + 32) (past a h))
same_lower (to_capital {a = a} h g) = lower_other (a + 32) (past a h) ∙ sym (lower_capital a h g)

-- R184: names are the same exactly if they differ in the case of letters alone
pub recased : (u v : List ℕ) → folded_name u ≡ folded_name v → Recased u v
recased [] [] e = no_byte
recased [] (b ∷ v) e = absurd (let z : 0 ≡ suc (length (folded_name v)) = ap length e in omega arith)
recased (a ∷ u) [] e = absurd (let z : suc (length (folded_name u)) ≡ 0 = ap length e in omega arith)
recased (a ∷ u) (b ∷ v) e = byte_too (lower_same a b (ap (λ (z : List ℕ). get_or z 0 0) e)) (recased u v (ap (drop 1) e))

pub recased_same : {u v : List ℕ} → Recased u v → folded_name u ≡ folded_name v
recased_same no_byte = refl
recased_same (byte_too l r) = rw (same_lower l, recased_same r)
