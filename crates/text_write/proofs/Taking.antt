-- A head that is taken: one law for each way through the tests; the premises are the facts that the code leaves.
use Prim.Native.Nat.{ℕ, ◌+◌, ◌-◌, ◌≤◌, ◌<◌}
use mathlib.Core.Path.{◌≡◌, refl, sym, ◌∙◌, ap}
use mathlib.Core.Bool.{Bool, true, false, ◌&&◌, cond, true≢false}
use mathlib.Core.List.{List, ◌++◌}
use native.Mathlib.Omega.{arith}
use lib.ListN.{length, drop, length-append, length-drop}
use lib.Dec.{ltb, eqb}
use borrow.Author.Tests.{le-ltb, ltb-false}
use Rattle.buffer.specs.Bytes.{within}
use Rattle.cbor.specs.Head.{Lead, size, lead_bytes, get_head, string_size, is_container}
use Rattle.cbor.specs.Answer.{head_at, Passed}
use Rattle.cbor.specs.declared.Head.{Head}
use Rattle.cbor.specs.declared.Head.TheVariants.{Bad}
use Rattle.cbor.specs.declared.Head.TheVariants as heads
use Rattle.cbor.proofs.HeadLaws.{get_head_back, length_lead}
use Rattle.ari.specs.Due.{Good}
use Rattle.grammar.specs.Code.{slot_of}
use Rattle.reader.specs.Steps.{string_end}
use Rattle.std.specs.Prelude.{Option, Some, None}
use Rattle.text_write.specs.Walks.{taken, ItemAt}

-- a head that may be written is found as it is
pub found : (b : List ℕ) (p : ℕ) (l : Lead) (y : List ℕ) → Rattle.cbor.specs.Head.Sound l → drop p b ≡ lead_bytes l ++ y → head_at b p ≡ heads.Good l.kind l.arg (p + size l)
unfolding head_at
found b p l y h e = rw (e, get_head_back y h)

-- the end of its string
pub end_is : (b : List ℕ) (p : ℕ) (l : Lead) (str z : List ℕ) → length str ≡ string_size l → drop p b ≡ lead_bytes l ++ (str ++ z) → p ≤ length b
    → string_end b l.kind l.arg (p + size l) ≡ Some (p + (size l + length str))
unfolding string_end string_size
end_is b p l str z e f h = go (within 2 3 l.kind) e
  where
    long : length b ≡ p + (size l + (length str + length z))
    long = omega (arith, simp (length-drop, length-append) at (ap length f), length_lead l)

    go : (t : Bool) → length str ≡ cond t l.arg 0
        → cond t (cond (ltb (length b - (p + size l)) l.arg) None (Some (p + size l + l.arg))) (Some (p + size l)) ≡ Some (p + (size l + length str))
    go true q = rw (le-ltb (length b - (p + size l)) l.arg (omega (arith, long))) (ap Some (omega arith))
    go false q = ap Some (omega arith)

-- where a string ends
pub end_in : (b : List ℕ) (k a n : ℕ) {q : ℕ} → n ≤ length b → string_end b k a n ≡ Some q → (n ≤ q) × (q ≤ length b)
unfolding string_end
end_in b k a n {q} h e = go (within 2 3 k) (ltb (length b - n) a) refl e
  where
    go : (t u : Bool) → ltb (length b - n) a ≡ u → cond t (cond u None (Some (n + a))) (Some n) ≡ Some q → (n ≤ q) × (q ≤ length b)
    go true true f g = absurd (let z : ◌≡◌ {A = ℕ} 0 1 = cc in omega arith)
    go true false f g = let z : n + a ≡ q = cc in (omega arith, omega (arith, ltb-false (length b - n) a f))
    go false u f g = let z : n ≡ q = cc in (omega arith, omega arith)

module _ (b : List ℕ) (p i d : ℕ) {x : Head} (e : x ≡ head_at b p) where
  pub no_head : {r : ℕ} → x ≡ Bad r → ItemAt b p i d None
  no_head {r} q = record {
    inside = tt;
    takes = λ l str z prev g s f. absurd (let y = sym q ∙ e ∙ found b p l (str ++ z) g.head f in let z : ◌≡◌ {A = ℕ} 0 1 = cc in omega arith);
  }

  module _ {k a n : ℕ} (q : x ≡ heads.Good k a n) where
    same : (l : Lead) (y : List ℕ) → Rattle.cbor.specs.Head.Sound l → drop p b ≡ lead_bytes l ++ y → heads.Good k a n ≡ heads.Good l.kind l.arg (p + size l)
    same l y h f = sym q ∙ e ∙ found b p l y h f

    same_kind : (l : Lead) (y : List ℕ) → Rattle.cbor.specs.Head.Sound l → drop p b ≡ lead_bytes l ++ y → k ≡ l.kind
    same_kind l y h f = let z = same l y h f in cc

    same_arg : (l : Lead) (y : List ℕ) → Rattle.cbor.specs.Head.Sound l → drop p b ≡ lead_bytes l ++ y → a ≡ l.arg
    same_arg l y h f = let z = same l y h f in cc

    same_next : (l : Lead) (y : List ℕ) → Rattle.cbor.specs.Head.Sound l → drop p b ≡ lead_bytes l ++ y → n ≡ p + size l
    same_next l y h f = let z = same l y h f in cc

    pub too_deep : {t : Bool} → t ≡ (is_container k && eqb d 0) → t ≡ true → ItemAt b p i d None
    too_deep {t} m h = record {
      inside = tt;
      takes = λ l str z prev g s f. absurd (true≢false (sym h ∙ m ∙ rw (same_kind l (str ++ z) g.head f) s));
    }

    module _ (c : Passed b p x) where
      passed : (p < n) × (n ≤ length b) × (k ≤ 9)
      passed = rw q at c

      pub head_in : n ≤ length b
      head_in = passed.1

      ends : {u : Option ℕ} → u ≡ string_end b k a n → (l : Lead) (str z prev : List ℕ) → Good (slot_of i) prev l str → drop p b ≡ lead_bytes l ++ (str ++ z)
          → u ≡ Some (p + (size l + length str))
      ends m l str z prev g f = m ∙ rw (same_kind l (str ++ z) g.head f, same_arg l (str ++ z) g.head f, same_next l (str ++ z) g.head f)
          (end_is b p l str z g.sized f (omega (arith, passed.0, passed.1)))

      pub too_short : {u : Option ℕ} → u ≡ string_end b k a n → u ≡ None → ItemAt b p i d None
      too_short {u} m h = record {
        inside = tt;
        takes = λ l str z prev g s f. absurd (let y = sym h ∙ ends m l str z prev g f in let z : ◌≡◌ {A = ℕ} 0 1 = cc in omega arith);
      }

      pub is_taken : {t : Bool} {u : Option ℕ} {j : ℕ} → t ≡ (is_container k && eqb d 0) → t ≡ false → u ≡ string_end b k a n → u ≡ Some j
          → ItemAt b p i d (taken k a n j)
      is_taken {t} {u} {j} mt ht mu hu =
          let w = end_in b k a n passed.1 (sym mu ∙ hu) in
          record {
            inside = (passed.0, w.0, w.1, sym mt ∙ ht);
            takes = λ l str z prev g s f.
                let q₁ = same_kind l (str ++ z) g.head f in
                let q₂ = same_arg l (str ++ z) g.head f in
                let q₃ = same_next l (str ++ z) g.head f in
                let q₄ = sym hu ∙ ends mu l str z prev g f in
                let q₅ : j ≡ p + (size l + length str) = cc in
                rw (q₁, q₂, q₃, q₅);
          }

pub ruleset taking = (no_head, too_deep, head_in, too_short, is_taken)
