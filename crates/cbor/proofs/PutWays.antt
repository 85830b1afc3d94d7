-- A head as it is put, by the size of its argument; the premises are the tests as the code makes them.
use Prim.Native.Nat.{ℕ, ◌+◌, ◌*◌, ◌<◌, ◌≤◌}
use mathlib.Core.Path.{◌≡◌}
use mathlib.Core.List.{List, [], ◌∷◌}
use native.Mathlib.Omega.{arith}
use borrow.Author.Tests.{lt-ltb, le-ltb, le-leb, lt-leb, ne_eqb}
use Rattle.buffer.specs.Put.{Put}
use Rattle.buffer.specs.Bytes.{be}
use Rattle.buffer.proofs.Putting.{put_nothing, put_both}
use Rattle.buffer.proofs.Numbers.{one_put}
use Rattle.cbor.specs.Head.{map, simple, width, shortest, major_of, lead_bytes, lead_of, head_bytes}
use Rattle.cbor.proofs.HeadLaws.{width_small}

module _ (k x : ℕ) where
  pub simple_put : {a b : List ℕ} {at r : ℕ} → k ≡ simple → x < 24 → Put a b at r ((224 + x) ∷ []) → Put a b at r (head_bytes k x)
  unfolding head_bytes lead_bytes lead_of major_of
  simple_put e h p = rw (e, lt-ltb x 24 h, width_small x h) p

  pub simple_none : (room : List ℕ) (at : ℕ) → k ≡ simple → 24 ≤ x → Put room room at at (head_bytes k x)
  unfolding head_bytes
  simple_none room at e h = rw (e, le-ltb x 24 h) (put_nothing room at)

  pub float_none : (room : List ℕ) (at : ℕ) → (k ≡ simple → ⊥) → map < k → Put room room at at (head_bytes k x)
  unfolding head_bytes
  float_none room at n h = rw (lt-leb k 5 h, ne_eqb k 6 n) (put_nothing room at)

  module _ (h : k ≤ map) where
    counted : head_bytes k x ≡ (k * 32 + shortest x) ∷ be (width (shortest x)) x
    unfolding head_bytes lead_bytes lead_of major_of
    counted = rw (le-leb k 5 h)

    pub itself_put : {a b : List ℕ} {at r : ℕ} → x < 24 → Put a b at r ((k * 32 + x) ∷ []) → Put a b at r (head_bytes k x)
    unfolding shortest
    itself_put l p = rw (counted, lt-ltb x 24 l, width_small x l) p

    module _ {a b c : List ℕ} {at q r : ℕ} where
      pub after_1 : 24 ≤ x → x < 256 → Put a b at q ((k * 32 + 24) ∷ []) → Put b c q r (x ∷ []) → Put a c at r (head_bytes k x)
      unfolding shortest width
      after_1 g l p w = rw (counted, le-ltb x 24 g, lt-ltb x 256 l) (put_both p (one_put x w))

      pub after_2 : 256 ≤ x → x < 65536 → Put a b at q ((k * 32 + 25) ∷ []) → Put b c q r (be 2 x) → Put a c at r (head_bytes k x)
      unfolding shortest width
      after_2 g l p w = rw (counted, le-ltb x 24 (omega arith), le-ltb x 256 g, lt-ltb x 65536 l) (put_both p w)

      pub after_4 : 65536 ≤ x → x < 4294967296 → Put a b at q ((k * 32 + 26) ∷ []) → Put b c q r (be 4 x) → Put a c at r (head_bytes k x)
      unfolding shortest width
      after_4 g l p w = rw (counted, le-ltb x 24 (omega arith), le-ltb x 256 (omega arith), le-ltb x 65536 g, lt-ltb x 4294967296 l) (put_both p w)

      pub after_8 : 4294967296 ≤ x → Put a b at q ((k * 32 + 27) ∷ []) → Put b c q r (be 8 x) → Put a c at r (head_bytes k x)
      unfolding shortest width
      after_8 g p w =
          rw (counted, le-ltb x 24 (omega arith), le-ltb x 256 (omega arith), le-ltb x 65536 (omega arith), le-ltb x 4294967296 g) (put_both p w)

pub ruleset putting = (simple_put, simple_none, float_none, itself_put, after_1, after_2, after_4, after_8)
