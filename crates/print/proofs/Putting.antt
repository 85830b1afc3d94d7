-- Laws of writing: a byte before a text, a loop over copies, what is matched on.
use Prim.Native.Nat.{ℕ, ◌+◌, ◌≤◌}
use mathlib.Core.Path.{◌≡◌}
use mathlib.Core.List.{List, [], ◌∷◌, ◌++◌}
use borrow.Author.Tests.{ne_eqb}
use native.Mathlib.Omega.{arith}
use native.Mathlib.Numerals.{add-one}
use Rattle.ari.specs.declared.Target.{Target}
use Rattle.item_records.specs.declared.Literal.{Literal}
use Rattle.item_records.specs.declared.Container.{Container}
use Rattle.item_records.specs.declared.Kind.{Kind}
use Rattle.buffer.specs.Put.{Put}
use Rattle.buffer.proofs.Putting.{put_nothing, put_both, put_turn, put_whole, put_size}
use Rattle.buffer.specs.Decimal.{decimal}
use Rattle.print.specs.Texts.{repeated, simple_of, literal_of, container_of, kind_of, target_of}

pub put_then : {xs ys zs v : List ℕ} {b at p q : ℕ} → Put xs ys at p (b ∷ []) → Put ys zs p q v → Put xs zs at q (b ∷ v)
put_then a b = put_both a b

-- a turn of a loop over the copies of a text
pub put_again : (t : List ℕ) (i : ℕ) {xs ys zs : List ℕ} {at p q : ℕ} → Put xs ys at p (repeated i t) → Put ys zs p q t → Put xs zs at q (repeated (i + 1) t)
unfolding repeated
put_again t i a b = rw (add-one i) (put_both a b)

pub put_no_times : (xs t : List ℕ) (at : ℕ) → Put xs xs at at (repeated 0 t)
unfolding repeated
put_no_times xs t at = put_nothing xs at

pub put_times : (t : List ℕ) (i n : ℕ) {xs ys : List ℕ} {at p : ℕ} → Put xs ys at p (repeated i t) → i ≤ n → n ≤ i → Put xs ys at p (repeated n t)
put_times t i n a h l = let e : i ≡ n = omega arith in rw e at a

-- what is matched on, as what it is
pub of_literal : {l m : Literal} {xs ys : List ℕ} {at p : ℕ} → l ≡ m → Put xs ys at p (literal_of m) → Put xs ys at p (literal_of l)
of_literal e a = rw e a

pub of_container : {l m : Container} {xs ys : List ℕ} {at p : ℕ} → l ≡ m → Put xs ys at p (container_of m) → Put xs ys at p (container_of l)
of_container e a = rw e a

pub of_kind : {l m : Kind} {xs ys : List ℕ} {at p : ℕ} → l ≡ m → Put xs ys at p (kind_of m) → Put xs ys at p (kind_of l)
of_kind e a = rw e a

pub of_target : {l m : Target} {xs ys : List ℕ} {at p : ℕ} → l ≡ m → Put xs ys at p (target_of m) → Put xs ys at p (target_of l)
of_target e a = rw e a

pub of_simple : {n m : ℕ} {xs ys : List ℕ} {at p : ℕ} → n ≡ m → Put xs ys at p (simple_of m) → Put xs ys at p (simple_of n)
of_simple e a = rw e a

pub other_simple : {n : ℕ} {xs ys : List ℕ} {at p : ℕ} → (n ≡ 20 → ⊥) → (n ≡ 21 → ⊥) → (n ≡ 22 → ⊥) → (n ≡ 23 → ⊥)
    → Put xs ys at p ((115 ∷ 105 ∷ 109 ∷ 112 ∷ 108 ∷ 101 ∷ 32 ∷ []) ++ decimal n) → Put xs ys at p (simple_of n)
other_simple {n} {xs} {ys} {at} {p} a b c d e = rw (ne_eqb n 20 a, ne_eqb n 21 b, ne_eqb n 22 c, ne_eqb n 23 d) e

pub ruleset matching = (of_literal, of_container, of_kind, of_target, of_simple, other_simple)

pub ruleset putting = (put_both, put_then, put_nothing, put_turn, put_whole, put_again, put_no_times, put_times, put_size)
