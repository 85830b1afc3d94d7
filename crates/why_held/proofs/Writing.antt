-- The links as bytes, one behind the other.
use Prim.Native.Nat.{ℕ, ◌+◌, ◌*◌, ◌%◌, ◌<◌, ◌≤◌}
use mathlib.Core.Path.{◌≡◌, refl, sym, ◌∙◌, ap}
use mathlib.Core.List.{List, [], ◌∷◌, ◌++◌, append_assoc, append-nil}
use native.Mathlib.Omega.{arith}
use native.Mathlib.Numerals.{add-one}
use lib.ListN.{length, get_or, take, drop, length-append}
use lib.Seq.{sets-eq, take-suc, length-take-le}
use Rattle.buffer.specs.Bytes.{be}
use Rattle.buffer.specs.Put.{Put}
use Rattle.buffer.proofs.ByteLaws.{length_be}
use Rattle.buffer.proofs.Putting.{put_both, put_nothing}
use Rattle.why_held.specs.declared.Link.{Link}
use Rattle.why_held.specs.Why.{link_bytes, links_bytes}

pub link_put : (l : Link) {a b c d e : List ℕ} {at p q r o : ℕ} → Put a b at p (be 4 (l.first % 4294967296)) → Put b c p q (be 4 (l.after % 4294967296))
    → Put c d q r (be 8 l.meaning) → Put d e r o (be 8 l.key) → Put a e at o (link_bytes l)
unfolding link_bytes
link_put l a b c d = put_both a (put_both b (put_both c d))

length_link : (l : Link) → length (link_bytes l) ≡ 24
unfolding link_bytes
length_link l =
    simp length-append
    (omega (arith, length_be 4 (l.first % 4294967296), length_be 4 (l.after % 4294967296), length_be 8 l.meaning, length_be 8 l.key))

length_links : (ls : List Link) → length (links_bytes ls) ≡ 24 * length ls
length_links [] = refl
length_links (l ∷ ls) = omega (arith, length-append (link_bytes l) (links_bytes ls), length_link l, length_links ls)

links_append : (xs ys : List Link) → links_bytes (xs ++ ys) ≡ links_bytes xs ++ links_bytes ys
links_append [] ys = refl
links_append (l ∷ xs) ys = rw (links_append xs ys) (sym (append_assoc (link_bytes l) (links_bytes xs) (links_bytes ys)))

module _ (ls : List Link) {room : List ℕ} where
  pub no_links : Put room room 0 0 (links_bytes (take 0 ls))
  no_links = put_nothing room 0

  pub one_link_more : {x y : List ℕ} {i at r : ℕ} (d : Link) → Put room x 0 at (links_bytes (take i ls)) → i < length ls → Put x y at r (link_bytes (get_or ls i d))
      → Put room y 0 r (links_bytes (take (i + 1) ls))
  one_link_more {i = i} d p h q =
      let l : Link = get_or ls i d in
      let t : take (i + 1) ls ≡ take i ls ++ (l ∷ []) = rw (add-one i) (take-suc ls i d h) in
      rw (t, links_append (take i ls) (l ∷ []), append-nil (link_bytes l)) (put_both p q)

  pub links_put : {x : List ℕ} {i n at : ℕ} → Put room x 0 at (links_bytes (take i ls)) → i ≤ n → n ≤ i → n ≤ length ls → 24 * n ≤ length room
      → x ≡ links_bytes (take n ls) ++ drop (24 * n) room
  links_put {i = i} {n = n} p h g f l =
      let e : i ≡ n = omega arith in
      let size : length (links_bytes (take n ls)) ≡ 24 * n = length_links (take n ls) ∙ ap (λ (k : ℕ). 24 * k) (length-take-le n ls f) in
      let end : 0 + length (links_bytes (take n ls)) ≡ 24 * n = omega (arith, size) in
      p.bytes ∙ rw e (sets-eq (links_bytes (take n ls)) room 0 (omega arith) ∙ rw end)

pub ruleset link_bytes_lem = (no_links, one_link_more, links_put)
