-- A refusal other than 2 and 9 is that of every continuation. The idea: 2 and 9 alone ask how many bytes there are.
use Prim.Native.Nat.{ℕ, zero, suc, ◌+◌, ◌/◌, ◌%◌, ◌<◌, ◌≤◌}
use mathlib.Core.Path.{◌≡◌, refl, sym, ◌∙◌}
use mathlib.Core.Bool.{Bool, true, false, not, ◌&&◌, cond}
use mathlib.Core.List.{List, [], ◌∷◌, ◌++◌}
use native.Mathlib.Omega.{arith}
use lib.ListN.{length, take, drop, length-append, length-drop}
use lib.Seq.{take-append-le, drop-append-le, length-take-le}
use lib.Dec.{ltb, eqb}
use borrow.Author.Tests.{ltb-true, ltb-false, le-ltb, lt-ltb}
use Rattle.buffer.proofs.ByteLaws.{past}
use Rattle.cbor.specs.Head.{text, Lead, size, width, argument, kind_of, unused, bad_float, Got, bad, got, get_from, get_head, string_size, is_container}
use Rattle.cbor.proofs.HeadLaws.{head_fits}
use Rattle.ari.specs.Table.{message, Slot, ari, rule, fits}
use Rattle.ari.specs.declared.Limits.{Limits}
use Rattle.ari.specs.declared.Input.{Input}
use Rattle.cbor.specs.Head.{key_bytes}
use Rattle.ari.specs.Reader.{Dues, end, sets, frame, wrong_version, not_greater, is_empty, Step, no, yes, judge, judge_content, judge_got, Answer, refuse, accept, Go, take_step, visit_frame, visit, run, counted, read}
use Rattle.ari.proofs.Central.{judged, start}

-- the head is there, or it is refused with 2
from_more : (m i : ℕ) (b c : List ℕ) → width i ≤ length b → get_from m i (b ++ c) ≡ get_from m i b
unfolding get_from argument
from_more m i b c h =
    rw (le-ltb (length (b ++ c)) (width i) (omega (arith, length-append b c)), le-ltb (length b) (width i) h, take-append-le (width i) b c h)

from_short : (m i : ℕ) (b : List ℕ) → ltb (length b) (width i) ≡ true → get_from m i b ≡ bad 2
unfolding get_from
from_short m i b e = rw e

head_more : (b c : List ℕ) → (get_head b ≡ bad 2 → ⊥) → get_head (b ++ c) ≡ get_head b
unfolding get_head
head_more [] c n = absurd (n refl)
head_more (x ∷ b) c n = go (ltb (length b) (width (x % 32))) refl n
  where
    go : (t : Bool) → ltb (length b) (width (x % 32)) ≡ t → (get_from (x / 32) (x % 32) b ≡ bad 2 → ⊥)
        → get_from (x / 32) (x % 32) (b ++ c) ≡ get_from (x / 32) (x % 32) b
    go true e n = absurd (n (from_short (x / 32) (x % 32) b e))
    go false e n = from_more (x / 32) (x % 32) b c (ltb-false (length b) (width (x % 32)) e)

-- the string is there, or it is refused with 9 if it comes to that
guard : (t : Bool) (z x y : Step) → (cond t z y ≡ no 9 → ⊥) → ((y ≡ no 9 → ⊥) → x ≡ y) → cond t z x ≡ cond t z y
guard true z x y n f = refl
guard false z x y n f = f n

judge_more : (left d : ℕ) (s : Slot) (prev : List ℕ) (l : Lead) (r c : List ℕ) → (judge left d s prev l r ≡ no 9 → ⊥)
    → judge left d s prev l (r ++ c) ≡ judge left d s prev l r
unfolding judge judge_content
judge_more left d s prev l r c n =
    guard (eqb left 0) _ _ _ n λ n5. guard (is_container l.kind && eqb d 0) _ _ _ n5 λ n6. guard (not (fits l.kind l.arg (rule s).rows)) _ _ _ n6
    λ n7. guard (wrong_version (rule s).extra l.arg) _ _ _ n7 λ n8. strings (ltb (length r) (string_size l)) refl n8
  where
    after : List ℕ → Step
    after str =
        cond (eqb l.kind text && not ((rule s).spelling str)) (no 10)
        (cond (not_greater (rule s).extra prev (key_bytes l str)) (no 11) (cond (is_empty (rule s).extra l.arg) (no 12) (yes l str)))

    strings : (t : Bool) → ltb (length r) (string_size l) ≡ t → (cond t (no 9) (after (take (string_size l) r)) ≡ no 9 → ⊥)
        → cond (ltb (length (r ++ c)) (string_size l)) (no 9) (after (take (string_size l) (r ++ c))) ≡ cond (ltb (length r) (string_size l)) (no 9) (after (take (string_size l) r))
    strings true e n = absurd (n refl)
    strings false e n =
        let h : string_size l ≤ length r = ltb-false (length r) (string_size l) e in
        rw (le-ltb (length (r ++ c)) (string_size l) (omega (arith, length-append r c)), take-append-le (string_size l) r c h, e)

-- What a head gives stays: taken with the same string, or refused by the same test, unless its own bytes or its string's are not all there yet.
not_no : {l : Lead} {str : List ℕ} {r : ℕ} → yes l str ≡ no r → ⊥
not_no e = let z : ◌≡◌ {A = ℕ} 0 1 = cc in omega arith

not_bad : {l : Lead} {r : ℕ} → got l ≡ bad r → ⊥
not_bad e = let z : ◌≡◌ {A = ℕ} 0 1 = cc in omega arith

pub head_stays : (c : List ℕ) (left d : ℕ) (s : Slot) (prev b : List ℕ) {x : Step} → judge_got left d s prev (get_head b) b ≡ x → (x ≡ no 2 → ⊥) → (x ≡ no 9 → ⊥)
    → judge_got left d s prev (get_head (b ++ c)) (b ++ c) ≡ x
unfolding judge_got
head_stays c left d s prev b {x} j n2 n9 = go (get_head b) refl j
  where
    go : (y : Got) → get_head b ≡ y → judge_got left d s prev y b ≡ x → judge_got left d s prev (get_head (b ++ c)) (b ++ c) ≡ x
    go (bad r) g j = rw (head_more b c (λ e. n2 (let z : bad r ≡ bad 2 = sym g ∙ e in cc)), g) j
    go (got l) g j =
        rw (head_more b c (λ e. not_bad (sym g ∙ e)), g, drop-append-le (size l) b c (head_fits b g), judge_more left d s prev l (drop (size l) b) c (λ e. n9 (sym j ∙ e))) j

-- the bytes of a head that was taken, and its string's, are there
pub taken_fits : (left d : ℕ) (s : Slot) (prev b : List ℕ) {k : Lead} {str : List ℕ} → judge_got left d s prev (get_head b) b ≡ yes k str → size k + length str ≤ length b
unfolding judge_got
taken_fits left d s prev b {k} {str} j = go (get_head b) refl j
  where
    go : (y : Got) → get_head b ≡ y → judge_got left d s prev y b ≡ yes k str → size k + length str ≤ length b
    go (bad r) g j = absurd (not_no (sym j))
    go (got l) g j =
        let (e, w) = judged left d s prev l (drop (size l) b) j in
        let m : length str ≡ string_size l = rw w.string (length-take-le (string_size l) (drop (size l) b) w.there) in
        rw (← e) (omega (arith, w.there, length-drop (size l) b, head_fits b g))

-- what is no head is refused with 2, 3 or 4
head_number : (b : List ℕ) {r : ℕ} → get_head b ≡ bad r → (1 < r) × (r < 5)
unfolding get_head get_from
head_number [] {r} e = let z : 2 ≡ r = cc in (omega arith, omega arith)
head_number (x ∷ b) {r} e = go (ltb (length b) (width (x % 32))) (unused (x / 32) (x % 32)) (bad_float (kind_of (x / 32) (x % 32)) (argument (x % 32) b)) _ e
  where
    go : (t u v : Bool) (l : Lead) → cond t (bad 2) (cond u (bad 3) (cond v (bad 4) (got l))) ≡ bad r → (1 < r) × (r < 5)
    go true u v l e = let z : 2 ≡ r = cc in (omega arith, omega arith)
    go false true v l e = let z : 3 ≡ r = cc in (omega arith, omega arith)
    go false false true l e = let z : 4 ≡ r = cc in (omega arith, omega arith)
    go false false false l e = absurd (not_bad e)

-- a head is refused by one of the tests 2 to 12
judge_number : (left d : ℕ) (s : Slot) (prev : List ℕ) (l : Lead) (b : List ℕ) {r : ℕ} → judge left d s prev l b ≡ no r → (1 < r) × (r < 13)
unfolding judge judge_content
judge_number left d s prev l b {r} e =
    go (eqb left 0) (is_container l.kind && eqb d 0) (not (fits l.kind l.arg (rule s).rows)) (wrong_version (rule s).extra l.arg)
    (ltb (length b) (string_size l)) (eqb l.kind text && not ((rule s).spelling str)) (not_greater (rule s).extra prev (key_bytes l str)) (is_empty (rule s).extra l.arg) e
  where
    str : List ℕ
    str = take (string_size l) b

    go : (t5 t6 t7 t8 t9 t10 t11 t12 : Bool)
        → cond t5 (no 5) (cond t6 (no 6) (cond t7 (no 7) (cond t8 (no 8) (cond t9 (no 9) (cond t10 (no 10) (cond t11 (no 11) (cond t12 (no 12) (yes l str)))))))) ≡ no r
        → (1 < r) × (r < 13)
    go true t6 t7 t8 t9 t10 t11 t12 e = let z : 5 ≡ r = cc in (omega arith, omega arith)
    go false true t7 t8 t9 t10 t11 t12 e = let z : 6 ≡ r = cc in (omega arith, omega arith)
    go false false true t8 t9 t10 t11 t12 e = let z : 7 ≡ r = cc in (omega arith, omega arith)
    go false false false true t9 t10 t11 t12 e = let z : 8 ≡ r = cc in (omega arith, omega arith)
    go false false false false true t10 t11 t12 e = let z : 9 ≡ r = cc in (omega arith, omega arith)
    go false false false false false true t11 t12 e = let z : 10 ≡ r = cc in (omega arith, omega arith)
    go false false false false false false true t12 e = let z : 11 ≡ r = cc in (omega arith, omega arith)
    go false false false false false false false true e = let z : 12 ≡ r = cc in (omega arith, omega arith)
    go false false false false false false false false e = absurd (not_no e)

pub step_number : (left d : ℕ) (s : Slot) (prev b : List ℕ) {r : ℕ} → judge_got left d s prev (get_head b) b ≡ no r → (1 < r) × (r < 13)
unfolding judge_got
step_number left d s prev b {r} j = go (get_head b) refl j
  where
    go : (y : Got) → get_head b ≡ y → judge_got left d s prev y b ≡ no r → (1 < r) × (r < 13)
    go (bad r') g j = let z : r' ≡ r = cc in let (p, q) = head_number b g in (omega arith, omega arith)
    go (got l) g j = judge_number left d s prev l (drop (size l) b) j

-- A head whose string is not all there: it is refused with 9 as long as this is so.
pub record Lacking (left d : ℕ) (s : Slot) (prev b : List ℕ) : Type 0 where
  pub lead : Lead
  pub head : get_head b ≡ got lead
  pub short : length b < size lead + string_size lead
  pub stays : (c : List ℕ) → length (b ++ c) < size lead + string_size lead → judge_got left d s prev (get_head (b ++ c)) (b ++ c) ≡ no 9

judge_lacking : (left d : ℕ) (s : Slot) (prev : List ℕ) (l : Lead) (r : List ℕ) → judge left d s prev l r ≡ no 9
    → (length r < string_size l) × ((r' : List ℕ) → length r' < string_size l → judge left d s prev l r' ≡ no 9)
unfolding judge judge_content
judge_lacking left d s prev l r e =
    let other : (k : ℕ) → (k ≡ 9 → ⊥) → no k ≡ no 9 → ⊥ = λ k n q. n (cc) in
    let (t5, e5) = past (eqb left 0) _ _ (other 5 (λ q. omega arith)) e in
    let (t6, e6) = past (is_container l.kind && eqb d 0) _ _ (other 6 (λ q. omega arith)) e5 in
    let (t7, e7) = past (not (fits l.kind l.arg (rule s).rows)) _ _ (other 7 (λ q. omega arith)) e6 in
    let (t8, e8) = past (wrong_version (rule s).extra l.arg) _ _ (other 8 (λ q. omega arith)) e7 in
    (lacks (ltb (length r) (string_size l)) refl e8, λ r' h. rw (t5, t6, t7, t8, lt-ltb (length r') (string_size l) h))
  where
    str : List ℕ
    str = take (string_size l) r

    lacks : (t : Bool) → ltb (length r) (string_size l) ≡ t
        → cond t (no 9)
        (cond (eqb l.kind text && not ((rule s).spelling str)) (no 10) (cond (not_greater (rule s).extra prev (key_bytes l str)) (no 11) (cond (is_empty (rule s).extra l.arg) (no 12) (yes l str))))
        ≡ no 9 → length r < string_size l
    lacks true x e = ltb-true (length r) (string_size l) x
    lacks false x e =
        let other : (k : ℕ) → (k ≡ 9 → ⊥) → no k ≡ no 9 → ⊥ = λ k n q. n (cc) in
        let (t10, e10) = past (eqb l.kind text && not ((rule s).spelling str)) _ _ (other 10 (λ q. omega arith)) e in
        let (t11, e11) = past (not_greater (rule s).extra prev (key_bytes l str)) _ _ (other 11 (λ q. omega arith)) e10 in
        let (t12, e12) = past (is_empty (rule s).extra l.arg) _ _ (other 12 (λ q. omega arith)) e11 in
        absurd (not_no e12)

pub lacking : (left d : ℕ) (s : Slot) (prev b : List ℕ) → judge_got left d s prev (get_head b) b ≡ no 9 → Lacking left d s prev b
unfolding judge_got
lacking left d s prev b j = go (get_head b) refl j
  where
    go : (y : Got) → get_head b ≡ y → judge_got left d s prev y b ≡ no 9 → Lacking left d s prev b
    go (bad r) g j = absurd (let z : r ≡ 9 = cc in let (_, h) = head_number b g in omega arith)
    go (got l) g j = record {
      lead = l;
      head = g;
      short = omega (arith, (judge_lacking left d s prev l (drop (size l) b) j).0, length-drop (size l) b, head_fits b g);
      stays = λ c h.
          rw (head_more b c (λ e. not_bad (sym g ∙ e)), g)
          ((judge_lacking left d s prev l (drop (size l) b) j).1 (drop (size l) (b ++ c)) (omega (arith, length-drop (size l) (b ++ c), length-append b c, head_fits b g)));
    }

-- one step, if what follows it stays as it is
module _ (c : List ℕ) (r q : ℕ) (n2 : r ≡ 2 → ⊥) (n9 : r ≡ 9 → ⊥) (left : ℕ) (go : Go)
    (ih : (ds : Dues) (p : ℕ) (b : List ℕ) → go ds p b ≡ refuse r q → go ds p (b ++ c) ≡ refuse r q)
    (s : Slot) (n : ℕ) (prev : List ℕ) (d : ℕ) (ds : Dues) (p : ℕ) (b : List ℕ) where
  from_step : (y : Step) → judge_got left d s prev (get_head b) b ≡ y → take_step go s n prev d ds p b y ≡ refuse r q
      → visit_frame left go s n prev d ds p (b ++ c) ≡ refuse r q
  unfolding take_step
  from_step (no r') j t =
      let rr : r ≡ r' = cc in
      rw (head_stays c left d s prev b j (λ e. n2 (let z : r' ≡ 2 = cc in rr ∙ z)) (λ e. n9 (let z : r' ≡ 9 = cc in rr ∙ z))) t
  from_step (yes k str) j t =
      rw (head_stays c left d s prev b j not_no not_no, drop-append-le (size k + length str) b c (taken_fits left d s prev b j)) (ih _ _ _ t)

  frame_stays : visit_frame left go s n prev d ds p b ≡ refuse r q → visit_frame left go s n prev d ds p (b ++ c) ≡ refuse r q
  frame_stays t = from_step (judge_got left d s prev (get_head b) b) refl t

not_refuse : {r p m : ℕ} → accept m ≡ refuse r p → ⊥
not_refuse e = let z : ◌≡◌ {A = ℕ} 0 1 = cc in omega arith

-- whatever follows, the refusal stays
module _ (c : List ℕ) (r q : ℕ) (n2 : r ≡ 2 → ⊥) (n9 : r ≡ 9 → ⊥) where
  visit_stays : (left : ℕ) (go : Go) → ((ds : Dues) (p : ℕ) (b : List ℕ) → go ds p b ≡ refuse r q → go ds p (b ++ c) ≡ refuse r q)
      → (ds : Dues) (p : ℕ) (b : List ℕ) → visit left go ds p b ≡ refuse r q → visit left go ds p (b ++ c) ≡ refuse r q
  unfolding visit
  visit_stays left go ih end p [] e = absurd (not_refuse e)
  visit_stays left go ih end p (x ∷ b) e = e
  visit_stays left go ih (sets d) p [] e = absurd (not_refuse e)
  visit_stays left go ih (sets d) p (x ∷ b) e = frame_stays c r q n2 n9 left go ih (ari message) 0 [] d (sets d) p (x ∷ b) e
  visit_stays left go ih (frame s n prev d ds) p b e = frame_stays c r q n2 n9 left go ih s n prev d ds p b e

  pub run_stays : (left : ℕ) (ds : Dues) (p : ℕ) (b : List ℕ) → run left ds p b ≡ refuse r q → run left ds p (b ++ c) ≡ refuse r q
  unfolding run
  run_stays zero ds p b e = visit_stays zero (λ ds p b. refuse 5 p) (λ ds p b t. t) ds p b e
  run_stays (suc left) ds p b e = visit_stays (suc left) (run left) (run_stays left) ds p b e

  count_stays : (n : ℕ) (x y : Answer) → (x ≡ refuse r q → y ≡ refuse r q) → counted n x ≡ refuse r q → counted n y ≡ refuse r q
  count_stays n (refuse r' q') y f e = rw (f e)
  count_stays n (accept m) y f e = absurd (not_refuse e)

  pub read_stays : (m : Limits) (i : Input) (b : List ℕ) → length (b ++ c) ≤ m.bytes → read m i b ≡ refuse r q → read m i (b ++ c) ≡ refuse r q
  unfolding read
  read_stays m i b h e =
      let short : ltb m.bytes (length b) ≡ false = le-ltb m.bytes (length b) (omega (arith, length-append b c)) in
      let short' : ltb m.bytes (length (b ++ c)) ≡ false = le-ltb m.bytes (length (b ++ c)) h in
      rw short' (count_stays m.items (run m.items (start m i) 0 b) (run m.items (start m i) 0 (b ++ c)) (run_stays m.items (start m i) 0 b) (rw short at e))
