-- A day file that stands is the file of its messages. The idea: offsets that rise cut the bytes before the table into parts that lie side by side, and the
-- table's entries and the trailer are the bytes of their numbers.
use Prim.Native.Nat.{ℕ, zero, suc, ◌+◌, ◌-◌, ◌*◌, ◌<◌, ◌≤◌}
use mathlib.Core.Path.{◌≡◌, refl, sym, ◌∙◌, ap}
use mathlib.Core.Bool.{true, not, ◌&&◌, ◌||◌, cond}
use mathlib.Core.List.{List, ◌∷◌, ◌++◌, append-nil}
use native.Mathlib.Omega.{arith}
use native.Mathlib.Numerals.{add-one}
use lib.ListN.{length, take, drop, get_or, length-drop, take-append-drop}
use lib.Seq.{take_all, drop-drop, drop-cons, length-take-le}
use lib.Dec.{eqb, ltb}
use borrow.Author.Tests.{eqb-true, ltb-true, lt-ltb, le-ltb, eq-eqb, ne_eqb}
use Rattle.buffer.specs.Bytes.{be, load_at, part, all, is_byte}
use Rattle.buffer.proofs.ByteLaws.{and-true, within_true, value_part_be, all_drop}
use Rattle.buffer.proofs.Numbers.{load_there}
use Rattle.buffer.proofs.RunLaws.{part_join}
use Rattle.day_file.specs.declared.Format.{Format}
use Rattle.day_file.specs.Day.{width, most_bytes, join, offsets, trailer, file_of, count_in, start_in, offset_in, end_in, message_in, messages_from, messages_in, trailer_stands, entry_stands}

pub length_part : (b : List ℕ) (x y : ℕ) → x ≤ y → y ≤ length b → length (part b x y) ≡ y - x
length_part b x y h k = length-take-le (y - x) (drop x b) (rw length-drop (omega arith))

-- a number that is loaded is those bytes
loaded_bytes : (w : ℕ) (b : List ℕ) (at : ℕ) → all is_byte b ≡ true → at + w ≤ length b → be w (load_at w b at) ≡ take w (drop at b)
loaded_bytes w b at bytes h = rw (load_there w b at h) (value_part_be w (drop at b) (all_drop is_byte at b bytes) (rw length-drop (omega arith)))

-- what a trailer that stands says
pub record Trailer (f : Format) (b : List ℕ) : Type 0 where
  pub long : 8 ≤ length b
  pub short : length b ≤ most_bytes f
  pub version_is : get_or b (length b - 8) 0 ≡ f.version
  pub zero_is : get_or b (length b - 7) 0 ≡ 0
  pub sum : start_in b + (width f * count_in b + 8) ≡ length b
  pub none : count_in b ≡ 0 → start_in b ≡ 0

pub trailer_says : (f : Format) (b : List ℕ) → trailer_stands f b ≡ true → Trailer f b
unfolding trailer_stands
trailer_says f b e =
    let (lengths, e₁) = and-true _ _ e in
    let (version, e₂) = and-true _ _ e₁ in
    let (zero', e₃) = and-true _ _ e₂ in
    let (sum, e₄) = and-true _ _ e₃ in
    let (long, short) = within_true 8 (most_bytes f) (length b) lengths in
    record {
      long = long;
      short = short;
      version_is = eqb-true _ _ version;
      zero_is = eqb-true _ _ zero';
      sum = eqb-true _ _ sum;
      none = λ z. eqb-true _ _ (empty z e₄);
    }
  where
    empty : count_in b ≡ 0 → not (eqb (count_in b) 0) || eqb (start_in b) 0 ≡ true → eqb (start_in b) 0 ≡ true
    empty z q = rw (eq-eqb (count_in b) 0 z) at q

module _ (f : Format) (b : List ℕ) (bytes : all is_byte b ≡ true) (t : trailer_stands f b ≡ true) (es : (k : ℕ) → k < count_in b → entry_stands f b k ≡ true) where
  abbrev n : ℕ
  n = count_in b

  abbrev st : ℕ
  st = start_in b

  abbrev w : ℕ
  w = width f

  abbrev o : ℕ → ℕ
  o = offset_in f b

  abbrev says : Trailer f b
  says = trailer_says f b t

  -- the table's entries
  below : (k : ℕ) → k < n → o k < st
  unfolding entry_stands
  below k h = ltb-true (o k) st (and-true (cond (eqb k 0) (eqb (o 0) 0) (ltb (o (k - 1)) (o k))) (ltb (o k) st) (es k h)).1

  pub starts : 0 < n → o 0 ≡ 0
  unfolding entry_stands
  starts h = eqb-true (o 0) 0 (and-true (eqb (o 0) 0) (ltb (o 0) st) (es 0 h)).0

  rises : (k : ℕ) → suc k < n → o k < o (suc k)
  unfolding entry_stands
  rises k h =
      let q : ltb (o (suc k - 1)) (o (suc k)) && ltb (o (suc k)) st ≡ true = rw (ne_eqb (suc k) 0 (λ z. omega arith)) at (es (suc k) h) in
      let e : suc k - 1 ≡ k = omega arith in
      let r : ltb (o (suc k - 1)) (o (suc k)) ≡ true = (and-true (ltb (o (suc k - 1)) (o (suc k))) (ltb (o (suc k)) st) q).0 in
      ltb-true (o k) (o (suc k)) (rw e at r)

  end_next : (k : ℕ) → suc k < n → end_in f b k ≡ o (suc k)
  unfolding end_in
  end_next k h = rw (add-one k, lt-ltb (suc k) n h)

  end_last : (k : ℕ) → suc k ≡ n → end_in f b k ≡ st
  unfolding end_in
  end_last k h = rw (add-one k, le-ltb (suc k) n (omega arith))

  inside : st ≤ length b
  inside = omega (arith, says.sum)

  message_next : (k : ℕ) → suc k < n → message_in f b k ≡ part b (o k) (o (suc k))
  unfolding message_in
  message_next k h = rw (end_next k h)

  message_last : (k : ℕ) → suc k ≡ n → message_in f b k ≡ part b (o k) st
  unfolding message_in
  message_last k h = rw (end_last k h)

  pub next_offset : (k : ℕ) → suc k < n → o k + length (message_in f b k) ≡ o (suc k)
  next_offset k h =
      let up = rises k h in
      let low = below (suc k) h in
      let size : length (message_in f b k) ≡ o (suc k) - o k = ap length (message_next k h) ∙ length_part b (o k) (o (suc k)) (omega arith) (omega (arith, inside)) in
      omega arith

  -- the messages from k on are the bytes from there to the table
  joined : (j k : ℕ) → k + suc j ≡ n → join (messages_from f b k (suc j)) ≡ part b (o k) st
  joined zero k h = append-nil _ ∙ message_last k (omega arith)
  joined (suc j) k h =
      let up = rises k (omega arith) in
      let low = below (suc k) (omega arith) in
      ap (λ (l : List ℕ). l ++ join (messages_from f b (suc k) (suc j))) (message_next k (omega arith))
      ∙ ap (λ (l : List ℕ). part b (o k) (o (suc k)) ++ l) (joined j (suc k) (omega arith))
      ∙ part_join b (o k) (o (suc k)) st (omega arith) (omega arith)

  -- the entries from k on are the bytes of the table from there on
  entry_bytes : (k d : ℕ) → n ≡ suc k + d → be w (o k) ≡ part b (st + w * k) (st + w * suc k)
  unfolding offset_in
  entry_bytes k d e =
      let there : st + w * k + w ≤ length b = omega (arith, says.sum, ap (λ (i : ℕ). w * i) e) in
      let q : st + w * suc k - (st + w * k) ≡ w = omega arith in
      loaded_bytes w b (st + w * k) bytes there ∙ rw q

  tabled : (j k : ℕ) → k + suc j ≡ n → offsets w (o k) (messages_from f b k (suc j)) ≡ part b (st + w * k) (st + w * n)
  tabled zero k h = let e : n ≡ suc k = omega arith in append-nil _ ∙ entry_bytes k 0 (omega arith) ∙ rw e
  tabled (suc j) k h =
      let e : w * n ≡ w * suc k + w * suc j = omega (arith, ap (λ (i : ℕ). w * i) h) in
      ap (λ (i : ℕ). be w (o k) ++ offsets w i (messages_from f b (suc k) (suc j))) (next_offset k (omega arith))
      ∙ ap (λ (l : List ℕ). be w (o k) ++ l) (tabled j (suc k) (omega arith))
      ∙ ap (λ (l : List ℕ). l ++ part b (st + w * suc k) (st + w * n)) (entry_bytes k (suc j) (omega arith))
      ∙ part_join b (st + w * k) (st + w * suc k) (st + w * n) (omega arith) (omega arith)

  -- the trailer
  last_eight : drop (st + w * n) b ≡ trailer f n st
  last_eight =
      let long = says.long in
      let sum = says.sum in
      let l : ℕ = length b - 8 in
      let e : st + w * n ≡ l = omega arith in
      let first : drop l b ≡ get_or b l 0 ∷ drop (suc l) b = drop-cons b l 0 (omega arith) in
      let second : drop (suc l) b ≡ get_or b (suc l) 0 ∷ drop (suc (suc l)) b = drop-cons b (suc l) 0 (omega arith) in
      let e₁ : length b - 7 ≡ suc l = omega arith in
      let e₂ : length b - 6 ≡ suc (suc l) = omega arith in
      let e₃ : length b - 4 ≡ suc (suc l) + 2 = omega arith in
      let zero' : get_or b (suc l) 0 ≡ 0 = rw e₁ at says.zero_is in
      let count : be 2 n ≡ take 2 (drop (suc (suc l)) b) = loaded_bytes 2 b (length b - 6) bytes (omega arith) ∙ rw e₂ in
      let place : be 4 st ≡ drop (suc (suc l) + 2) b =
      loaded_bytes 4 b (length b - 4) bytes (omega arith) ∙ rw e₃ (take_all 4 (drop (suc (suc l) + 2) b) (rw length-drop (omega arith))) in
      let rest : drop (suc (suc l)) b ≡ be 2 n ++ be 4 st =
      sym (take-append-drop 2 (drop (suc (suc l)) b)) ∙ ap (λ (x : List ℕ). x ++ drop 2 (drop (suc (suc l)) b)) (sym count)
      ∙ ap (λ (x : List ℕ). be 2 n ++ x) (drop-drop 2 (suc (suc l)) b ∙ sym place) in
      rw e (first ∙ ap (λ (x : ℕ). x ∷ drop (suc l) b) says.version_is ∙ ap (λ (x : List ℕ). f.version ∷ x) (second ∙ ap (λ (x : ℕ). x ∷ drop (suc (suc l)) b) zero' ∙ ap (λ (x : List ℕ). 0 ∷ x) rest))

  length_messages : (k j : ℕ) → length (messages_from f b k j) ≡ j
  length_messages k zero = refl
  length_messages k (suc j) = ap suc (length_messages (suc k) j)

  -- messages and table of any number of them
  all_joined : (c : ℕ) → c ≡ n → join (messages_from f b 0 c) ≡ take st b
  all_joined zero e = let z : st ≡ 0 = says.none (sym e) in rw z
  all_joined (suc j) e = let z : st - 0 ≡ st = omega arith in joined j 0 (omega arith) ∙ rw (starts (omega arith), z)

  all_tabled : (c : ℕ) → c ≡ n → offsets w 0 (messages_from f b 0 c) ≡ part b st (st + w * n)
  all_tabled zero e = let z : st + w * n - st ≡ 0 = omega (arith, ap (λ (i : ℕ). w * i) e) in rw z
  all_tabled (suc j) e =
      let z : st + w * 0 ≡ st = omega arith in
      ap (λ (i : ℕ). offsets w i (messages_from f b 0 (suc j))) (sym (starts (omega arith))) ∙ tabled j 0 (omega arith) ∙ rw z

  -- the bytes are the file of their messages
  pub is_file : b ≡ file_of f (messages_in f b)
  unfolding file_of
  is_file =
      let i = inside in
      let size : length (join (messages_in f b)) ≡ st = ap length (all_joined n refl) ∙ length-take-le st b i in
      let behind : drop st b ≡ part b st (st + w * n) ++ drop (st + w * n) b =
      sym (take-append-drop (st + w * n - st) (drop st b))
      ∙ ap (λ (x : List ℕ). part b st (st + w * n) ++ x) (drop-drop (st + w * n - st) st b ∙ (let q : st + (st + w * n - st) ≡ st + w * n = omega arith in rw q)) in
      sym (rw (length_messages 0 n, size, all_joined n refl, all_tabled n refl, ← last_eight) (ap (λ (x : List ℕ). take st b ++ x) (sym behind) ∙ take-append-drop st b))

  pub messages_joined : join (messages_in f b) ≡ take st b
  messages_joined = all_joined n refl

  pub messages_tabled : offsets w 0 (messages_in f b) ≡ part b st (st + w * n)
  messages_tabled = all_tabled n refl

  pub messages_counted : length (messages_in f b) ≡ n
  messages_counted = length_messages 0 n
