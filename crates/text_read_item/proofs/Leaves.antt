-- The ways through the functions of single bytes, numbers, escapes and heads; the premises are the facts that the code leaves.
use Prim.Native.Nat.{ℕ, zero, suc, ◌+◌, ◌-◌, ◌*◌, ◌/◌, ◌^◌, ◌≤◌, ◌<◌}
use mathlib.Core.Logic.{◌⊎◌, inl, inr}
use mathlib.Core.Path.{◌≡◌, refl, sym, ◌∙◌, ap}
use mathlib.Core.Bool.{Bool, true, false, not, ◌&&◌, ◌||◌, cond, true≢false}
use mathlib.Core.List.{List, [], ◌∷◌}
use native.Mathlib.Omega.{arith}
use native.Mathlib.Nat.{pow-le-pow_right, pow-suc}
use native.Mathlib.Numerals.{add-one}
use lib.ListN.{length, drop, get_or, length-drop}
use lib.Seq.{drop-drop, drop-length, drop-nil}
use lib.Dec.{ltb, leb, eqb}
use borrow.Author.Tests.{lt-ltb, le-ltb, le-leb, lt-leb, ltb-true, ltb-false, leb-true, leb-false, eqb-true, eqb-false, ne_eqb}
use Rattle.buffer.specs.Bytes.{within, part}
use Rattle.buffer.specs.Put.{Put}
use Rattle.buffer.specs.Runs.{RunTo}
use Rattle.std.specs.declared.option.Option.{Option}
use Rattle.std.specs.declared.option.Option.TheVariants.{Some, None}
use Rattle.buffer.specs.Decimal.{unsigned_of}
use Rattle.buffer.proofs.ByteLaws.{not-true, within_is}
use Rattle.buffer.proofs.RunLaws.{here, beyond, part_all, Ahead, run_begins, run_ends, run_out, run_on}
use Rattle.buffer.proofs.Putting.{put_nothing, put_both}
use Rattle.text.specs.Parse.{ends, in_word, starts_by, starts, number, unhex, any, first, unescape, unhexes, starts_number, opened, commas}
use Rattle.text_read_item.specs.declared.Escape.{Escape}
use Rattle.std.specs.Prelude.{Option, Some, None, min}
use Rattle.text_read_item.specs.Words.{first_of, NextTo, StandsFor, EscapeAt, str_by, horner, key_of, comma_of}

-- so many bytes on
module _ (t : List ℕ) (p n : ℕ) where
  skip_none : length t ≤ p → NextTo t p n (length t)
  skip_none h = record { is = drop-length t ∙ sym (rw (beyond t p h) (drop-nil n)); inside = omega arith }

  skip_end : length t - p < n → NextTo t p n (length t)
  skip_end h = record { is = drop-length t ∙ sym (drop-drop n p t ∙ beyond t (p + n) (omega arith)); inside = omega arith }

  skip_on : p ≤ length t → n ≤ length t - p → NextTo t p n (p + n)
  skip_on g h = record { is = sym (drop-drop n p t); inside = omega arith }

  pub skip_to : NextTo t p n (min p (length t) + min n (length t - min p (length t)))
  skip_to = go (leb p (length t)) (leb n (length t - p)) refl refl
    where
      go : (x y : Bool) → leb p (length t) ≡ x → leb n (length t - p) ≡ y → NextTo t p n (min p (length t) + min n (length t - min p (length t)))
      go true true a b =
          let h = leb-true p (length t) a in
          let g = leb-true n (length t - p) b in
          let z : min p (length t) + min n (length t - min p (length t)) ≡ p + n = omega arith in
          rw z (skip_on h g)
      go true false a b =
          let h = leb-true p (length t) a in
          let g = leb-false n (length t - p) b in
          let z : min p (length t) + min n (length t - min p (length t)) ≡ length t = omega arith in
          rw z (skip_end g)
      go false y a b =
          let h = leb-false p (length t) a in
          let z : min p (length t) + min n (length t - min p (length t)) ≡ length t = omega arith in
          rw z (skip_none (omega arith))

-- the byte at a place
pub starts_at : (t : List ℕ) (p c : ℕ) → p < length t → eqb (get_or t p 0) c ≡ starts c (drop p t)
unfolding starts_by
starts_at t p c h = rw (here t p h)

pub starts_none : (t : List ℕ) (p c : ℕ) → length t ≤ p → false ≡ starts c (drop p t)
unfolding starts_by
starts_none t p c h = rw (beyond t p h)

-- the bytes that end a word
module _ (x : ℕ) where
  pub ends_mark : (x ≡ 44) ⊎ ((x ≡ 47) ⊎ (x ≡ 61)) → true ≡ ends x
  unfolding ends
  ends_mark (inl e) = rw e
  ends_mark (inr (inl e)) = rw e
  ends_mark (inr (inr e)) = rw e

  pub ends_bracket : 40 ≤ x → x ≤ 41 → true ≡ ends x
  unfolding ends
  ends_bracket h g = go (eqb x 40) refl
    where
      go : (b : Bool) → eqb x 40 ≡ b → true ≡ ends x
      go true e = let z = eqb-true x 40 e in rw z
      go false e = let n = eqb-false x 40 e in let z : x ≡ 41 = omega arith in rw z

  pub ends_none : (x ≡ 40 → ⊥) → (x ≡ 41 → ⊥) → (x ≡ 44 → ⊥) → (x ≡ 47 → ⊥) → (x ≡ 61 → ⊥) → false ≡ ends x
  unfolding ends
  ends_none a b c d e = rw (ne_eqb x 40 a, ne_eqb x 41 b, ne_eqb x 44 c, ne_eqb x 47 d, ne_eqb x 61 e)

-- a word grows by a byte that does not end it
module _ (t : List ℕ) (p i : ℕ) (a : Ahead in_word t p i) {x : Bool} (h : i < length t) (e : x ≡ ends (get_or t i 0)) where
  pub word_ends : x ≡ true → RunTo in_word t p i
  unfolding in_word
  word_ends q = run_ends in_word t p i a h refl (rw (← e, q))

  pub word_on : x ≡ false → Ahead in_word t p (i + 1)
  unfolding in_word
  word_on q = run_on in_word t p i a h refl (rw (← e, q))

-- the first byte of a word
pub first_is : (u : List ℕ) → 0 < length u → get_or u 0 0 ≡ first_of u
first_is [] h = absurd (omega arith)
first_is (x ∷ u) h = refl

pub first_none : (u : List ℕ) → length u ≤ 0 → 0 ≡ first_of u
first_none [] h = refl
first_none (x ∷ u) h = absurd (omega arith)

-- a number, or 0
module _ (u : List ℕ) (from : ℕ) where
  pub number_out : length u < from → 0 ≡ number (drop from u)
  unfolding number unsigned_of
  number_out h = rw (beyond u from (omega arith))

  module _ {n : Option ℕ} (e : n ≡ unsigned_of (part u from (length u))) where
    pub number_value : {v : ℕ} → n ≡ Some v → v ≡ number (drop from u)
    unfolding number
    number_value q = rw (← part_all u from, ← e, q)

    pub number_bad : n ≡ None → 0 ≡ number (drop from u)
    unfolding number
    number_bad q = rw (← part_all u from, ← e, q)

-- hex digits
module _ (c : ℕ) where
  pub unhex_below : c < 48 → 0 ≡ unhex c
  unfolding unhex
  unhex_below h = rw (lt-leb 48 c h, lt-leb 65 c (omega arith), lt-leb 97 c (omega arith))

  pub unhex_digit : 48 ≤ c → c ≤ 57 → c - 48 ≡ unhex c
  unfolding unhex
  unhex_digit h g = rw (le-leb 48 c h, le-leb c 57 g)

  pub unhex_between : 57 < c → c < 65 → 0 ≡ unhex c
  unfolding unhex
  unhex_between h g = rw (le-leb 48 c (omega arith), lt-leb c 57 h, lt-leb 65 c g, lt-leb 97 c (omega arith))

  pub unhex_upper : 65 ≤ c → c ≤ 70 → c - 65 + 10 ≡ unhex c
  unfolding unhex
  unhex_upper h g = rw (le-leb 48 c (omega arith), lt-leb c 57 (omega arith), le-leb 65 c h, le-leb c 70 g) (omega arith)

  pub unhex_gap : 70 < c → c < 97 → 0 ≡ unhex c
  unfolding unhex
  unhex_gap h g = rw (le-leb 48 c (omega arith), lt-leb c 57 (omega arith), le-leb 65 c (omega arith), lt-leb c 70 h, lt-leb 97 c g)

  pub unhex_lower : 97 ≤ c → c ≤ 102 → c - 97 + 10 ≡ unhex c
  unfolding unhex
  unhex_lower h g = rw (le-leb 48 c (omega arith), lt-leb c 57 (omega arith), le-leb 65 c (omega arith), lt-leb c 70 (omega arith), le-leb 97 c h, le-leb c 102 g) (omega arith)

  pub unhex_above : 102 < c → 0 ≡ unhex c
  unfolding unhex
  unhex_above h = rw (le-leb 48 c (omega arith), lt-leb c 57 (omega arith), le-leb 65 c (omega arith), lt-leb c 70 (omega arith), le-leb 97 c (omega arith), lt-leb c 102 h)

pub two_digits : {h l : ℕ} (c d : ℕ) → h ≡ unhex c → l ≡ unhex d → h * 16 + l ≡ unhex c * 16 + unhex d
two_digits c d e f = rw (e, f)

-- escapes
abbrev pub escape : ℕ → ℕ → Escape
escape n x = record { size = n; byte = x }

cut_off : (t : List ℕ) → length t ≤ 1 → unescape first t ≡ []
unfolding unescape
cut_off [] h = refl
cut_off (x ∷ []) h = refl
cut_off (x ∷ y ∷ t) h = absurd (omega arith)

module _ (u : List ℕ) (i : ℕ) where
  pub escape_bare : i < length u → (get_or u i 0 ≡ 37 → ⊥) → EscapeAt u i (Some (escape 1 (get_or u i 0)))
  unfolding unescape
  escape_bare h n = record { escaped = record { is = rw (here u i h, ne_eqb (get_or u i 0) 37 n); some = omega arith; inside = omega arith } }

  pub escape_cut : i < length u → get_or u i 0 ≡ 37 → length u - i < 3 → EscapeAt u i None
  unfolding unescape
  escape_cut h e g = record { escaped = rw (here u i h, e) (cut_off (drop (i + 1) u) (rw (length-drop (i + 1) u) (omega arith))) }

  pub escape_whole : {x : ℕ} → get_or u i 0 ≡ 37 → 3 ≤ length u - i → x ≡ unhex (get_or u (i + 1) 0) * 16 + unhex (get_or u (i + 1 + 1) 0) → EscapeAt u i (Some (escape 3 x))
  unfolding unescape
  escape_whole {x} e g q =
      let a : i + 1 + 1 ≡ i + 2 = omega arith in
      let b : i + 2 + 1 ≡ i + 3 = omega arith in
      record {
        escaped = record {
          is = rw (here u i (omega arith), e, here u (i + 1) (omega arith), q, a, here u (i + 2) (omega arith), b);
          some = omega arith;
          inside = omega arith;
        };
      }

module _ {u : List ℕ} {i : ℕ} {y : Option Escape} (e : EscapeAt u i y) where
  pub escape_none : y ≡ None → unescape any (drop i u) ≡ []
  escape_none q = (rw q at e).escaped

  pub escape_some : {x : Escape} → y ≡ Some x → StandsFor u i x
  escape_some q = (rw q at e).escaped

-- the bytes that a text's escapes stand for, counted
pub record Unescaped (u : List ℕ) (n i : ℕ) : Type 0 where
  pub counted : n + length (unescape any (drop i u)) ≡ length (unescape any u)
  pub few : n ≤ i
  pub inside : i ≤ length u

pub unescaped_begins : (u : List ℕ) → Unescaped u 0 0
unescaped_begins u = record { counted = omega arith; few = omega arith; inside = omega arith }

module _ (u : List ℕ) (n i : ℕ) (a : Unescaped u n i) where
  pub counted_out : length u ≤ i → n ≡ length (unescape any u)
  unfolding unescape
  counted_out h = let z = rw (beyond u i h) at a.counted in omega arith

  module _ {y : Option Escape} (e : EscapeAt u i y) where
    pub counted_cut : y ≡ None → n ≡ length (unescape any u)
    counted_cut q = let z = rw (escape_none e q) at a.counted in omega arith

    pub counted_on : {x : Escape} → y ≡ Some x → Unescaped u (n + 1) (i + x.size)
    counted_on q =
        let x = escape_some e q in
        record { counted = (let z = rw x.is at a.counted in omega arith); few = omega (arith, x.some, a.few); inside = x.inside }

-- and put: what puts the rest puts the whole
pub record Leads (room : List ℕ) (at : ℕ) (u room' : List ℕ) (r : ℕ) (v : List ℕ) : Type 0 where
  pub then : {room'' : List ℕ} {e : ℕ} → Put room' room'' r e v → Put room room'' at e u

pub leads_begin : (room : List ℕ) (at : ℕ) (u : List ℕ) → Leads room at u room at u
leads_begin room at u = record { then = λ p. p }

module _ {room room' u : List ℕ} {at r : ℕ} (s : List ℕ) (i : ℕ) where
  pub unescaped_out : Leads room at u room' r (unescape any (drop i s)) → length s ≤ i → Put room room' at r u
  unfolding unescape
  unescaped_out a h = a.then (rw (beyond s i h) (put_nothing room' r))

  module _ {y : Option Escape} (a : Leads room at u room' r (unescape any (drop i s))) (e : EscapeAt s i y) where
    pub unescaped_cut : y ≡ None → Put room room' at r u
    unescaped_cut q = a.then (rw (escape_none e q) (put_nothing room' r))

    pub unescaped_on : {x : Escape} {room'' : List ℕ} {q : ℕ} → y ≡ Some x → Put room' room'' r q (x.byte ∷ []) → Leads room at u room'' q (unescape any (drop (i + x.size) s))
    unescaped_on n p = record { then = λ w. a.then (rw (escape_some e n).is (put_both p w)) }

-- two digits a byte
module _ {room room' u : List ℕ} {at r : ℕ} (s : List ℕ) (i : ℕ) where
  pub unhexed_out : Leads room at u room' r (unhexes (drop (2 * i) s)) → length s / 2 ≤ i → Put room room' at r u
  unfolding unhexes
  unhexed_out a h = a.then (rw (few (drop (2 * i) s) (rw (length-drop (2 * i) s) (omega arith))) (put_nothing room' r))
    where
      few : (t : List ℕ) → length t < 2 → unhexes t ≡ []
      few [] g = refl
      few (x ∷ []) g = refl
      few (x ∷ y ∷ t) g = absurd (omega arith)

  pub unhexed_on : {x : ℕ} {room'' : List ℕ} {q : ℕ} → Leads room at u room' r (unhexes (drop (2 * i) s)) → i < length s / 2
      → x ≡ unhex (get_or s (2 * i) 0) * 16 + unhex (get_or s (2 * i + 1) 0) → Put room' room'' r q (x ∷ []) → Leads room at u room'' q (unhexes (drop (2 * (i + 1)) s))
  unfolding unhexes
  unhexed_on {x} a h e p =
      let b : 2 * i + 1 + 1 ≡ 2 * (i + 1) = omega arith in
      let z : unhexes (drop (2 * i) s) ≡ x ∷ unhexes (drop (2 * (i + 1)) s) = rw (here s (2 * i) (omega arith), here s (2 * i + 1) (omega arith), b, e) in
      record { then = λ w. a.then (rw z (put_both p w)) }

-- what starts a number
module _ (x : ℕ) where
  pub minus_starts : x ≡ 45 → true ≡ starts_number x
  unfolding starts_number
  minus_starts e = rw e

  pub low_starts : (x ≡ 45 → ⊥) → x < 48 → false ≡ starts_number x
  unfolding starts_number
  low_starts n h = rw (lt-leb 48 x h, ne_eqb x 45 n)

  pub digit_starts : 48 ≤ x → x ≤ 57 → true ≡ starts_number x
  unfolding starts_number
  digit_starts h g = rw (le-leb 48 x h, le-leb x 57 g)

  pub high_starts : 57 < x → false ≡ starts_number x
  unfolding starts_number
  high_starts h = rw (le-leb 48 x (omega arith), lt-leb x 57 h, ne_eqb x 45 (omega arith))

-- a word's key
pub key_long : (u : List ℕ) → 7 < length u → 0 ≡ key_of u
unfolding key_of
key_long u h = rw (lt-ltb 7 (length u) h)

pub record Keyed (u : List ℕ) (n i : ℕ) : Type 0 where
  pub is : horner n (drop i u) ≡ horner 0 u
  pub below : n < 256 ^ i
  pub inside : i ≤ length u
  pub short : length u ≤ 7

pub key_begins : (u : List ℕ) → length u ≤ 7 → Keyed u 0 0
key_begins u h = record { is = refl; below = omega arith; inside = omega arith; short = h }

module _ (u : List ℕ) (n i : ℕ) (a : Keyed u n i) where
  key_room : i < length u → 256 ^ i ≤ 256 ^ 6
  key_room h = let g : i ≤ 6 = omega (arith, a.short) in pow-le-pow_right {n = 256} (omega arith) g

  pub key_room_left : i < length u → n < 2 ^ 56
  key_room_left h = omega (arith, key_room h, a.below)

  pub key_on : {m : ℕ} → i < length u → (m ≡ n * 256 + get_or u i 0) × (m < n * 256 + 256) → Keyed u m (i + 1)
  unfolding horner
  key_on {m} h (q, l) =
      let e : 256 ^ (i + 1) ≡ 256 ^ i * 256 = rw (add-one i, pow-suc) in
      record { is = rw q (rw (here u i h) at a.is); below = omega (arith, e, a.below); inside = omega arith; short = a.short }

  key_whole : length u ≤ i → 256 ^ i ≤ 256 ^ 7
  key_whole h = let g : i ≤ 7 = omega (arith, a.short, a.inside) in pow-le-pow_right {n = 256} (omega arith) g

  pub key_sum : length u ≤ i → length u * 72057594037927936 + n < 2 ^ 64
  key_sum h = omega (arith, key_whole h, a.below, a.short)

  pub key_is : length u ≤ i → length u * 72057594037927936 + n ≡ key_of u
  unfolding key_of horner
  key_is h = rw (le-ltb 7 (length u) a.short) (ap (λ (x : ℕ). length u * 72057594037927936 + x) (rw (beyond u i h) at a.is))

-- the bytes that count or open, with two others
module _ (x : ℕ) where
  pub other_below : x < 40 → true ≡ not (within 40 44 x)
  other_below h = rw (lt-leb 40 x h)

  pub other_from : 40 ≤ x → ltb 44 x ≡ not (within 40 44 x)
  other_from h = rw (le-leb 40 x h) (go (ltb 44 x) refl)
    where
      go : (t : Bool) → ltb 44 x ≡ t → t ≡ not (leb x 44)
      go true e = rw (lt-leb x 44 (ltb-true 44 x e))
      go false e = rw (le-leb x 44 (ltb-false 44 x e))

  no_mark : within 40 44 x ≡ false → (c : ℕ) → 40 ≤ c → c ≤ 44 → x ≡ c → ⊥
  no_mark f c h g e = true≢false (sym (within_is 40 44 x (omega arith) (omega arith)) ∙ f)

-- commas inside the first parenthesis
module _ (e x : ℕ) where
  pub comma_other : (x ≡ 44 → ⊥) → 0 ≡ comma_of e x
  comma_other n = rw (ne_eqb x 44 n)

  pub comma_first : x ≡ 44 → e ≡ 1 → 1 ≡ comma_of e x
  comma_first h g = rw (h, g)

  pub comma_deeper : x ≡ 44 → (e ≡ 1 → ⊥) → 0 ≡ comma_of e x
  comma_deeper h n = rw (h, ne_eqb e 1 n)

pub closed_stays : (e x : ℕ) → e ≡ 0 → 0 ≡ opened e x
unfolding opened
closed_stays e x h = rw h

pub one_opens : (e x : ℕ) → (e ≡ 0 → ⊥) → x ≡ 40 → e + 1 ≡ opened e x
unfolding opened
one_opens zero x n h = absurd (n refl)
one_opens (suc e) x n h = rw h (omega arith)

pub one_closes : (e x : ℕ) → (e ≡ 0 → ⊥) → x ≡ 41 → e - 1 ≡ opened e x
unfolding opened
one_closes zero x n h = absurd (n refl)
one_closes (suc e) x n h = rw h (omega arith)

pub none_opens : (e x : ℕ) → (e ≡ 0 → ⊥) → (x ≡ 40 → ⊥) → (x ≡ 41 → ⊥) → e ≡ opened e x
unfolding opened
none_opens zero x n h g = absurd (n refl)
none_opens (suc e) x n h g = rw (ne_eqb x 40 h, ne_eqb x 41 g)

stays : (e x : ℕ) → within 40 44 x ≡ false → e ≡ opened e x
stays zero x f = closed_stays 0 x refl
stays (suc e) x f = none_opens (suc e) x (λ q. omega arith) (no_mark x f 40 (omega arith) (omega arith)) (no_mark x f 41 (omega arith) (omega arith))

no_commas : (t : List ℕ) → commas 0 t ≡ 0
unfolding commas opened
no_commas [] = refl
no_commas (x ∷ t) = go (eqb x 44) (no_commas t)
  where
    go : (b : Bool) → commas 0 t ≡ 0 → cond (b && false) 1 0 + commas 0 t ≡ 0
    go true h = rw h
    go false h = rw h

pub record Counted (t : List ℕ) (at e n i : ℕ) : Type 0 where
  pub is : n + commas e (drop i t) ≡ commas 1 (drop at t)
  pub few : n ≤ i
  pub depth : e ≤ i + 1
  pub inside : i ≤ length t

pub count_begins : (t : List ℕ) (at : ℕ) → at ≤ length t → Counted t at 1 0 at
count_begins t at h = record { is = omega arith; few = omega arith; depth = omega arith; inside = h }

module _ (t : List ℕ) (at e n i : ℕ) (a : Counted t at e n i) where
  pub count_out : length t ≤ i → n ≡ commas 1 (drop at t)
  unfolding commas
  count_out h = let z = rw (beyond t i h) at a.is in omega arith

  -- any other byte changes nothing
  pub count_past : {r : Bool} → i < length t → r ≡ not (within 40 44 (get_or t i 0)) → r ≡ true → Counted t at e n (i + 1)
  unfolding commas
  count_past {r} h q f = record {
    is =
        let x = get_or t i 0 in
        let m : within 40 44 x ≡ false = not-true (within 40 44 x) (sym q ∙ f) in
        let z = rw (here t i h, sym (comma_other e x (no_mark x m 44 (omega arith) (omega arith))), ← stays e x m) at a.is in omega arith;
    few = omega (arith, a.few);
    depth = omega (arith, a.depth);
    inside = omega arith;
  }

  pub count_on : {c o : ℕ} → i < length t → (c ≡ comma_of e (get_or t i 0)) × (c ≤ 1) → (o ≡ opened e (get_or t i 0)) × (o ≤ e + 1) → Counted t at o (n + c) (i + 1)
  unfolding commas
  count_on {c} {o} h (p, p₁) (q, q₁) = record {
    is = let z = rw (here t i h, ← p, ← q) at a.is in omega arith;
    few = omega (arith, a.few);
    depth = omega (arith, a.depth);
    inside = omega arith;
  }

  -- the last parenthesis is closed
  pub count_ends : {c o : ℕ} → i < length t → (c ≡ comma_of e (get_or t i 0)) × (c ≤ 1) → (o ≡ opened e (get_or t i 0)) × (o ≤ e + 1) → o ≡ 0 → n + c ≡ commas 1 (drop at t)
  unfolding commas
  count_ends {c} {o} h (p, p₁) (q, q₁) f = let z = rw (here t i h, ← p, ← q, f, no_commas (drop (i + 1) t)) at a.is in omega arith

pub ruleset leaves = (skip_to, starts_at, starts_none, ends_mark, ends_bracket, ends_none, run_begins, word_ends, run_out, word_on, first_is, first_none, number_out, number_value, number_bad, unhex_below, unhex_digit, unhex_between, unhex_upper, unhex_gap, unhex_lower, unhex_above, two_digits, escape_bare, escape_cut, escape_whole)

pub ruleset strings = (unescaped_begins, counted_out, counted_cut, counted_on, leads_begin, unescaped_out, unescaped_cut, unescaped_on, unhexed_out, unhexed_on)

pub ruleset leading = (minus_starts, low_starts, digit_starts, high_starts)

pub ruleset counting = (key_long, key_begins, key_room_left, key_on, key_sum, key_is, comma_other, comma_first, comma_deeper, closed_stays, one_opens, one_closes, none_opens, count_begins, count_out, count_past, count_on, count_ends)
