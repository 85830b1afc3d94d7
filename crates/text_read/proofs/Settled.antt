-- What the candidate's bytes come to, as many as there is room for: the text's own answer. Too many bytes are no ARI, whole or cut; and a text of which
-- more was put than the text that was read has is another one, whole or cut.
use Prim.Native.Nat.{ℕ, ◌+◌, ◌-◌, ◌≤◌, ◌<◌}
use Prim.Native.Char.{code}
use mathlib.Core.Path.{◌≡◌, refl, sym, ◌∙◌, ap}
use mathlib.Core.Bool.{Bool, true, false, cond}
use mathlib.Core.List.{List}
use native.Mathlib.Omega.{arith}
use lib.ListN.{length, take, drop, length-take}
use lib.Seq.{take_all}
use lib.Dec.{leb}
use borrow.Author.Tests.{lt-ltb, le-ltb, leb-true, leb-false}
use Rattle.ari.specs.declared.Limits.{Limits}
use Rattle.ari.specs.Reader.{read}
use Rattle.ari.specs.Items.{encode}
use Rattle.text.specs.Text.{an_ari_due}
use Rattle.text.specs.Parse.{starts, parse, level, candidate}
use Rattle.text.specs.Answer.{Output, refused, output, write_text, checked, read_text, lent, cut}
use Rattle.buffer.specs.Bytes.{same, part}
use Rattle.buffer.proofs.ByteLaws.{same_length}
use Rattle.buffer.specs.Put.{Put}
use Rattle.buffer.proofs.Putting.{put_size}
use Rattle.text_write.specs.declared.Written.{Written}
use Rattle.std.specs.Prelude.{Result, Ok, Err}
use Rattle.ari.specs.declared.Refusal.{Refusal}
use Rattle.ari.specs.Refusals as refusals
use Rattle.text_write.specs.Written.{written_of, room_after}
use Rattle.text_write.proofs.Handing.{IsRefused, Front, front_of, not_put, front_taken}
use Rattle.text_read.specs.declared.Pos.{Pos}
use Rattle.text_read.specs.Parsed.{Parsed, Begins}

-- the walk over the whole text
candidate_is : (m : Limits) (t : List ℕ) → candidate m t ≡ (level (parse m.items m.containers) m.items an_ari_due (cond (starts (code ".") t) t (drop 4 t))).items
unfolding candidate parse
candidate_is m t = refl

pub whole_candidate : (m : Limits) (t : List ℕ) {p : ℕ} {room room' : List ℕ} {w : Pos} → Begins t p
    → Parsed t (level (parse m.items m.containers) m.items an_ari_due (drop p t)) 0 room room' w → Put room room' 0 w.end (encode (candidate m t))
whole_candidate m t b x = rw (candidate_is m t, ← b.is) x.put

pub ruleset settling = (whole_candidate)

-- the bytes of the text that was read, and those of another one
module _ (b : List ℕ) (n : ℕ) (room : List ℕ) {y : Bool} where
  pub text_given : {a : Result Written Refusal} → y ≡ true → a ≡ written_of (lent (length room) (output b n)) → a ≡ written_of (lent (length room) (cond y (output b n) (refused 15 0)))
  text_given e o = rw e o

  pub text_filled : {room' : List ℕ} → y ≡ true → room' ≡ room_after room (lent (length room) (output b n))
      → room' ≡ room_after room (lent (length room) (cond y (output b n) (refused 15 0)))
  text_filled e o = rw e o

-- Bytes whose text went into a scratch with room for more than t.
module _ (m : Limits) (t b scratch : List ℕ) {w : Result Written Refusal} (e : w ≡ written_of (cut (length scratch) (write_text m b))) where
  module _ {r : Refusal} (q : w ≡ Err r) where
    pub none_confirmed : (k : ℕ) → refusals.refused 15 0 ≡ written_of (lent k (checked t b (write_text m b)))
    none_confirmed k = rw (not_put m b scratch e q).is

    pub none_kept : (room : List ℕ) (k : ℕ) → room ≡ room_after room (lent k (checked t b (write_text m b)))
    none_kept room k = rw (not_put m b scratch e q).is

  module _ (h : length t < length scratch) {x : Written} (q : w ≡ Ok x) {scratch' : List ℕ} (f : scratch' ≡ room_after scratch (cut (length scratch) (write_text m b)))
      {y : Bool} (d : y ≡ same (take (x.length - 0) scratch') t) where
    abbrev put : Front m b (length scratch) x.length x.count scratch'
    put = front_of m b scratch e q f

    same_front : (u : List ℕ) (z : Bool) → leb (length u) (length scratch) ≡ z → same (take (length scratch) u) t ≡ same u t
    same_front u true z = rw (take_all (length scratch) u (leb-true (length u) (length scratch) z))
    same_front u false z =
        let over : length scratch < length u = leb-false (length u) (length scratch) z in
        same_length (take (length scratch) u) t (λ z. omega (arith, z, length-take (length scratch) u)) ∙ sym (same_length u t (λ z. omega (arith, z)))

    judged : checked t b (write_text m b) ≡ cond y (output b x.count) (refused 15 0)
    judged = rw (put.is, ← same_front put.text (leb (length put.text) (length scratch)) refl, ← put.front_is, ← d)

    pub text_confirmed : (k : ℕ) {a : Result Written Refusal} → a ≡ written_of (lent k (cond y (output b x.count) (refused 15 0))) → a ≡ written_of (lent k (checked t b (write_text m b)))
    text_confirmed k o = rw judged o

    pub confirmed_filled : (room : List ℕ) (k : ℕ) {room' : List ℕ} → room' ≡ room_after room (lent k (cond y (output b x.count) (refused 15 0)))
        → room' ≡ room_after room (lent k (checked t b (write_text m b)))
    confirmed_filled room k o = rw judged o

module _ (m : Limits) (t : List ℕ) where
  abbrev tried : List ℕ
  tried = encode (candidate m t)

  -- too many bytes are no ARI
  overlong : (b : List ℕ) → m.bytes < length b → checked t b (write_text m b) ≡ refused 15 0
  unfolding write_text read
  overlong b l = rw (lt-ltb m.bytes (length b) l)

  short_is : length t ≤ m.text → read_text m t ≡ checked t tried (write_text m tried)
  unfolding read_text
  short_is h = rw (le-ltb m.text (length t) h)

  module _ (h : length t ≤ m.text) {room room' : List ℕ} {r : ℕ} (p : Put room room' 0 r tried) where
    abbrev given : List ℕ
    given = take (r - 0) room'

    whole_settled : length tried ≤ length room → checked t given (write_text m given) ≡ read_text m t
    whole_settled l = rw (front_taken p, take_all (length room) tried l) (sym (short_is h))

    settled : m.bytes < length room → checked t given (write_text m given) ≡ read_text m t
    settled k = go (leb (length tried) (length room)) refl
      where
        go : (x : Bool) → leb (length tried) (length room) ≡ x → checked t given (write_text m given) ≡ read_text m t
        go true e = whole_settled (leb-true (length tried) (length room) e)
        go false e =
            let over : length room < length tried = leb-false (length tried) (length room) e in
            overlong given (rw (front_taken p) (omega (arith, length-take (length room) tried)))
            ∙ sym (short_is h ∙ overlong tried (omega arith))

    module _ (k : m.bytes < length room) where
      pub read_answers : (i : ℕ) {a : Result Written Refusal} → a ≡ written_of (lent i (checked t given (write_text m given))) → a ≡ written_of (lent i (read_text m t))
      read_answers i o = rw (← settled k) o

      pub read_fills : (z : List ℕ) (i : ℕ) {z' : List ℕ} → z' ≡ room_after z (lent i (checked t given (write_text m given))) → z' ≡ room_after z (lent i (read_text m t))
      read_fills z i o = rw (← settled k) o

    -- a candidate that leaves room is whole
    module _ (k : r < length room') where
      left_room : length tried ≤ length room
      left_room = omega (arith, p.place, k, put_size p)

      pub short_answers : (i : ℕ) {a : Result Written Refusal} → a ≡ written_of (lent i (checked t given (write_text m given))) → a ≡ written_of (lent i (read_text m t))
      short_answers i o = rw (← whole_settled left_room) o

      pub short_fills : (z : List ℕ) (i : ℕ) {z' : List ℕ} → z' ≡ room_after z (lent i (checked t given (write_text m given))) → z' ≡ room_after z (lent i (read_text m t))
      short_fills z i o = rw (← whole_settled left_room) o

-- a text that is too long, and its front
module _ (m : Limits) (t : List ℕ) where
  long_is : m.text < length t → read_text m t ≡ refused 1 0
  unfolding read_text
  long_is h = rw (lt-ltb m.text (length t) h)

  module _ (h : m.text < length t) where
    pub long_refused : (k : ℕ) → refusals.refused 1 0 ≡ written_of (lent k (read_text m t))
    long_refused k = rw (long_is h)

    pub long_kept : (room : List ℕ) (k : ℕ) → room ≡ room_after room (lent k (read_text m t))
    long_kept room k = rw (long_is h)

module _ (m : Limits) (t : List ℕ) {n : ℕ} (e : n ≡ m.text + 1) (h : n < length t) where
  alike : read_text m (part t 0 n) ≡ read_text m t
  alike = long_is m (part t 0 n) (omega (arith, length-take (n - 0) t)) ∙ sym (long_is m t (omega arith))

  pub front_answers : (k : ℕ) {a : Result Written Refusal} → a ≡ written_of (lent k (read_text m (part t 0 n))) → a ≡ written_of (lent k (read_text m t))
  front_answers k q = q ∙ ap (λ (o : Output). written_of (lent k o)) alike

  pub front_fills : (k : ℕ) (z : List ℕ) {z' : List ℕ} → z' ≡ room_after z (lent k (read_text m (part t 0 n))) → z' ≡ room_after z (lent k (read_text m t))
  front_fills k z q = q ∙ ap (λ (o : Output). room_after z (lent k o)) alike

  pub front_shorter : length (part t 0 n) < length t
  front_shorter = omega (arith, length-take (n - 0) t)
