-- The text that was put is the one that the definition gives, as much of it as the room holds; a room that holds any text has it whole.
use Prim.Native.Nat.{ℕ, ◌+◌, ◌-◌, ◌≤◌, ◌<◌}
use mathlib.Core.Path.{◌≡◌, refl, sym, ◌∙◌, ap}
use mathlib.Core.Bool.{Bool, true, false}
use mathlib.Core.List.{List, [], ◌++◌}
use native.Mathlib.Omega.{arith}
use lib.ListN.{length, take, drop, get_or, length-append, length-take, take-append-drop, drop_of_length-le}
use lib.Seq.{sets, sets-eq, length-sets, take_all, take-append_seam}
use lib.Dec.{leb}
use mir.Syntax.{w8}
use mir.Val.{Fits}
use borrow.Author.Tests.{lt-ltb, le-ltb, leb-true, leb-false}
use Rattle.ari.specs.Table.{rule}
use Rattle.ari.specs.declared.Limits.{Limits}
use Rattle.ari.specs.declared.Input.TheVariants.{Single}
use Rattle.ari.specs.Reader.{end, push, read}
use Rattle.ari.specs.Items.{Items}
use Rattle.ari.specs.Decode.{decode}
use Rattle.ari.specs.Rules.{Stands, single_ari}
use Rattle.ari.specs.Due.{Due}
use Rattle.ari.proofs.Due.{Fit, unsplit}
use Rattle.ari.proofs.RulesFit.{here_ari}
use Rattle.buffer.specs.Bytes.{part}
use Rattle.buffer.proofs.ByteLaws.{all_bytes}
use Rattle.text.specs.Text.{an_ari_due, is_relative, is_set, text_of}
use Rattle.std.specs.Prelude.{Result, Ok, Err}
use Rattle.ari.specs.declared.Refusal.{Refusal}
use Rattle.ari.specs.Refusals as refusals
use Rattle.text.specs.Answer.{Spelled, Output, refused, output, write_text, lent, cut, longest}
use Rattle.text.proofs.Outer.{inward, texted}
use Rattle.text.proofs.Round.{write_exactly, text_short}
use Rattle.buffer.specs.Put.{Put}
use Rattle.buffer.proofs.Putting.{sets_append, put_out, put_end}
use Rattle.text_write.specs.declared.Spelling.{Spelling}
use Rattle.text_write.specs.declared.Written.{Written}
use Rattle.text_write.specs.Written.{bytes_of, written_of, room_after, spelling_by, spelling_of, WritesWhole}

-- What was put from the front on, as much of it as the room holds.
module _ {room room' : List ℕ} {r : ℕ} {u : List ℕ} (p : Put room room' 0 r u) where
  abbrev front : List ℕ
  front = take (length room) u

  pub front_end : r ≡ length front
  front_end = omega (arith, p.place, length-take (length room) u)

  pub front_room : room' ≡ front ++ drop (length front) room
  front_room =
      let z : 0 + length front ≡ length front = omega arith in
      let whole : sets room 0 front ≡ front ++ drop (length front) room = sets-eq front room 0 (omega (arith, length-take (length room) u)) ∙ rw z in
      p.bytes ∙ ap (sets room 0) (sym (take-append-drop (length room) u)) ∙ sets_append room 0 front behind ∙ rest (leb (length room) (length u)) refl ∙ whole
    where
      behind : List ℕ
      behind = drop (length room) u

      rest : (t : Bool) → leb (length room) (length u) ≡ t → sets (sets room 0 front) (0 + length front) behind ≡ sets room 0 front
      rest true e = sym (put_out (sets room 0 front) (0 + length front) behind (omega (arith, leb-true (length room) (length u) e, length-take (length room) u, length-sets room 0 front))).bytes
      rest false e =
          let none : behind ≡ [] = drop_of_length-le u {i = length room} (omega (arith, leb-false (length room) (length u) e)) in
          rw none

  pub front_in : r ≤ length room'
  front_in = omega (arith, front_end, ap length front_room, length-append front (drop (length front) room))

  pub front_taken : take (r - 0) room' ≡ front
  front_taken =
      let z : r - 0 ≡ length front = omega (arith, front_end) in
      rw (z, front_room) (take-append_seam front (drop (length front) room))

-- an ARI with a text form may stand inside another
inside_fit : {g : Items} → Stands Single g → is_set g ≡ false → Fit g false an_ari_due []
unfolding rule
inside_fit (single_ari a) n = let h = here_ari [] (inward a n) in (h.good, h.holds, tt)

record Text-of (m : Limits) (b : List ℕ) (x : Bool) (n : ℕ) : Type 0 where
  text : List ℕ
  is_written : write_text m b ≡ output text n
  relative_is : x ≡ is_relative (decode b)

-- an answer that is this refusal
pub record IsRefused (o : Output) (e : Refusal) : Type 0 where
  pub number : ℕ
  pub place : ℕ
  pub is : o ≡ refused number place
  pub refusal_is : e ≡ refusals.refusal_of number place

module _ (m : Limits) (b : List ℕ) {f : Result Spelling Refusal} (e : f ≡ spelling_of m b) where
  refused_output : (o : Output) {r : Refusal} (x : Bool) → spelling_by x o ≡ Err r → IsRefused o r
  refused_output (refused k p) x q = record { number = k; place = p; is = refl; refusal_is = cc }
  refused_output (output u n) x q = absurd (let z : ◌≡◌ {A = ℕ} 0 1 = cc in omega arith)

  module _ {r : Refusal} (q : f ≡ Err r) where
    writes_none : IsRefused (write_text m b) r
    unfolding spelling_of
    writes_none = refused_output (write_text m b) (is_relative (decode b)) (sym e ∙ q)

    pub none_put : (k : ℕ) → Err r ≡ written_of (cut k (write_text m b))
    none_put k = ap Err writes_none.refusal_is ∙ ap (λ (o : Output). written_of (cut k o)) (sym writes_none.is)

    pub none_kept : (room : List ℕ) (k : ℕ) → room ≡ room_after room (cut k (write_text m b))
    none_kept room k = rw writes_none.is

  module _ (bytes : (j : ℕ) → Fits w8 (get_or b j 0)) {v : Spelling} (q : f ≡ Ok v) where
    abbrev x : Bool
    x = v.relative

    abbrev n : ℕ
    n = v.count

    output_has : (o : Output) (y : Bool) → write_text m b ≡ o → y ≡ is_relative (decode b) → spelling_by y o ≡ Ok v → Text-of m b x n
    output_has (refused r p) y w k c = absurd (let z : ◌≡◌ {A = ℕ} 0 1 = cc in omega arith)
    output_has (output u i) y w k c =
        let c : record { relative = y; count = i } ≡ v = cc in
        let z : i ≡ n = ap (λ (s : Spelling). s.count) c in
        let d : y ≡ x = ap (λ (s : Spelling). s.relative) c in
        record { text = u; is_written = w ∙ rw z; relative_is = sym d ∙ k }

    the_text : Text-of m b x n
    unfolding spelling_of
    the_text = output_has (write_text m b) (is_relative (decode b)) refl refl (sym e ∙ q)

    abbrev t : List ℕ
    t = the_text.text

    facts : Spelled m t b n
    facts = (write_exactly m (all_bytes b bytes)).0 the_text.is_written

    stands_inside : Due (decode b) (push an_ari_due [] m.containers end)
    stands_inside =
        unsplit (decode b) false an_ari_due [] m.containers (inside_fit facts.is.stands (texted (decode b) facts.has_text).0) facts.is.shallow

    module _ {r : ℕ} {room room' : List ℕ} (w : WritesWhole b m.containers x r room room') where
      put_it : Put room room' 0 r t
      unfolding text_of
      put_it = rw facts.the_text at (rw the_text.relative_is at (w.text_of_lem (decode b) stands_inside facts.is.bytes))

      pub text_put : bytes_of r n ≡ written_of (cut (length room) (write_text m b))
      text_put = rw the_text.is_written (ap (λ (i : ℕ). bytes_of i n) (front_end put_it))

      pub text_stands : room' ≡ room_after room (cut (length room) (write_text m b))
      text_stands = rw the_text.is_written (front_room put_it)

-- room for bytes
module _ (b : List ℕ) (count : ℕ) (room : List ℕ) where
  pub no_room : length room < length b → refusals.refused 16 (length b) ≡ written_of (lent (length room) (output b count))
  no_room g = rw (lt-ltb (length room) (length b) g)

  pub no_room_kept : length room < length b → room ≡ room_after room (lent (length room) (output b count))
  no_room_kept g = rw (lt-ltb (length room) (length b) g)

  module _ (g : length b ≤ length room) {r : ℕ} {room' : List ℕ} (p : Put room room' 0 r b) where
    pub room_enough : bytes_of r count ≡ written_of (lent (length room) (output b count))
    room_enough = rw (le-ltb (length room) (length b) g) (ap (λ (x : ℕ). bytes_of x count) (omega (arith, put_end p (omega arith))))

    pub room_filled : room' ≡ room_after room (lent (length room) (output b count))
    room_filled =
        let z : 0 + length b ≡ length b = omega arith in
        let y : room' ≡ b ++ drop (length b) room = p.bytes ∙ sets-eq b room 0 (omega arith) ∙ rw z in
        rw (le-ltb (length room) (length b) g) y

pub ruleset handing = (no_room, no_room_kept, room_enough, room_filled)

-- An answer of so few bytes is neither cut nor refused for want of room.
abbrev Short : ℕ → Output → Type 0
Short k (refused r p) = Unit {0}
Short k (output u n) = length u ≤ k

cut_short : (k : ℕ) (o : Output) → Short k o → cut k o ≡ o
cut_short k (refused r p) h = refl
cut_short k (output u n) h = rw (take_all k u h)

lent_short : (k : ℕ) (o : Output) → Short k o → lent k o ≡ o
lent_short k (refused r p) h = refl
lent_short k (output u n) h = rw (le-ltb k (length u) h)

-- A text of which as much was put as the room holds.
pub record Front (m : Limits) (b : List ℕ) (k l n : ℕ) (room' : List ℕ) : Type 0 where
  pub text : List ℕ
  pub is : write_text m b ≡ output text n
  pub inside : l ≤ length room'
  pub front_is : take (l - 0) room' ≡ take k text

module _ (m : Limits) (b : List ℕ) (scratch : List ℕ) {w : Result Written Refusal} (e : w ≡ written_of (cut (length scratch) (write_text m b))) where
  refused_is : (o : Output) → {r : Refusal} → written_of (cut (length scratch) o) ≡ Err r → IsRefused o r
  refused_is (refused k p) q = record { number = k; place = p; is = refl; refusal_is = cc }
  refused_is (output u n) q = absurd (let z : ◌≡◌ {A = ℕ} 0 1 = cc in omega arith)

  module _ {r : Refusal} (q : w ≡ Err r) where
    pub not_put : IsRefused (write_text m b) r
    not_put = refused_is (write_text m b) (sym e ∙ q)

    pub answers_none : (k : ℕ) → Err r ≡ written_of (lent k (write_text m b))
    answers_none k = ap Err not_put.refusal_is ∙ ap (λ (o : Output). written_of (lent k o)) (sym not_put.is)

    pub keeps_room : (room : List ℕ) (k : ℕ) → room ≡ room_after room (lent k (write_text m b))
    keeps_room room k = rw not_put.is

  module _ {x : Written} (q : w ≡ Ok x) {scratch' : List ℕ} (f : scratch' ≡ room_after scratch (cut (length scratch) (write_text m b))) where
    front_by : (o : Output) → write_text m b ≡ o → written_of (cut (length scratch) o) ≡ Ok x → scratch' ≡ room_after scratch (cut (length scratch) o)
        → Front m b (length scratch) x.length x.count scratch'
    front_by (refused r p) i c g = absurd (let z : ◌≡◌ {A = ℕ} 0 1 = cc in omega arith)
    front_by (output u k) i c g =
        let v : List ℕ = take (length scratch) u in
        let d : record { length = length v; count = k } ≡ x = cc in
        let z : k ≡ x.count = ap (λ (s : Written). s.count) d in
        let y : length v ≡ x.length = ap (λ (s : Written). s.length) d in
        let j : x.length - 0 ≡ length v = omega arith in
        record {
          text = u;
          is = i ∙ rw z;
          inside = omega (arith, ap length g, length-append v (drop (length v) scratch));
          front_is = rw (j, g) (take-append_seam v (drop (length v) scratch));
        }

    pub front_of : Front m b (length scratch) x.length x.count scratch'
    front_of = front_by (write_text m b) refl (sym e ∙ q) f

    pub in_scratch : x.length ≤ length scratch'
    in_scratch = front_of.inside

-- A room that holds any text.
module _ (m : Limits) (b : List ℕ) (bytes : (j : ℕ) → Fits w8 (get_or b j 0)) {k : ℕ} (h : longest m (length b) ≤ k) where
  short : Short k (write_text m b)
  short = go (write_text m b) refl
    where
      go : (o : Output) → write_text m b ≡ o → Short k o
      go (refused r p) e = tt
      go (output u n) e = omega (arith, text_short m u b n (all_bytes b bytes) e)

  same_answer : cut k (write_text m b) ≡ lent k (write_text m b)
  same_answer = cut_short k (write_text m b) short ∙ sym (lent_short k (write_text m b) short)

  module _ {l n : ℕ} {scratch' : List ℕ} (c : Front m b k l n scratch') where
    handed_is : output (take (l - 0) scratch') n ≡ write_text m b
    handed_is = rw (c.front_is, take_all k c.text (rw c.is at short)) (sym c.is)

    pub answers_text : (i : ℕ) {a : Result Written Refusal} → a ≡ written_of (lent i (output (take (l - 0) scratch') n)) → a ≡ written_of (lent i (write_text m b))
    answers_text i e = e ∙ ap (λ (o : Output). written_of (lent i o)) handed_is

    pub fills_room : (i : ℕ) (z : List ℕ) {z' : List ℕ} → z' ≡ room_after z (lent i (output (take (l - 0) scratch') n)) → z' ≡ room_after z (lent i (write_text m b))
    fills_room i z e = e ∙ ap (λ (o : Output). room_after z (lent i o)) handed_is

-- It is written at once.
module _ (m : Limits) (b : List ℕ) (bytes : (j : ℕ) → Fits w8 (get_or b j 0)) {need k : ℕ} (e : need ≡ longest m (length b)) (h : need ≤ k) where
  uncut : cut k (write_text m b) ≡ lent k (write_text m b)
  uncut = same_answer m b bytes (rw e at h)

  pub at_once : {a : Result Written Refusal} → a ≡ written_of (cut k (write_text m b)) → a ≡ written_of (lent k (write_text m b))
  at_once q = q ∙ ap written_of uncut

  pub at_once_filled : (z : List ℕ) {z' : List ℕ} → z' ≡ room_after z (cut k (write_text m b)) → z' ≡ room_after z (lent k (write_text m b))
  at_once_filled z q = q ∙ ap (room_after z) uncut

-- What is too long is refused as its front is.
module _ (m : Limits) (b : List ℕ) {n : ℕ} (e : n ≡ m.bytes + 1) (h : n < length b) where
  too_long : (c : List ℕ) → m.bytes < length c → write_text m c ≡ refused 1 0
  unfolding write_text read
  too_long c l = rw (lt-ltb m.bytes (length c) l)

  alike : write_text m (part b 0 n) ≡ write_text m b
  alike = too_long (part b 0 n) (omega (arith, length-take (n - 0) b)) ∙ sym (too_long b (omega arith))

  pub front_answers : (k : ℕ) {a : Result Written Refusal} → a ≡ written_of (lent k (write_text m (part b 0 n))) → a ≡ written_of (lent k (write_text m b))
  front_answers k q = q ∙ ap (λ (o : Output). written_of (lent k o)) alike

  pub front_fills : (k : ℕ) (z : List ℕ) {z' : List ℕ} → z' ≡ room_after z (lent k (write_text m (part b 0 n))) → z' ≡ room_after z (lent k (write_text m b))
  front_fills k z q = q ∙ ap (λ (o : Output). room_after z (lent k o)) alike

  pub front_shorter : length (part b 0 n) < length b
  front_shorter = omega (arith, length-take (n - 0) b)
