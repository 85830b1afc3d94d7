-- A text taken: what `text_read` hands over is the ARI of the text; a room that is too short for it is told by 16, by which no text is refused.
use Prim.Native.Nat.{ℕ, ◌+◌, ◌-◌, ◌<◌, ◌≤◌}
use mathlib.Core.Logic.{◌⊎◌, inl, inr}
use mathlib.Core.Path.{◌≡◌, refl, sym, ◌∙◌, ap}
use mathlib.Core.Bool.{Bool, true, false, cond}
use mathlib.Core.List.{List, [], ◌++◌, append-nil, append_assoc}
use native.Mathlib.Omega.{arith}
use lib.ListN.{length, get_or, take, drop, length-append, length-take, length-drop, drop_of_length-le}
use lib.Seq.{sets, sets-eq, drop-drop, take_all}
use lib.Dec.{ltb}
use borrow.Author.Tests.{ltb-true, ltb-false}
use mir.Syntax.{w8}
use mir.Val.{Fits}
use Rattle.buffer.proofs.ByteLaws.{all_bytes}
use Rattle.cbor.specs.Head.{Lead, lead_bytes}
use Rattle.cbor.specs.Answer.{head_at}
use Rattle.cbor.proofs.HeadLaws.{get_head_back}
use Rattle.ari.specs.Table.{max64}
use Rattle.ari.specs.declared.Limits.{Limits}
use Rattle.ari.specs.declared.Input.TheVariants.{Single}
use Rattle.ari.specs.Limits.{capped}
use Rattle.ari.specs.Items.{Items, none, item, encode, heads}
use Rattle.ari.specs.Rules.{Stands, single_ari}
use Rattle.ari.specs.Decode.{decode}
use Rattle.text.specs.Answer.{Output, refused, output, read_text, lent, Spelled}
use Rattle.text.proofs.Round.{read_exactly, read_too_long, read_refusals}
use Rattle.std.specs.Prelude.{Result, Ok, Err}
use Rattle.ari.specs.declared.Fault.{Fault}
use Rattle.ari.specs.declared.Fault.TheVariants.{NoRoom}
use Rattle.ari.specs.declared.Refusal.{Refusal}
use Rattle.ari.specs.Refusals.{fault_of, refusal_of}
use Rattle.ari.specs.Refusals as refusals
use Rattle.text_write.specs.declared.Written.{Written}
use Rattle.text_write.specs.Written.{bytes_of, written_of, room_after}
use Rattle.composer.specs.Compose.{nothing, reference, is_object, reference_in, reference_by, reference_of}
use Rattle.composer.specs.Code.{is_object_at, TakesText, PutsText}
use Rattle.composer.specs.declared.Target.{Target}
use Rattle.composer.specs.declared.TextError.{TextError}
use Rattle.composer.specs.declared.TextError.TheVariants.{Other, TooLong}
use Rattle.composer.proofs.Reading.{sound_single}

-- no text is refused for want of room
never_full : (m : Limits) (t : List ℕ) {r p : ℕ} → read_text m t ≡ refused r p → fault_of r ≡ NoRoom → ⊥
never_full m t {r} e f = go (read_refusals m t e)
  where
    go : (r ≡ 1) ⊎ (r ≡ 15) → ⊥
    go (inl q) = let y = rw q at f in let z : ◌≡◌ {A = ℕ} 0 1 = cc in omega arith
    go (inr q) = let y = rw q at f in let z : ◌≡◌ {A = ℕ} 0 1 = cc in omega arith

-- the three ways of reading a text into a room
data Ways (m : Limits) (t room : List ℕ) (w : Result Written Refusal) (room' : List ℕ) : Type 0 where
  was_refused : (r p : ℕ) → read_text m t ≡ refused r p → w ≡ refusals.refused r p → room' ≡ room → Ways m t room w room'
  was_long : (b : List ℕ) (n : ℕ) → read_text m t ≡ output b n → length room < length b → w ≡ refusals.refused 16 (length b) → room' ≡ room → Ways m t room w room'
  was_read : (b : List ℕ) (n : ℕ) → read_text m t ≡ output b n → length b ≤ length room → w ≡ bytes_of (length b) n → room' ≡ b ++ drop (length b) room
      → Ways m t room w room'

same_refusal : {w : Result Written Refusal} {e e' : Refusal} → w ≡ Err e → w ≡ Err e' → e ≡ e'
same_refusal p q = cc

same_bytes : {w : Result Written Refusal} {x : Written} {l n : ℕ} → w ≡ Ok x → w ≡ bytes_of l n → (l ≡ x.length) × (n ≡ x.count)
same_bytes {w} {x} {l} {n} p q =
    let d : ◌≡◌ {A = Written} (record { length = l; count = n }) x = cc in
    (ap (λ (v : Written). v.length) d, ap (λ (v : Written). v.count) d)

-- an ARI at the front of a room
record Fronts (g : Items) (room : List ℕ) : Type 0 where
  lead : Lead
  str : List ℕ
  inside : Items
  one : g ≡ item lead str inside none
  object_is : is_object_at room ≡ is_object lead

fronts : {b : List ℕ} (r : List ℕ) {g : Items} → encode g ≡ b → Stands Single g → Fronts g (b ++ r)
unfolding is_object_at head_at
fronts {b} r e (single_ari {l = l} {s = s} {ms = ms} a) =
    let whole : b ++ r ≡ lead_bytes l ++ (s ++ ((encode ms ++ []) ++ r)) = rw (← e) (simp append_assoc) in
    record {
      lead = l;
      str = s;
      inside = ms;
      one = refl;
      object_is = rw (whole, get_head_back (s ++ ((encode ms ++ []) ++ r)) (sound_single (single_ari a)));
    }

one_target : {g : Items} {room : List ℕ} (a : Fronts g room) → is_object a.lead ≡ true → reference_in g ≡ reference a.lead a.str a.inside
one_target a e = ap reference_in a.one ∙ rw e

one_other : {g : Items} {room : List ℕ} (a : Fronts g room) → is_object a.lead ≡ false → reference_in g ≡ nothing
one_other a e = ap reference_in a.one ∙ rw e

at_the_front : (b room : List ℕ) → length b ≤ length room → sets room 0 b ≡ b ++ drop (length b) room
at_the_front b room h = let z : 0 + length b ≡ length b = omega arith in sets-eq b room 0 (omega arith) ∙ ap (λ (i : ℕ). b ++ drop i room) z

module _ (l : Limits) (t : List ℕ) (bytes : (j : ℕ) → Fits w8 (get_or t j 0)) (room : List ℕ) {w : Result Written Refusal} (e : w ≡ written_of (lent (length room) (read_text (capped l) t)))
    {room' : List ℕ} (f : room' ≡ room_after room (lent (length room) (read_text (capped l) t))) where
  ways : Ways (capped l) t room w room'
  ways = go (read_text (capped l) t) refl e f
    where
      by : (b : List ℕ) (n : ℕ) (x : Bool) → ltb (length room) (length b) ≡ x → read_text (capped l) t ≡ output b n
          → w ≡ written_of (cond x (refused 16 (length b)) (output b n)) → room' ≡ room_after room (cond x (refused 16 (length b)) (output b n))
          → Ways (capped l) t room w room'
      by b n true q i a c = was_long b n i (ltb-true (length room) (length b) q) a c
      by b n false q i a c = was_read b n i (ltb-false (length room) (length b) q) a c

      go : (o : Output) → read_text (capped l) t ≡ o → w ≡ written_of (lent (length room) o) → room' ≡ room_after room (lent (length room) o) → Ways (capped l) t room w room'
      go (refused r p) i a c = was_refused r p i a c
      go (output b n) i a c = by b n (ltb (length room) (length b)) refl i a c

  -- a text that is read is no longer than a text may be
  fit : {b : List ℕ} {n : ℕ} → read_text (capped l) t ≡ output b n → length t < max64
  fit {b} {n} i = go (ltb (capped l).text (length t)) refl
    where
      go : (x : Bool) → ltb (capped l).text (length t) ≡ x → length t < max64
      go true q =
          let z : read_text (capped l) t ≡ refused 1 0 = (read_too_long (capped l) t).1 (ltb-true (capped l).text (length t) q) in
          absurd (let y : ◌≡◌ {A = ℕ} 0 1 = cc in omega arith)
      go false q = omega (arith, ltb-false (capped l).text (length t) q)

  spelled : {b : List ℕ} {n : ℕ} → read_text (capped l) t ≡ output b n → Spelled (capped l) t b n
  spelled {b} {n} i = ((read_exactly (capped l) (all_bytes t bytes) (fit i) b n).0 i).2

  front_of : {b : List ℕ} {n : ℕ} (i : read_text (capped l) t ≡ output b n) → Fronts (decode b) (b ++ drop (length b) room)
  front_of {b} i = let y = spelled i in fronts (drop (length b) room) y.is.bytes y.is.stands

  module _ {v : Refusal} (g : w ≡ Err v) where
    pub ari_too_long : v.fault ≡ NoRoom → TakesText (capped l) t room room' (Err TooLong)
    ari_too_long q = go ways
      where
        go : Ways (capped l) t room w room' → TakesText (capped l) t room room' (Err TooLong)
        go (was_refused r p i a c) =
            let z : v.fault ≡ fault_of r = ap (λ (x : Refusal). x.fault) (same_refusal g a) in
            absurd (never_full (capped l) t i (sym z ∙ q))
        go (was_long b n i h a c) = record { taken = record { ari = b; count = n; is = i; whole = (spelled i).is.bytes; short = (spelled i).is.short; longer = h }; sized = ap length c }
        go (was_read b n i h a c) = absurd (let z : ◌≡◌ {A = ℕ} 0 1 = cc in omega arith)

    pub text_refused : (v.fault ≡ NoRoom → ⊥) → TakesText (capped l) t room room' (Err Other)
    unfolding reference_of
    text_refused q = go ways
      where
        go : Ways (capped l) t room w room' → TakesText (capped l) t room room' (Err Other)
        go (was_refused r p i a c) = record { taken = rw i; sized = ap length c }
        go (was_long b n i h a c) = absurd (q (ap (λ (x : Refusal). x.fault) (same_refusal g a)))
        go (was_read b n i h a c) = absurd (let z : ◌≡◌ {A = ℕ} 0 1 = cc in omega arith)

  module _ {y : Written} (g : w ≡ Ok y) {x : Bool} (o : x ≡ is_object_at room') where
    room_sized : (b : List ℕ) → length b ≤ length room → room' ≡ b ++ drop (length b) room → length room' ≡ length room
    room_sized b h c = omega (arith, ap length c, length-append b (drop (length b) room), length-drop (length b) room)

    -- it was read, and nothing else
    when_read : {P : Type 0} → ((b : List ℕ) (n : ℕ) → read_text (capped l) t ≡ output b n → length b ≤ length room → w ≡ bytes_of (length b) n → room' ≡ b ++ drop (length b) room → P) → P
    when_read {P} f = go ways
      where
        go : Ways (capped l) t room w room' → P
        go (was_refused r p i a c) = absurd (let z : ◌≡◌ {A = ℕ} 0 1 = cc in omega arith)
        go (was_long b n i h a c) = absurd (let z : ◌≡◌ {A = ℕ} 0 1 = cc in omega arith)
        go (was_read b n i h v c) = f b n i h v c

    -- its head is what the room begins with
    head_is : {b : List ℕ} {n : ℕ} (i : read_text (capped l) t ≡ output b n) → room' ≡ b ++ drop (length b) room → {v : Bool} → x ≡ v → is_object (front_of i).lead ≡ v
    head_is i c q = sym (front_of i).object_is ∙ ap is_object_at (sym c) ∙ sym o ∙ q

    pub target_taken : x ≡ true → TakesText (capped l) t room room' (Ok (record { size = y.length; count = y.count }))
    unfolding reference_of
    target_taken q = when_read (λ b n i h v c.
        let u = spelled i in
        let a = front_of i in
        let bs : encode (item a.lead a.str a.inside none) ≡ b = ap encode (sym a.one) ∙ u.is.bytes in
        let (sz, ct) = same_bytes g v in
        record {
          taken = record {
            lead = a.lead;
            str = a.str;
            inside = a.inside;
            is = ap reference_by i ∙ one_target a (head_is i c q);
            size_is = ap length bs ∙ sz;
            count_is = ap heads (sym a.one) ∙ u.is.count ∙ ct;
            fits = omega (arith, h, sz);
            room_is = c ∙ rw bs (sym (at_the_front b room h));
          };
          sized = room_sized b h c;
        })

    pub no_target : x ≡ false → TakesText (capped l) t room room' (Err Other)
    unfolding reference_of
    no_target q = when_read (λ b n i h v c. record { taken = ap reference_by i ∙ one_other (front_of i) (head_is i c q); sized = room_sized b h c })

pub ruleset taking = (ari_too_long, text_refused, target_taken, no_target)

-- the part of a room from a place on, put back
part_back : (room : List ℕ) (at : ℕ) (u : List ℕ) {sub : List ℕ} → at + length u ≤ length room → sub ≡ u ++ drop (length u) (take (length room - at) (drop at room))
    → take at room ++ (sub ++ drop (length room - at) (drop at room)) ≡ sets room at u
part_back room at u {sub} h e =
    let whole : take (length room - at) (drop at room) ≡ drop at room = take_all (length room - at) (drop at room) (omega (arith, length-drop at room)) in
    let gone : drop (length room - at) (drop at room) ≡ [] = drop_of_length-le (drop at room) {i = length room - at} (omega (arith, length-drop at room)) in
    rw (gone, e, whole, append-nil (u ++ drop (length u) (drop at room)), drop-drop (length u) at room)
    (sym (sets-eq u room at h ∙ append_assoc (take at room) u (drop (at + length u) room)))

module _ {m : Limits} {t sub : List ℕ} {r : Result Target TextError} (room : List ℕ) (at : ℕ) (h : at ≤ length room) (x : TakesText m t (take (length room - at) (drop at room)) sub r) where
  part_length : length (take (length room - at) (drop at room)) ≡ length room - at
  part_length = omega (arith, length-take (length room - at) (drop at room), length-drop at room)

  pub text_put : PutsText m t room (take at room ++ (sub ++ drop (length room - at) (drop at room))) at r
  text_put = go r x
    where
      sized_back : length sub ≡ length (take (length room - at) (drop at room))
          → length (take at room ++ (sub ++ drop (length room - at) (drop at room))) ≡ length room
      sized_back e =
          simp length-append (omega (arith, e, part_length, length-take at room, length-drop (length room - at) (drop at room), length-drop at room))

      go : (r : Result Target TextError) → TakesText m t (take (length room - at) (drop at room)) sub r
          → PutsText m t room (take at room ++ (sub ++ drop (length room - at) (drop at room))) at r
      go (Err Other) y = record { taken = y.taken; sized = sized_back y.sized }
      go (Err TooLong) y = record { taken = rw part_length at y.taken; sized = sized_back y.sized }
      go (Ok x) y =
          let z = y.taken in
          let f : at + length (encode (item z.lead z.str z.inside none)) ≤ length room = omega (arith, z.fits, z.size_is, part_length) in
          record {
            taken = record {
              lead = z.lead;
              str = z.str;
              inside = z.inside;
              is = z.is;
              size_is = z.size_is;
              count_is = z.count_is;
              fits = omega (arith, f, z.size_is);
              room_is = part_back room at (encode (item z.lead z.str z.inside none)) f (z.room_is ∙ at_the_front (encode (item z.lead z.str z.inside none)) (take (length room - at) (drop at room)) (omega (arith, z.fits, z.size_is)));
            };
            sized = sized_back y.sized;
          }
