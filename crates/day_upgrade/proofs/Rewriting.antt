-- The new file, part by part, is the file of the old one's messages in version 2; and that it passes, with the same messages.
use Prim.Native.Nat.{ℕ, zero, suc, ◌+◌, ◌-◌, ◌*◌, ◌<◌, ◌≤◌}
use mathlib.Core.Path.{◌≡◌, refl, sym, ◌∙◌, ap}
use mathlib.Core.Logic.{◌⊎◌, inl, inr}
use mathlib.Core.Bool.{true, false, true≢false}
use mathlib.Core.List.Memᴰ
use mathlib.Core.List.{List, [], ◌∷◌, ◌++◌, append-nil, append_assoc, Memᴰ}
use native.Mathlib.Omega.{arith}
use native.Mathlib.Numerals.{add-one}
use lib.ListN.{length, drop, take, get_or}
use lib.Seq.{sets-eq, length-take-le, take-append_seam, drop-append_seam}
use mir.Syntax.{w8, w64}
use mir.Val.{Fits}
use borrow.Author.Tests.{lt-ltb, le-ltb, le-leb}
use Rattle.buffer.specs.Bytes.{be, part, all, is_byte}
use Rattle.buffer.specs.Put.{Put}
use Rattle.buffer.proofs.ByteLaws.{all_bytes, all_take, all_drop}
use Rattle.buffer.proofs.Putting.{put_nothing, put_both}
use Rattle.ari.specs.Limits.{gate_limits, first_limits}
use Rattle.ari.specs.declared.Input.TheVariants.{Message}
use Rattle.ari.specs.Reader.{Answer, accept, refuse, read}
use Rattle.ari.proofs.Larger.{Within, larger_accepts}
use Rattle.std.specs.declared.result.Result.{Result}
use Rattle.std.specs.declared.result.Result.TheVariants.{Ok, Err}
use Rattle.ari.specs.declared.Refusal.{Refusal}
use Rattle.ari.specs.Refusals.{refused}
use Rattle.day_file.specs.declared.Added.{Added}
use Rattle.day_file.specs.Day.{join, offsets, trailer, file_of, count_in, start_in, offset_in, first_at, messages_from, messages_in, is_accepted, check_day}
use Rattle.day_file.specs.Versions.{version1, version2}
use Rattle.day_file.proofs.Files.{Trailer, trailer_says, starts, next_offset, messages_joined}
use Rattle.day_file.proofs.Adding.{Passes, passes_all}
use Rattle.day_file.proofs.Whole.{file_length, file_passes}
use Rattle.day_file.proofs.Days.{Holds, held, counted, its_messages}
use Rattle.day_upgrade.specs.Upgrade.{upgraded, upgraded_by, upgrade_day}
use Rattle.day_upgrade.specs.Code.{wide_offsets, rewritten}

-- offset by offset
module _ (b : List ℕ) where
  pub no_offsets : (o : List ℕ) (at : ℕ) → Put o o at at (wide_offsets b 0)
  no_offsets o at = put_nothing o at

  pub an_offset : (k : ℕ) {o o₁ o₂ : List ℕ} {at p q : ℕ} → Put o o₁ at p (wide_offsets b k) → {x : ℕ} → x ≡ first_at version1 b k → Put o₁ o₂ p q (be 4 x)
      → Put o o₂ at q (wide_offsets b (k + 1))
  an_offset k p {x} e q = rw (add-one k, ← e) (put_both p q)

  pub all_parts : (n st : ℕ) {u : List ℕ} → u ≡ part b 0 st → {o o₁ o₂ o₃ : List ℕ} {q r s : ℕ} → Put o o₁ 0 q u → Put o₁ o₂ q r (wide_offsets b n)
      → Put o₂ o₃ r s (trailer version2 n st) → Put o o₃ 0 s (rewritten b n st)
  unfolding rewritten
  all_parts n st e p q r = put_both (put_both (rw e at p) q) r

pub ruleset rewritings = (no_offsets, an_offset, all_parts)

-- the offsets from k on
abbrev run : List ℕ → ℕ → ℕ → List ℕ
run b k zero = []
run b k (suc j) = be 4 (offset_in version1 b k) ++ run b (suc k) j

first_is : (b : List ℕ) (k : ℕ) → 8 ≤ length b → k ≤ 65535 → first_at version1 b k ≡ offset_in version1 b k
unfolding first_at
first_is b k h g = rw (le-leb 8 (length b) h, le-leb k 65535 g)

up_to_on : (b : List ℕ) (j k : ℕ) → 8 ≤ length b → k + j ≤ 65536 → wide_offsets b k ++ run b k j ≡ wide_offsets b (k + j)
up_to_on b zero k h g = let e : k + 0 ≡ k = omega arith in append-nil (wide_offsets b k) ∙ rw e
up_to_on b (suc j) k h g =
    let e : k + suc j ≡ suc k + j = omega arith in
    let f = first_is b k h (omega arith) in
    sym (append_assoc (wide_offsets b k) (be 4 (offset_in version1 b k)) (run b (suc k) j))
    ∙ (ap (λ (x : ℕ). (wide_offsets b k ++ be 4 x) ++ run b (suc k) j) (sym f) ∙ (up_to_on b j (suc k) h (omega arith) ∙ rw e))

-- a file of version 1 that passes
module _ (b : List ℕ) {n : ℕ} (e : Ok n ≡ check_day version1 first_limits b) where
  p : Passes version1 first_limits b n
  p = passes_all version1 first_limits b e

  says : Trailer version1 b
  says = trailer_says version1 b p.trailer_stands_lem

  its_start : length b - 8 - 2 * n ≡ start_in b
  its_start = omega (arith, says.sum, p.count)

  long_enough : 8 + 2 * n ≤ length b
  long_enough = omega (arith, says.sum, p.count)

  pub has_trailer : 8 ≤ length b
  has_trailer = omega (arith, long_enough)

  pub has_table : 2 * n ≤ length b - 8
  has_table = omega (arith, long_enough)

  short_enough : length b ≤ 65535
  short_enough = says.short

  pub few_messages : n < 65536
  few_messages = omega (arith, long_enough, short_enough)

  pub small_start : length b - 8 - 2 * n < 65536
  small_start = omega (arith, short_enough)

  pub fits_twice : Fits w64 (2 * n)
  fits_twice = record { fits = omega (arith, few_messages) }

  pub fits_bytes : Fits w64 (length b + 2 * n)
  fits_bytes = record { fits = omega (arith, few_messages, short_enough) }

  pub no_room : (room : ℕ) → room < length b + 2 * n → refused 16 (length b + 2 * n) ≡ upgraded_by (Ok n) b room
  no_room room h = rw (lt-ltb room (length b + 2 * n) h)

  pub has_room : (room : ℕ) → length b + 2 * n ≤ room → Ok (record { messages = n; bytes = length b + 2 * n }) ≡ upgraded_by (Ok n) b room
  has_room room h = rw (le-ltb room (length b + 2 * n) h)

  module _ (bytes : all is_byte b ≡ true) where
    level : (j k : ℕ) → k + suc j ≡ count_in b → offsets 4 (offset_in version1 b k) (messages_from version1 b k (suc j)) ≡ run b k (suc j)
    level zero k h = refl
    level (suc j) k h =
        ap (λ (i : ℕ). be 4 (offset_in version1 b k) ++ offsets 4 i (messages_from version1 b (suc k) (suc j))) (next_offset version1 b bytes p.trailer_stands_lem p.entries k (omega arith))
        ∙ ap (λ (l : List ℕ). be 4 (offset_in version1 b k) ++ l) (level j (suc k) (omega arith))

    their_offsets : (c : ℕ) → c ≡ count_in b → offsets 4 0 (messages_from version1 b 0 c) ≡ wide_offsets b c
    their_offsets zero h = refl
    their_offsets (suc j) h =
        ap (λ (i : ℕ). offsets 4 i (messages_from version1 b 0 (suc j))) (sym (starts version1 b bytes p.trailer_stands_lem p.entries (omega arith)))
        ∙ (level j 0 (omega arith) ∙ (let z : 0 + suc j ≡ suc j = omega arith in rw z at (up_to_on b (suc j) 0 says.long (omega (arith, few_messages, p.count)))))

    joined : join (messages_in version1 b) ≡ take (start_in b) b
    joined = messages_joined version1 b bytes p.trailer_stands_lem p.entries

    parts_are : rewritten b n (start_in b) ≡ upgraded b
    unfolding rewritten upgraded file_of
    parts_are =
        let st = start_in b in
        let z : st - 0 ≡ st = omega arith in
        let c : length (messages_in version1 b) ≡ n = counted version1 first_limits b bytes p in
        let l : length (join (messages_in version1 b)) ≡ st = ap length joined ∙ length-take-le st b (omega (arith, says.sum)) in
        rw (c, l, joined, p.count, their_offsets (count_in b) refl, z) (append_assoc (take st b) (wide_offsets b (count_in b)) (trailer version2 (count_in b) st))

    size : length (rewritten b n (start_in b)) ≡ length b + 2 * n
    unfolding upgraded
    size =
        ap length parts_are
        ∙ (file_length version2 (messages_in version1 b)
        ∙ (let c : length (messages_in version1 b) ≡ n = counted version1 first_limits b bytes p in
        let l : length (join (messages_in version1 b)) ≡ start_in b = ap length joined ∙ length-take-le (start_in b) b (omega (arith, says.sum)) in
        omega (arith, c, l, says.sum, p.count)))

  pub room_after : ((i : ℕ) → Fits w8 (get_or b i 0)) → {o o' : List ℕ} {r : ℕ} → Put o o' 0 r (rewritten b n (length b - 8 - 2 * n)) → length b + 2 * n ≤ length o
      → o' ≡ upgraded b ++ drop (length b + 2 * n) o
  room_after fits {o} q h =
      let bytes = all_bytes b fits in
      let u : List ℕ = rewritten b n (start_in b) in
      let long = size bytes in
      let z : 0 + length u ≡ length b + 2 * n = omega (arith, long) in
      (rw its_start at q).bytes ∙ (sets-eq u o 0 (omega (arith, long)) ∙ (ap (λ (i : ℕ). u ++ drop i o) z ∙ ap (λ (l : List ℕ). l ++ drop (length b + 2 * n) o) (parts_are bytes)))

pub ruleset upgradings = (has_trailer, has_table, few_messages, small_start, fits_twice, fits_bytes, no_room, has_room, room_after)

-- the whole
module _ (b : List ℕ) (room : ℕ) {d : Result ℕ Refusal} (e : d ≡ check_day version1 first_limits b) where
  pub it_passes : {n : ℕ} → d ≡ Ok n → Ok n ≡ check_day version1 first_limits b
  it_passes g = sym g ∙ e

  pub upgrade_refused : {i : Refusal} → d ≡ Err i → Err i ≡ upgrade_day b room
  unfolding upgrade_day
  upgrade_refused g = sym (rw (← e, g))

  pub upgrade_done : {n : ℕ} → d ≡ Ok n → {r : Result Added Refusal} → r ≡ upgraded_by (Ok n) b room → r ≡ upgrade_day b room
  unfolding upgrade_day
  upgrade_done g q = q ∙ sym (rw (← e, g))

pub ruleset upgrades = (it_passes, upgrade_refused, upgrade_done)

-- R191: a message that a file of version 1 holds is accepted within the gate's own limits too.
pub accepted_too : (x : List ℕ) → all is_byte x ≡ true → is_accepted (read first_limits Message x) ≡ true → is_accepted (read gate_limits Message x) ≡ true
accepted_too x bytes e = go (read first_limits Message x) refl e
  where
    wider : Within first_limits gate_limits
    wider = record { bytes = omega arith; items = omega arith; containers = omega arith }

    go : (a : Answer) → read first_limits Message x ≡ a → is_accepted a ≡ true → is_accepted (read gate_limits Message x) ≡ true
    go (accept n) f q = rw (larger_accepts wider Message x n bytes f)
    go (refuse r i) f q = absurd (true≢false (sym q))

all_before : (u v : List ℕ) → all is_byte (u ++ v) ≡ true → all is_byte u ≡ true
all_before u v e = sym (ap (all is_byte) (take-append_seam u v)) ∙ all_take is_byte (length u) (u ++ v) e

all_behind : (u v : List ℕ) → all is_byte (u ++ v) ≡ true → all is_byte v ≡ true
all_behind u v e = sym (ap (all is_byte) (drop-append_seam u v)) ∙ all_drop is_byte (length u) (u ++ v) e

each_byte : (xs : List (List ℕ)) → all is_byte (join xs) ≡ true → (x : List ℕ) → Memᴰ x xs → all is_byte x ≡ true
each_byte [] e x h = absurd (Memᴰ.not-nil h)
each_byte (y ∷ ys) e x h = go (Memᴰ.cases_cons h) (each_byte ys (all_behind y (join ys) e) x)
  where
    go : (x ≡ y) ⊎ Memᴰ x ys → (Memᴰ x ys → all is_byte x ≡ true) → all is_byte x ≡ true
    go (inl q) ih = rw q (all_before y (join ys) e)
    go (inr q) ih = ih q

-- R193: the new file passes in version 2, within the gate's own limits, with the same messages.
module _ (b : List ℕ) (bytes : all is_byte b ≡ true) {n : ℕ} (e : check_day version1 first_limits b ≡ Ok n) where
  passing : Passes version1 first_limits b n
  passing = passes_all version1 first_limits b (sym e)

  old : Holds version1 first_limits (messages_in version1 b)
  old = held version1 first_limits b bytes passing

  new : Holds version2 gate_limits (messages_in version1 b)
  new = record {
    accepted = λ x h. accepted_too x (each_byte (messages_in version1 b) (rw (joined b (sym e) bytes) (all_take is_byte (start_in b) b bytes)) x h) (old.accepted x h);
    few = old.few;
    short = omega (arith, old.short, file_length version1 (messages_in version1 b), file_length version2 (messages_in version1 b));
  }

  pub upgraded_passes : check_day version2 gate_limits (upgraded b) ≡ Ok n
  unfolding upgraded
  upgraded_passes =
      file_passes version2 gate_limits (messages_in version1 b) new.few new.short new.accepted ∙ ap Ok (counted version1 first_limits b bytes passing)

  pub same_messages : messages_in version2 (upgraded b) ≡ messages_in version1 b
  unfolding upgraded
  same_messages = its_messages version2 gate_limits new
