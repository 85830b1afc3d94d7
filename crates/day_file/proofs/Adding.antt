-- One message more. The idea: the bytes that are put, piece by piece, are the file of the old messages and the new one, since the old file is that of its own.
use Prim.Native.Nat.{ℕ, zero, suc, ◌+◌, ◌-◌, ◌*◌, ◌<◌, ◌≤◌, min}
use mathlib.Core.Path.{◌≡◌, refl, sym, ◌∙◌, ap}
use mathlib.Core.Bool.{Bool, true, false, cond}
use mathlib.Core.List.{List, [], ◌∷◌, ◌++◌, append-nil, append_assoc}
use native.Mathlib.Omega.{arith}
use lib.ListN.{length, take, drop, get_or, length-append}
use lib.Seq.{sets-eq, length-take-le}
use lib.Dec.{eqb, ltb, leb}
use borrow.Author.Tests.{eqb-false, le-ltb, lt-ltb, leb-true, leb-false, ltb-false}
use Rattle.buffer.specs.Bytes.{be, part, all, is_byte}
use Rattle.buffer.specs.Put.{Put}
use Rattle.buffer.proofs.ByteLaws.{length_be, or-false, all_bytes}
use mir.Syntax.{w8, w64}
use mir.Val.{Fits}
use Rattle.buffer.proofs.Putting.{put_both}
use Rattle.ari.specs.declared.Limits.{Limits}
use Rattle.ari.specs.declared.Input.TheVariants.{Message}
use Rattle.ari.specs.Reader.{read}
use Rattle.std.specs.declared.result.Result.{Result}
use Rattle.std.specs.declared.result.Result.TheVariants.{Ok, Err}
use Rattle.ari.specs.declared.Refusal.{Refusal}
use Rattle.ari.specs.Refusals.{refused}
use Rattle.reader.specs.Results.{result_of}
use Rattle.reader.proofs.Results.{is_accepted, is_refused}
use Rattle.day_file.specs.declared.Format.{Format}
use Rattle.day_file.specs.declared.Offsets.{Offsets}
use Rattle.day_file.specs.declared.Offsets.TheVariants.{Two, Four}
use Rattle.day_file.specs.declared.Added.{Added}
use Rattle.day_file.specs.Day.{width, most_bytes, join, offsets, trailer, file_of, count_in, start_in, messages_in, trailer_stands, entry_stands, message_stands, first_not, unless_all, check_day, new_length, is_full, full_or, grown, with_message, added_by, add_day, room_after}
use Rattle.day_file.proofs.Files.{trailer_says, length_part, messages_joined, messages_tabled, messages_counted}

-- what passes: every test of every entry and message
first_all : (p : ℕ → Bool) (j i : ℕ) → i + j ≤ first_not p i j → (k : ℕ) → i ≤ k → k < i + j → p k ≡ true
first_all p zero i h k l g = absurd (omega arith)
first_all p (suc j) i h k l g = go (p i) refl h (λ (q : suc i + j ≤ first_not p (suc i) j) (o : suc i ≤ k). first_all p j (suc i) q k o (omega arith))
  where
    go : (x : Bool) → p i ≡ x → i + suc j ≤ cond x (first_not p (suc i) j) i → (suc i + j ≤ first_not p (suc i) j → suc i ≤ k → p k ≡ true) → p k ≡ true
    go false e q more = absurd (omega arith)
    go true e q more = here (leb k i) refl
      where
        here : (y : Bool) → leb k i ≡ y → p k ≡ true
        here true f = let z : k ≡ i = omega (arith, leb-true k i f) in rw z e
        here false f = more (omega arith) (leb-false k i f)

pub record Passes (f : Format) (m : Limits) (b : List ℕ) (n : ℕ) : Type 0 where
  pub count : n ≡ count_in b
  pub trailer_stands_lem : trailer_stands f b ≡ true
  pub entries : (k : ℕ) → k < count_in b → entry_stands f b k ≡ true
  pub messages : (k : ℕ) → k < count_in b → message_stands f m b k ≡ true

pub passes_all : (f : Format) (m : Limits) (b : List ℕ) {n : ℕ} → Ok n ≡ check_day f m b → Passes f m b n
unfolding check_day
passes_all f m b {n} e = go (trailer_stands f b) refl e
  where
    bad : (i : Refusal) → ◌≡◌ {A = Result ℕ Refusal} (Ok n) (Err i) → ⊥
    bad i q = let z : ◌≡◌ {A = ℕ} 0 1 = cc in omega arith

    all : (p : ℕ → Bool) → ltb (first_not p 0 (count_in b)) (count_in b) ≡ false → (k : ℕ) → k < count_in b → p k ≡ true
    all p q k h = first_all p (count_in b) 0 (omega (arith, ltb-false (first_not p 0 (count_in b)) (count_in b) q)) k (omega arith) (omega arith)

    third : trailer_stands f b ≡ true → ltb (first_not (entry_stands f b) 0 (count_in b)) (count_in b) ≡ false → (x : Bool) → ltb (first_not (message_stands f m b) 0 (count_in b)) (count_in b) ≡ x
        → Ok n ≡ cond x (refused 22 (first_not (message_stands f m b) 0 (count_in b))) (Ok (count_in b)) → Passes f m b n
    third t q true r s = absurd (bad _ s)
    third t q false r s = record { count = cc; trailer_stands_lem = t; entries = all (entry_stands f b) q; messages = all (message_stands f m b) r }

    second : trailer_stands f b ≡ true → (x : Bool) → ltb (first_not (entry_stands f b) 0 (count_in b)) (count_in b) ≡ x
        → Ok n ≡ cond x (refused 21 (first_not (entry_stands f b) 0 (count_in b))) (unless_all 22 (message_stands f m b) (count_in b) (Ok (count_in b))) → Passes f m b n
    second t true q s = absurd (bad _ s)
    second t false q s = third t q (ltb (first_not (message_stands f m b) 0 (count_in b)) (count_in b)) refl s

    go : (x : Bool) → trailer_stands f b ≡ x → Ok n ≡ cond x (unless_all 21 (entry_stands f b) (count_in b) (unless_all 22 (message_stands f m b) (count_in b) (Ok (count_in b)))) (refused 20 0) → Passes f m b n
    go false t s = absurd (bad _ s)
    go true t s = second t (ltb (first_not (entry_stands f b) 0 (count_in b)) (count_in b)) refl s

-- one message behind others
join_more : (xs : List (List ℕ)) (x : List ℕ) → join (xs ++ (x ∷ [])) ≡ join xs ++ x
join_more [] x = append-nil x
join_more (y ∷ xs) x = ap (λ (l : List ℕ). y ++ l) (join_more xs x) ∙ sym (append_assoc y (join xs) x)

offsets_more : (w at : ℕ) (xs : List (List ℕ)) (x : List ℕ) → offsets w at (xs ++ (x ∷ [])) ≡ offsets w at xs ++ be w (at + length (join xs))
offsets_more w at [] x = let e : at + 0 ≡ at = omega arith in append-nil (be w at) ∙ rw e
offsets_more w at (y ∷ xs) x =
    let e : at + length y + length (join xs) ≡ at + length (y ++ join xs) = omega (arith, length-append y (join xs)) in
    ap (λ (l : List ℕ). be w at ++ l) (offsets_more w (at + length y) xs x) ∙ sym (append_assoc (be w at) (offsets w (at + length y) xs) (be w (at + length y + length (join xs)))) ∙ rw e

module _ (f : Format) (m : Limits) (b : List ℕ) (bytes : all is_byte b ≡ true) {n : ℕ} (p : Passes f m b n) (x : List ℕ) where
  pub grown_is : grown f b n x ≡ with_message f b x
  unfolding grown with_message file_of
  grown_is =
      let ms = messages_in f b in
      let st = start_in b in
      let w = width f in
      let says = trailer_says f b p.trailer_stands_lem in
      let joined : join ms ≡ take st b = messages_joined f b bytes p.trailer_stands_lem p.entries in
      let tabled : offsets w 0 ms ≡ part b st (st + w * count_in b) = messages_tabled f b bytes p.trailer_stands_lem p.entries in
      let counted : length ms ≡ count_in b = messages_counted f b bytes p.trailer_stands_lem p.entries in
      let size : length (join ms) ≡ st = ap length joined ∙ length-take-le st b (omega (arith, says.sum)) in
      let start : part b 0 st ≡ join ms = let z : st - 0 ≡ st = omega arith in rw z (sym joined) in
      let count : n + 1 ≡ length (ms ++ (x ∷ [])) = omega (arith, p.count, counted, length-append ms (x ∷ [])) in
      let bytes-now : st + length x ≡ length (join (ms ++ (x ∷ []))) = omega (arith, size, ap length (join_more ms x), length-append (join ms) x) in
      let table : part b st (st + w * n) ++ be w st ≡ offsets w 0 (ms ++ (x ∷ [])) =
      ap (λ (l : List ℕ). l ++ be w st) (ap (λ (i : ℕ). part b st (st + w * i)) p.count ∙ sym tabled)
      ∙ ap (λ (i : ℕ). offsets w 0 ms ++ be w i) (let z : st ≡ 0 + length (join ms) = omega (arith, size) in z) ∙ sym (offsets_more w 0 ms x) in
      ap (λ (l : List ℕ). ((l ++ x) ++ (part b st (st + w * n) ++ be w st)) ++ trailer f (n + 1) (st + length x)) start
      ∙ ap (λ (l : List ℕ). (l ++ (part b st (st + w * n) ++ be w st)) ++ trailer f (n + 1) (st + length x)) (sym (join_more ms x))
      ∙ ap (λ (l : List ℕ). (join (ms ++ (x ∷ [])) ++ l) ++ trailer f (n + 1) (st + length x)) table
      ∙ append_assoc (join (ms ++ (x ∷ []))) (offsets w 0 (ms ++ (x ∷ []))) (trailer f (n + 1) (st + length x))
      ∙ ap (λ (i : ℕ). join (ms ++ (x ∷ [])) ++ (offsets w 0 (ms ++ (x ∷ [])) ++ trailer f i (st + length x))) count
      ∙ ap (λ (i : ℕ). join (ms ++ (x ∷ [])) ++ (offsets w 0 (ms ++ (x ∷ [])) ++ trailer f (length (ms ++ (x ∷ []))) i)) bytes-now

-- what is put
module _ (f : Format) {x : ℕ} (h : x ≤ most_bytes f) where
  pub fits_four : f.offsets ≡ Four → x < 4294967296
  fits_four w = let k : x ≤ min f.bytes 4294967295 = rw w at h in omega arith

  pub fits_two : f.offsets ≡ Two → x < 65536
  fits_two w = let k : x ≤ min f.bytes 65535 = rw w at h in omega arith

module _ (f : Format) {a b : List ℕ} {at r : ℕ} (x : ℕ) where
  pub offset_four : f.offsets ≡ Four → Put a b at r (be 4 x) → Put a b at r (be (width f) x)
  offset_four w p = rw w p

  pub offset_two : f.offsets ≡ Two → Put a b at r (be 2 x) → Put a b at r (be (width f) x)
  offset_two w p = rw w p

pub trailer_put : (f : Format) (n st : ℕ) {a b c d e : List ℕ} {at q r s u : ℕ} → Put a b at q (f.version ∷ []) → Put b c q r (0 ∷ []) → Put c d r s (be 2 n) → Put d e s u (be 4 st)
    → Put a e at u (trailer f n st)
trailer_put f n st i j k l = put_both i (put_both j (put_both k l))

pub messages_put : (b x : List ℕ) (st : ℕ) {y : List ℕ} → y ≡ part b 0 st → {o o₁ o₂ : List ℕ} {q r : ℕ} → Put o o₁ 0 q y → Put o₁ o₂ q r x → Put o o₂ 0 r (part b 0 st ++ x)
messages_put b x st e p q = rw (← e) (put_both p q)

pub table_put : (f : Format) (b : List ℕ) (st n : ℕ) {t : ℕ} → t ≡ width f * n → {y : List ℕ} → y ≡ part b st (st + t) → {o o₁ o₂ : List ℕ} {at q r : ℕ} → Put o o₁ at q y
    → Put o₁ o₂ q r (be (width f) st) → Put o o₂ at r (part b st (st + width f * n) ++ be (width f) st)
table_put f b st n g e p q = rw (← g, ← e) (put_both p q)

pub grown_put : (f : Format) (b : List ℕ) (n : ℕ) (x : List ℕ) {st : ℕ} → st ≡ start_in b → {o o₁ o₂ o₃ : List ℕ} {q r s : ℕ} → Put o o₁ 0 q (part b 0 st ++ x)
    → Put o₁ o₂ q r (part b st (st + width f * n) ++ be (width f) st) → Put o₂ o₃ r s (trailer f (n + 1) (st + length x)) → Put o o₃ 0 s (grown f b n x)
unfolding grown
grown_put f b n x e h₁ h₂ h₃ = rw (← e) (put_both (put_both h₁ h₂) h₃)

pub ruleset puts = (fits_four, fits_two, offset_four, offset_two, trailer_put, messages_put, table_put, grown_put)

-- full, or not
module _ (f : Format) (b x : List ℕ) {m : ℕ} (e : m ≡ most_bytes f) (h : length b ≤ most_bytes f) where
  pub no_bytes_left : m - length b < length x → true ≡ is_full f b x
  unfolding is_full
  no_bytes_left g = sym (rw (← e, lt-ltb m (new_length f b x) (omega arith)))

  module _ (g : length x ≤ m - length b) {w : ℕ} (i : w ≡ width f) where
    pub no_entry_left : m - length b - length x < w → true ≡ is_full f b x
    unfolding is_full
    no_entry_left k = sym (rw (← e, lt-ltb m (new_length f b x) (omega arith)))

    pub count_left : w ≤ m - length b - length x → {n : ℕ} → n ≡ count_in b → eqb n 65535 ≡ is_full f b x
    unfolding is_full
    count_left k c = sym (rw (← e, le-ltb m (new_length f b x) (omega arith), ← c))

pub ruleset fulls = (no_bytes_left, no_entry_left, count_left)

-- what a file that stands has
module _ (f : Format) (b : List ℕ) (t : trailer_stands f b ≡ true) where
  pub has_eight : 8 ≤ length b
  has_eight = (trailer_says f b t).long

  pub within_most : length b ≤ most_bytes f
  within_most = (trailer_says f b t).short

  pub start_within : start_in b ≤ most_bytes f
  start_within = omega (arith, (trailer_says f b t).short, (trailer_says f b t).sum)

most_four : (f : Format) → most_bytes f ≤ 4294967295
most_four f = go f.offsets refl
  where
    go : (x : Offsets) → f.offsets ≡ x → most_bytes f ≤ 4294967295
    go Four e = rw e (omega arith)
    go Two e = rw e (omega arith)

-- where there is room in the file
module _ (f : Format) (b x : List ℕ) {y : Bool} (e : y ≡ is_full f b x) (n : y ≡ false) where
  not_full : (new_length f b x ≤ most_bytes f) × (eqb (count_in b) 65535 ≡ false)
  unfolding is_full
  not_full = let (p, q) = or-false _ _ (sym e ∙ n) in (ltb-false (most_bytes f) (new_length f b x) p, q)

  pub one_more : {c : ℕ} → c ≡ count_in b → c < 65536 → c + 1 < 65536
  one_more {c} i h = let k : c ≡ 65535 → ⊥ = λ z. eqb-false (count_in b) 65535 not_full.1 (sym i ∙ z) in below c k h
    where
      below : (c : ℕ) → (c ≡ 65535 → ⊥) → c < 65536 → c + 1 < 65536
      below c k h = go (leb c 65534) refl
        where
          go : (y : Bool) → leb c 65534 ≡ y → c + 1 < 65536
          go true q = omega (arith, leb-true c 65534 q)
          go false q = absurd (k (omega (arith, leb-false c 65534 q)))

  pub start_fits : trailer_stands f b ≡ true → start_in b + length x < 4294967296
  start_fits t = omega (arith, not_full.0, most_four f, (trailer_says f b t).sum)

  pub new_fits : {w : ℕ} → w ≡ width f → Fits w64 (length b + (length x + w))
  new_fits i = record { fits = omega (arith, not_full.0, most_four f) }

  module _ (room : ℕ) {w : ℕ} (i : w ≡ width f) where
    pub no_room : room < length b + (length x + w) → refused 16 (length b + (length x + w)) ≡ full_or f b x room
    unfolding full_or
    no_room h = sym (rw (← e, n, ← i, lt-ltb room (length b + (length x + w)) h))

    pub has_room : length b + (length x + w) ≤ room → {c : ℕ} → c ≡ count_in b → Ok (record { messages = c + 1; bytes = length b + (length x + w) }) ≡ full_or f b x room
    unfolding full_or
    has_room h c = sym (rw (← e, n, ← i, le-ltb room (length b + (length x + w)) h, c))

pub is_full_23 : (f : Format) (b x : List ℕ) (room : ℕ) {y : Bool} → y ≡ is_full f b x → y ≡ true → refused 23 0 ≡ full_or f b x room
unfolding full_or
is_full_23 f b x room e h = sym (rw (← e, h))

-- the room that holds the new file
pub grown_room : (f : Format) (b x : List ℕ) → trailer_stands f b ≡ true → {c : ℕ} → c ≡ count_in b → {w : ℕ} → w ≡ width f → {o o' : List ℕ} {r : ℕ} → Put o o' 0 r (grown f b c x)
    → length b + (length x + w) ≤ length o → o' ≡ grown f b c x ++ drop (length b + (length x + w)) o
unfolding grown
grown_room f b x t {c} ic {w} iw {o} {o'} p h =
    let says = trailer_says f b t in
    let st = start_in b in
    let u₁ = part b 0 st in
    let u₃ = part b st (st + width f * c) in
    let u₄ = be (width f) st in
    let u₅ = trailer f (c + 1) (st + length x) in
    let l₁ : length u₁ ≡ st = length_part b 0 st (omega arith) (omega (arith, says.sum)) ∙ (let z : st - 0 ≡ st = omega arith in z) in
    let l₃ : length u₃ ≡ width f * c = length_part b st (st + width f * c) (omega arith) (omega (arith, says.sum, ap (λ (i : ℕ). width f * i) ic)) ∙ (let z : st + width f * c - st ≡ width f * c = omega arith in z) in
    let l₄ : length u₄ ≡ width f = length_be (width f) st in
    let l₅ : length u₅ ≡ 8 = omega (arith, length-append (be 2 (c + 1)) (be 4 (st + length x)), length_be 2 (c + 1), length_be 4 (st + length x)) in
    let all : List ℕ = ((u₁ ++ x) ++ (u₃ ++ u₄)) ++ u₅ in
    let long : length all ≡ length b + (length x + w) =
    omega (arith, length-append ((u₁ ++ x) ++ (u₃ ++ u₄)) u₅, length-append (u₁ ++ x) (u₃ ++ u₄), length-append u₃ u₄, length-append u₁ x, l₁, l₃, l₄, l₅, says.sum, ap (λ (i : ℕ). width f * i) ic, iw) in
    let z : 0 + length all ≡ length b + (length x + w) = omega (arith, long) in
    p.bytes ∙ sets-eq all o 0 (omega (arith, long)) ∙ ap (λ (i : ℕ). all ++ drop i o) z

pub ruleset adds = (has_eight, within_most, start_within, one_more, start_fits, new_fits, no_room, has_room, is_full_23, grown_room)

-- the whole
module _ (f : Format) (m : Limits) (b x : List ℕ) (room : ℕ) {d : Result ℕ Refusal} (e : d ≡ check_day f m b) where
  pub add_refused : {i : Refusal} → d ≡ Err i → Err i ≡ add_day f m b x room
  unfolding add_day
  add_refused g = sym (rw (← e, g))

  module _ {n : ℕ} (g : d ≡ Ok n) {a : Result ℕ Refusal} (h : a ≡ result_of (read m Message x)) where
    pub add_no_message : {i : Refusal} → a ≡ Err i → Err i ≡ add_day f m b x room
    unfolding add_day
    add_no_message i = is_refused m Message x h i (λ y. added_by (Ok n) y f b x room) (λ r p. refl) ∙ sym (rw (← e, g))

    pub add_done : {k : ℕ} → a ≡ Ok k → {r : Result Added Refusal} → r ≡ full_or f b x room → r ≡ add_day f m b x room
    unfolding add_day
    add_done i q = q ∙ sym (rw (← e, g, is_accepted m Message x h i))

  pub add-room : {n : ℕ} → d ≡ Ok n → ((i : ℕ) → Fits w8 (get_or b i 0)) → (r : Result Added Refusal) (o : List ℕ) {o' : List ℕ} → o' ≡ room_after r (grown f b n x) o → o' ≡ room_after r (with_message f b x) o
  add-room {n} g bytes r o q = q ∙ ap (λ (l : List ℕ). room_after r l o) (grown_is f m b (all_bytes b bytes) (passes_all f m b (sym g ∙ e)) x)

pub ruleset addings = (add_refused, add_no_message, add_done, add-room)
