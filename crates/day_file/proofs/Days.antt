-- The day file, R154 to R161, sentence by sentence: over lists of accepted messages.
use Prim.Native.Nat.{ℕ, zero, suc, ◌+◌, ◌-◌, ◌*◌, ◌<◌, ◌≤◌, min}
use mathlib.Core.Logic.{◌⊎◌, inl, inr, ◌↔◌}
use mathlib.Core.Path.{◌≡◌, refl, sym, ◌∙◌, ap}
use mathlib.Core.Bool.{Bool, true, false, ◌||◌, cond}
use mathlib.Core.List.Memᴰ
use mathlib.Core.List.{List, [], ◌∷◌, ◌++◌, Memᴰ}
use native.Mathlib.Omega.{arith}
use lib.ListN.{length, drop, length-append, length-drop}
use lib.Dec.{eqb, ltb, leb}
use borrow.Author.Tests.{leb-true, leb-false, eqb-true, eqb-false, ltb-true, ltb-false, lt-ltb, le-ltb, eq-eqb}
use Rattle.buffer.specs.Bytes.{all, is_byte}
use Rattle.buffer.proofs.ByteLaws.{all_drop, value_part_lt, or-false, or-true, or_right}
use Rattle.buffer.proofs.Numbers.{load_there}
use Rattle.ari.specs.declared.Limits.{Limits}
use Rattle.ari.specs.Limits.{gate_limits, first_limits, capped}
use Rattle.ari.specs.declared.Input.TheVariants.{Message}
use Rattle.ari.specs.Reader.{Answer, accept, refuse, read}
use Rattle.day_file.specs.declared.Format.{Format}
use Rattle.std.specs.declared.result.Result.{Result}
use Rattle.std.specs.declared.result.Result.TheVariants.{Ok, Err}
use Rattle.ari.specs.declared.Refusal.{Refusal}
use Rattle.ari.specs.Refusals.{refused, refusal_of}
use Rattle.day_file.specs.declared.Offsets.TheVariants.{Two}
use Rattle.day_file.specs.declared.Added.{Added}
use Rattle.day_file.specs.Day.{width, most_bytes, join, file_of, count_in, start_in, message_in, messages_from, messages_in, message_stands, is_accepted, check_day, find_day, part_of, new_length, is_full, full_or, with_message, added_by, add_day}
use Rattle.day_file.specs.Versions.{is_second, limits_of}
use Rattle.day_file.proofs.Files.{trailer_says, is_file, messages_counted}
use Rattle.day_file.proofs.Adding.{Passes, passes_all}
use Rattle.day_file.proofs.Whole.{file_length, messages_there, file_passes, message_there}

-- Messages that a file may hold: each is accepted, and together they keep the limits.
pub record Holds (f : Format) (m : Limits) (xs : List (List ℕ)) : Type 0 where
  pub accepted : (x : List ℕ) → Memᴰ x xs → is_accepted (read m Message x) ≡ true
  pub few : length xs ≤ 65535
  pub short : length (file_of f xs) ≤ most_bytes f

module _ (f : Format) (m : Limits) (b : List ℕ) (bytes : all is_byte b ≡ true) {n : ℕ} (p : Passes f m b n) where
  each : (j k : ℕ) → k + j ≡ count_in b → (x : List ℕ) → Memᴰ x (messages_from f b k j) → is_accepted (read m Message x) ≡ true
  unfolding message_stands
  each zero k e x h = absurd (Memᴰ.not-nil h)
  each (suc j) k e x h = go (Memᴰ.cases_cons h) (each j (suc k) (omega arith) x)
    where
      go : (x ≡ message_in f b k) ⊎ Memᴰ x (messages_from f b (suc k) j) → (Memᴰ x (messages_from f b (suc k) j) → is_accepted (read m Message x) ≡ true) → is_accepted (read m Message x) ≡ true
      go (inl q) ih = rw q (p.messages k (omega arith))
      go (inr q) ih = ih q

  pub count_small : count_in b < 65536
  count_small =
      let long = (trailer_says f b p.trailer_stands_lem).long in
      let there : 2 ≤ length (drop (length b - 6) b) = rw length-drop (omega arith) in
      rw (load_there 2 b (length b - 6) (omega arith)) (value_part_lt 2 (drop (length b - 6) b) (all_drop is_byte (length b - 6) b bytes) there)

  pub whole : b ≡ file_of f (messages_in f b)
  whole = is_file f b bytes p.trailer_stands_lem p.entries

  pub counted : length (messages_in f b) ≡ n
  counted = messages_counted f b bytes p.trailer_stands_lem p.entries ∙ sym p.count

  pub held : Holds f m (messages_in f b)
  held = record {
    accepted = each (count_in b) 0 (omega arith);
    few = omega (arith, count_small, counted, p.count);
    short = rw (← whole) (trailer_says f b p.trailer_stands_lem).short;
  }

-- A file passes, with n messages, exactly if it is the file of n accepted messages that keep the limits.
pub passes_exactly_if : (f : Format) (m : Limits) (b : List ℕ) → all is_byte b ≡ true → (n : ℕ)
    → (check_day f m b ≡ Ok n) ↔ ((xs : List (List ℕ)) × Holds f m xs × (b ≡ file_of f xs) × (length xs ≡ n))
passes_exactly_if f m b bytes n = (
  λ e. (let p = passes_all f m b (sym e) in (messages_in f b, held f m b bytes p, whole f m b bytes p, counted f m b bytes p)),
  λ (xs, h, e, c). rw (e, ← c) (file_passes f m xs h.few h.short h.accepted),
)

module _ (f : Format) (m : Limits) {xs : List (List ℕ)} (h : Holds f m xs) where
  -- These are its messages, and so there is one such list.
  pub its_messages : messages_in f (file_of f xs) ≡ xs
  its_messages = messages_there f m xs h.few h.short

  pub one_list : {ys : List (List ℕ)} → Holds f m ys → file_of f xs ≡ file_of f ys → xs ≡ ys
  one_list {ys} g e = sym its_messages ∙ ap (messages_in f) e ∙ messages_there f m ys g.few g.short

  passes : check_day f m (file_of f xs) ≡ Ok (length xs)
  passes = file_passes f m xs h.few h.short h.accepted

  -- Message k is what was put there; past the last there is none.
  pub message_by_number : (ys : List (List ℕ)) (x : List ℕ) (zs : List (List ℕ)) → xs ≡ ys ++ (x ∷ zs) → part_of (file_of f xs) (find_day f m (file_of f xs) (length ys)) ≡ x
  unfolding find_day message_in
  message_by_number ys x zs e =
      let l : length ys < length xs = omega (arith, ap length e, length-append ys (x ∷ zs)) in
      rw (passes, lt-ltb (length ys) (length xs) l) (message_there f m xs h.few h.short ys x zs e)

  pub no_such_message : (k : ℕ) → length xs ≤ k → find_day f m (file_of f xs) k ≡ refused 17 (length xs)
  unfolding find_day
  no_such_message k l = rw (passes, le-ltb k (length xs) l)

-- No messages: the trailer alone.
pub empty_file : (f : Format) → file_of f [] ≡ f.version ∷ 0 ∷ 0 ∷ 0 ∷ 0 ∷ 0 ∷ 0 ∷ 0 ∷ []
unfolding file_of
empty_file f = refl

-- one message more
more_accepted : (m : Limits) (xs : List (List ℕ)) (x : List ℕ) → ((y : List ℕ) → Memᴰ y xs → is_accepted (read m Message y) ≡ true) → is_accepted (read m Message x) ≡ true
    → (y : List ℕ) → Memᴰ y (xs ++ (x ∷ [])) → is_accepted (read m Message y) ≡ true
more_accepted m [] x h e y k = go (Memᴰ.cases_cons k)
  where
    go : (y ≡ x) ⊎ Memᴰ y [] → is_accepted (read m Message y) ≡ true
    go (inl q) = rw q e
    go (inr q) = absurd (Memᴰ.not-nil q)
more_accepted m (z ∷ xs) x h e y k = go (Memᴰ.cases_cons k) (more_accepted m xs x (λ u l. h u (Memᴰ.tail l)) e y)
  where
    go : (y ≡ z) ⊎ Memᴰ y (xs ++ (x ∷ [])) → (Memᴰ y (xs ++ (x ∷ [])) → is_accepted (read m Message y) ≡ true) → is_accepted (read m Message y) ≡ true
    go (inl q) ih = h y (Memᴰ.head q)
    go (inr q) ih = ih q

length_more : (xs : List (List ℕ)) (x : List ℕ) → length (join (xs ++ (x ∷ []))) ≡ length (join xs) + length x
length_more [] x = omega (arith, length-append x [])
length_more (z ∷ xs) x = omega (arith, length-append z (join (xs ++ (x ∷ []))), length-append z (join xs), length_more xs x)

module _ (f : Format) (m : Limits) (b : List ℕ) (bytes : all is_byte b ≡ true) {n : ℕ} (p : Passes f m b n) (x : List ℕ) where
  pub grown_length : length (with_message f b x) ≡ new_length f b x
  unfolding with_message
  grown_length =
      let ms = messages_in f b in
      let more : width f * length (ms ++ (x ∷ [])) ≡ width f * (length ms + 1) = ap (λ (i : ℕ). width f * i) (length-append ms (x ∷ [])) in
      omega (arith, file_length f (ms ++ (x ∷ [])), length_more ms x, more, file_length f ms, ap length (whole f m b bytes p))

  -- 23: exactly if the message with its entry would pass the limit, or there are 65,535 messages already.
  pub full_exactly_if : (is_full f b x ≡ true) ↔ ((most_bytes f < length (with_message f b x)) ⊎ (n ≡ 65535))
  unfolding is_full
  full_exactly_if = (λ e. one (or-true _ _ e), two)
    where
      one : (ltb (most_bytes f) (new_length f b x) ≡ true) ⊎ (eqb (count_in b) 65535 ≡ true) → (most_bytes f < length (with_message f b x)) ⊎ (n ≡ 65535)
      one (inl q) = inl (omega (arith, ltb-true (most_bytes f) (new_length f b x) q, grown_length))
      one (inr q) = inr (p.count ∙ eqb-true (count_in b) 65535 q)

      two : (most_bytes f < length (with_message f b x)) ⊎ (n ≡ 65535) → ltb (most_bytes f) (new_length f b x) || eqb (count_in b) 65535 ≡ true
      two (inl q) = rw (lt-ltb (most_bytes f) (new_length f b x) (omega (arith, grown_length)))
      two (inr q) = or_right (ltb (most_bytes f) (new_length f b x)) (eqb (count_in b) 65535) (eq-eqb (count_in b) 65535 (sym p.count ∙ q))

  -- With offsets of two bytes the count is never in the way.
  pub narrow_full_exactly_if : f.offsets ≡ Two → (is_full f b x ≡ true) ↔ (most_bytes f < length (with_message f b x))
  narrow_full_exactly_if w = (λ e. one (full_exactly_if.0 e), λ q. full_exactly_if.1 (inl q))
    where
      one : (most_bytes f < length (with_message f b x)) ⊎ (n ≡ 65535) → most_bytes f < length (with_message f b x)
      one (inl q) = q
      one (inr q) =
          let says = trailer_says f b p.trailer_stands_lem in
          let short : length b ≤ min f.bytes 65535 = rw w at says.short in
          let sum : start_in b + (2 * count_in b + 8) ≡ length b = rw w at says.sum in
          absurd (omega (arith, p.count))

  -- Where the message is added, the new file holds the old messages and the new one, in that order, and has the bytes that the answer says.
  pub record Grown (k j : ℕ) : Type 0 where
    pub holds : Holds f m (messages_in f b ++ (x ∷ []))
    pub passes : check_day f m (with_message f b x) ≡ Ok k
    pub in_order : messages_in f (with_message f b x) ≡ messages_in f b ++ (x ∷ [])
    pub long : length (with_message f b x) ≡ j

  module _ (ok : is_accepted (read m Message x) ≡ true) (room-left : is_full f b x ≡ false) where
    left : (new_length f b x ≤ most_bytes f) × (eqb (count_in b) 65535 ≡ false)
    unfolding is_full
    left = let (q, r) = or-false (ltb (most_bytes f) (new_length f b x)) (eqb (count_in b) 65535) room-left in (ltb-false (most_bytes f) (new_length f b x) q, r)

    few_now : length (messages_in f b ++ (x ∷ [])) ≤ 65535
    few_now = below (count_in b) (eqb-false (count_in b) 65535 left.1) (held f m b bytes p).few
      where
        below : (c : ℕ) → (count_in b ≡ 65535 → ⊥) → length (messages_in f b) ≤ 65535 → length (messages_in f b ++ (x ∷ [])) ≤ 65535
        below c n' h = go (leb (count_in b) 65534) refl
          where
            go : (y : Bool) → leb (count_in b) 65534 ≡ y → length (messages_in f b ++ (x ∷ [])) ≤ 65535
            go true q = omega (arith, leb-true (count_in b) 65534 q, length-append (messages_in f b) (x ∷ []), counted f m b bytes p, p.count)
            go false q = absurd (n' (omega (arith, leb-false (count_in b) 65534 q, counted f m b bytes p, p.count)))

    more_held : Holds f m (messages_in f b ++ (x ∷ []))
    unfolding with_message
    more_held = record {
      accepted = more_accepted m (messages_in f b) x (held f m b bytes p).accepted ok;
      few = few_now;
      short = omega (arith, grown_length, left.0);
    }

    pub grown : Grown (n + 1) (new_length f b x)
    unfolding with_message
    grown = record {
      holds = more_held;
      passes = file_passes f m (messages_in f b ++ (x ∷ [])) few_now more_held.short more_held.accepted ∙ ap Ok (omega (arith, length-append (messages_in f b) (x ∷ []), counted f m b bytes p));
      in_order = messages_there f m (messages_in f b ++ (x ∷ [])) few_now more_held.short;
      long = grown_length;
    }

by_room : (f : Format) (m : Limits) (b : List ℕ) (bytes : all is_byte b ≡ true) {n : ℕ} (p : Passes f m b n) (x : List ℕ) (room k j : ℕ) → is_accepted (read m Message x) ≡ true
    → full_or f b x room ≡ Ok (record { messages = k; bytes = j }) → Grown f m b bytes p x k j
unfolding full_or
by_room f m b bytes {n} p x room k j ok e = go (is_full f b x) refl (ltb room (new_length f b x)) e
  where
    go : (y : Bool) → is_full f b x ≡ y → (z : Bool) → cond y (refused {A = Added} 23 0) (cond z (refused 16 (new_length f b x)) (Ok ((record { messages = count_in b + 1; bytes = new_length f b x })))) ≡ Ok (record { messages = k; bytes = j }) → Grown f m b bytes p x k j
    go true h z q = absurd (let z : ◌≡◌ {A = ℕ} 0 1 = cc in omega arith)
    go false h true q = absurd (let z : ◌≡◌ {A = ℕ} 0 1 = cc in omega arith)
    go false h false q =
        let same : ◌≡◌ {A = Added} (record { messages = count_in b + 1; bytes = new_length f b x }) (record { messages = k; bytes = j }) = cc in
        let count : n + 1 ≡ k = ap (λ (i : ℕ). i + 1) p.count ∙ ap (λ (a : Added). a.messages) same in
        let size : new_length f b x ≡ j = ap (λ (a : Added). a.bytes) same in
        rw (← count, ← size) (grown f m b bytes p x ok h)

-- Whenever an answer says so, it was so added.
pub adding_and_reading : (f : Format) (m : Limits) (b : List ℕ) (bytes : all is_byte b ≡ true) (x : List ℕ) (room k j : ℕ) → add_day f m b x room ≡ Ok (record { messages = k; bytes = j })
    → (n : ℕ) × (p : Passes f m b n) × Grown f m b bytes p x k j
unfolding add_day
adding_and_reading f m b bytes x room k j e = by_day (check_day f m b) refl e
  where
    no : (i : Refusal) → ◌≡◌ {A = Result Added Refusal} (Err i) (Ok (record { messages = k; bytes = j })) → ⊥
    no i q = let z : ◌≡◌ {A = ℕ} 0 1 = cc in omega arith

    by_message : {n : ℕ} (p : Passes f m b n) (a : Answer) → read m Message x ≡ a → added_by (Ok n) a f b x room ≡ Ok (record { messages = k; bytes = j }) → Grown f m b bytes p x k j
    by_message p (refuse r i) h q = absurd (no (refusal_of r i) q)
    by_message p (accept i) h q = by_room f m b bytes p x room k j (rw h) q

    by_day : (d : Result ℕ Refusal) → check_day f m b ≡ d → added_by d (read m Message x) f b x room ≡ Ok (record { messages = k; bytes = j }) → (n : ℕ) × (p : Passes f m b n) × Grown f m b bytes p x k j
    by_day (Err i) h q = absurd (no i q)
    by_day (Ok n) h q = let p = passes_all f m b (sym h) in (n, p, by_message p (read m Message x) refl q)

-- The limits of either version are within the gate's own.
pub capped_limits : (b : List ℕ) → capped (limits_of b) ≡ limits_of b
capped_limits b = go (is_second b)
  where
    go : (c : Bool) → capped (cond c gate_limits first_limits) ≡ cond c gate_limits first_limits
    go true = refl
    go false = refl
