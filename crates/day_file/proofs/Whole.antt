-- The file of accepted messages passes, and its messages are those. The idea: wherever the list of messages is cut, the table's entry there is the length of
-- what lies before.
use Prim.Native.Nat.{ℕ, zero, suc, ◌+◌, ◌-◌, ◌*◌, ◌^◌, ◌<◌, ◌≤◌, min}
use mathlib.Core.Path.{◌≡◌, refl, sym, ◌∙◌, ap}
use mathlib.Core.Bool.{Bool, true, false, not, ◌||◌, cond, true≢false}
use mathlib.Core.List.{List, [], ◌∷◌, ◌++◌, append-nil, append_assoc, Memᴰ}
use native.Mathlib.Omega.{arith}
use native.Mathlib.Numerals.{add-one}
use lib.ListN.{length, take, drop, get_or, length-append}
use lib.Seq.{take_at, drop_at, get_or_at}
use lib.Dec.{eqb, ltb}
use borrow.Author.Tests.{eqb-true, eq-eqb, ne_eqb, lt-ltb, le-ltb}
use Rattle.buffer.specs.Bytes.{be, value, load_at}
use Rattle.buffer.proofs.ByteLaws.{length_be, value_be, within_is}
use Rattle.buffer.proofs.Numbers.{load_there}
use Rattle.cbor.specs.Head.{get_head}
use Rattle.ari.specs.declared.Limits.{Limits}
use Rattle.ari.specs.declared.Input.TheVariants.{Message}
use Rattle.ari.specs.Reader.{counted, visit, take_step, judge_got, run, frame, first_slot, bottom, read}
use Rattle.day_file.specs.declared.Format.{Format}
use Rattle.day_file.specs.declared.Offsets.{Offsets}
use Rattle.day_file.specs.declared.Offsets.TheVariants.{Two, Four}
use Rattle.std.specs.declared.result.Result.TheVariants.{Ok}
use Rattle.day_file.specs.Day.{width, most_bytes, join, offsets, trailer, file_of, count_in, start_in, offset_in, end_in, message_in, messages_from, messages_in, trailer_stands, entry_stands, message_stands, is_accepted, first_not, check_day}

-- no accepted message is empty
pub some_bytes : (m : Limits) (x : List ℕ) → is_accepted (read m Message x) ≡ true → 0 < length x
unfolding read run visit take_step judge_got get_head
some_bytes m (y ∷ x) e = omega arith
some_bytes m [] e = absurd (none m.items (rw (le-ltb m.bytes 0 (omega arith)) at e))
  where
    none : (k : ℕ) → is_accepted (counted m.items (run k (frame (first_slot Message) 0 [] m.containers (bottom Message m.containers)) 0 [])) ≡ true → ⊥
    none zero q = true≢false (sym q)
    none (suc k) q = true≢false (sym q)

-- a number among bytes
load_at_lem : (w x : ℕ) (p q : List ℕ) (at : ℕ) → length p ≡ at → x < 256 ^ w → load_at w (p ++ (be w x ++ q)) at ≡ x
load_at_lem w x p q at e h =
    load_there w (p ++ (be w x ++ q)) at (omega (arith, length-append p (be w x ++ q), length-append (be w x) q, length_be w x))
    ∙ ap value (ap (take w) (drop_at p (be w x ++ q) at e) ∙ take_at (be w x) q w (length_be w x)) ∙ value_be w x h

join_split : (ys zs : List (List ℕ)) → join (ys ++ zs) ≡ join ys ++ join zs
join_split [] zs = refl
join_split (y ∷ ys) zs = ap (λ (l : List ℕ). y ++ l) (join_split ys zs) ∙ sym (append_assoc y (join ys) (join zs))

offsets_split : (w at : ℕ) (ys : List (List ℕ)) (x : List ℕ) (zs : List (List ℕ))
    → offsets w at (ys ++ (x ∷ zs)) ≡ offsets w at ys ++ (be w (at + length (join ys)) ++ offsets w (at + length (join ys) + length x) zs)
offsets_split w at [] x zs = let e : at + 0 ≡ at = omega arith in rw e
offsets_split w at (y ∷ ys) x zs =
    let e : at + length y + length (join ys) ≡ at + length (y ++ join ys) = omega (arith, length-append y (join ys)) in
    ap (λ (l : List ℕ). be w at ++ l) (offsets_split w (at + length y) ys x zs)
    ∙ sym (append_assoc (be w at) (offsets w (at + length y) ys) _) ∙ rw e

length_offsets : (w at : ℕ) (xs : List (List ℕ)) → length (offsets w at xs) ≡ w * length xs
length_offsets w at [] = omega arith
length_offsets w at (x ∷ xs) = omega (arith, length-append (be w at) (offsets w (at + length x) xs), length_be w at, length_offsets w (at + length x) xs)

length_trailer : (f : Format) (n s : ℕ) → length (trailer f n s) ≡ 8
length_trailer f n s = omega (arith, length-append (be 2 n) (be 4 s), length_be 2 n, length_be 4 s)

pub file_length : (f : Format) (xs : List (List ℕ)) → length (file_of f xs) ≡ length (join xs) + (width f * length xs + 8)
unfolding file_of
file_length f xs =
    let t = offsets (width f) 0 xs in
    let e = trailer f (length xs) (length (join xs)) in
    omega (arith, length-append (join xs) (t ++ e), length-append t e, length_offsets (width f) 0 xs, length_trailer f (length xs) (length (join xs)))

-- an offset of so many bytes holds every place of a file
places_fit : (f : Format) (x : ℕ) → x ≤ most_bytes f → x < 256 ^ width f
places_fit f x h = go f.offsets refl
  where
    go : (y : Offsets) → f.offsets ≡ y → x < 256 ^ width f
    go Four e = let k : x ≤ min f.bytes 4294967295 = rw e at h in rw e (omega arith)
    go Two e = let k : x ≤ min f.bytes 65535 = rw e at h in rw e (omega arith)

starts_fit : (f : Format) (x : ℕ) → x ≤ most_bytes f → x < 256 ^ 4
starts_fit f x h = go f.offsets refl
  where
    go : (y : Offsets) → f.offsets ≡ y → x < 256 ^ 4
    go Four e = let k : x ≤ min f.bytes 4294967295 = rw e at h in omega arith
    go Two e = let k : x ≤ min f.bytes 65535 = rw e at h in omega arith

-- where none fails
first_none : (p : ℕ → Bool) (j i : ℕ) → ((k : ℕ) → i ≤ k → k < i + j → p k ≡ true) → first_not p i j ≡ i + j
first_none p zero i h = omega arith
first_none p (suc j) i h =
    let e : i + suc j ≡ suc i + j = omega arith in
    rw (h i (omega arith) (omega arith), e) (first_none p j (suc i) (λ k l g. h k (omega arith) (omega arith)))

-- cut where one likes
pub record Cut (xs : List (List ℕ)) (k : ℕ) : Type 0 where
  pub before : List (List ℕ)
  pub here : List ℕ
  pub behind : List (List ℕ)
  pub whole : xs ≡ before ++ (here ∷ behind)
  pub number : length before ≡ k

pub cut : (xs : List (List ℕ)) (k : ℕ) → k < length xs → Cut xs k
cut [] k h = absurd (omega arith)
cut (x ∷ xs) zero h = record { before = []; here = x; behind = xs; whole = refl; number = refl }
cut (x ∷ xs) (suc k) h =
    let c = cut xs k (omega arith) in
    record { before = x ∷ c.before; here = c.here; behind = c.behind; whole = ap (λ (l : List (List ℕ)). x ∷ l) c.whole; number = ap suc c.number }

module _ (f : Format) (m : Limits) (xs : List (List ℕ)) (few : length xs ≤ 65535) (short : length (file_of f xs) ≤ most_bytes f) where
  abbrev b : List ℕ
  b = file_of f xs

  abbrev n : ℕ
  n = length xs

  abbrev st : ℕ
  st = length (join xs)

  abbrev w : ℕ
  w = width f

  abbrev table : List ℕ
  table = offsets w 0 xs

  abbrev end : List ℕ
  end = trailer f n st

  size : length b ≡ st + (w * n + 8)
  size = file_length f xs

  -- what stands before the trailer, before its count and before its start
  abbrev front : List ℕ
  front = join xs ++ table

  front_long : length front ≡ st + w * n
  front_long = omega (arith, length-append (join xs) table, length_offsets w 0 xs)

  by_trailer : b ≡ front ++ end
  unfolding file_of
  by_trailer = sym (append_assoc (join xs) table end)

  pub version_there : get_or b (length b - 8) 0 ≡ f.version
  version_there = let e : length front ≡ length b - 8 = omega (arith, size, front_long) in rw by_trailer (get_or_at front f.version (0 ∷ (be 2 n ++ be 4 st)) 0 (length (front ++ end) - 8) (e ∙ rw by_trailer))

  pub zero_there : get_or b (length b - 7) 0 ≡ 0
  zero_there =
      let e : length (front ++ (f.version ∷ [])) ≡ length b - 7 = omega (arith, size, front_long, length-append front (f.version ∷ [])) in
      let q : b ≡ (front ++ (f.version ∷ [])) ++ (0 ∷ (be 2 n ++ be 4 st)) = by_trailer ∙ sym (append_assoc front (f.version ∷ []) (0 ∷ (be 2 n ++ be 4 st))) in
      ap (λ (l : List ℕ). get_or l (length b - 7) 0) q ∙ get_or_at (front ++ (f.version ∷ [])) 0 (be 2 n ++ be 4 st) 0 (length b - 7) e

  pub count_there : count_in b ≡ n
  count_there =
      let p : List ℕ = front ++ (f.version ∷ 0 ∷ []) in
      let e : length p ≡ length b - 6 = omega (arith, size, front_long, length-append front (f.version ∷ 0 ∷ [])) in
      let q : b ≡ p ++ (be 2 n ++ be 4 st) = by_trailer ∙ sym (append_assoc front (f.version ∷ 0 ∷ []) (be 2 n ++ be 4 st)) in
      ap (λ (l : List ℕ). load_at 2 l (length b - 6)) q ∙ load_at_lem 2 n p (be 4 st) (length b - 6) e (omega arith)

  pub start_there : start_in b ≡ st
  start_there =
      let p : List ℕ = front ++ (f.version ∷ 0 ∷ be 2 n) in
      let e : length p ≡ length b - 4 = omega (arith, size, front_long, length-append front (f.version ∷ 0 ∷ be 2 n), length_be 2 n) in
      let q : b ≡ p ++ (be 4 st ++ []) = by_trailer ∙ ap (λ (l : List ℕ). front ++ (f.version ∷ 0 ∷ (be 2 n ++ l))) (sym (append-nil (be 4 st))) ∙ sym (append_assoc front (f.version ∷ 0 ∷ be 2 n) (be 4 st ++ [])) in
      ap (λ (l : List ℕ). load_at 4 l (length b - 4)) q ∙ load_at_lem 4 st p [] (length b - 4) e (starts_fit f st (omega (arith, size)))

  pub trailer_there : trailer_stands f b ≡ true
  unfolding trailer_stands
  trailer_there =
      rw (
        within_is 8 (most_bytes f) (length b) (omega (arith, size)) short,
        eq-eqb _ _ version_there,
        eq-eqb _ _ zero_there,
        count_there,
        start_there,
        eq-eqb (st + (w * n + 8)) (length b) (sym size),
      )
      (go (eqb n 0) refl)
    where
      none : (ys : List (List ℕ)) → length ys ≡ 0 → length (join ys) ≡ 0
      none [] e = refl
      none (y ∷ ys) e = absurd (omega arith)

      go : (x : Bool) → eqb n 0 ≡ x → not x || eqb st 0 ≡ true
      go false e = refl
      go true e = eq-eqb st 0 (none xs (eqb-true n 0 e))

  -- at a cut
  module _ (ys : List (List ℕ)) (x : List ℕ) (zs : List (List ℕ)) (e : xs ≡ ys ++ (x ∷ zs)) where
    abbrev at : ℕ
    at = length (join ys)

    joined : join xs ≡ join ys ++ (x ++ join zs)
    joined = ap join e ∙ join_split ys (x ∷ zs)

    inside : at + length x ≤ st
    inside = omega (arith, ap length joined, length-append (join ys) (x ++ join zs), length-append x (join zs))

    pub offset_of : offset_in f b (length ys) ≡ at
    unfolding offset_in file_of
    offset_of =
        let rest : List ℕ = offsets w (0 + at + length x) zs in
        let q : b ≡ (join xs ++ offsets w 0 ys) ++ (be w at ++ (rest ++ end)) =
        ap (λ (l : List ℕ). join xs ++ (l ++ end)) (ap (offsets w 0) e ∙ offsets_split w 0 ys x zs)
        ∙ ap (λ (l : List ℕ). join xs ++ l) (append_assoc (offsets w 0 ys) (be w (0 + at) ++ rest) end ∙ ap (λ (l : List ℕ). offsets w 0 ys ++ l) (append_assoc (be w (0 + at)) rest end))
        ∙ sym (append_assoc (join xs) (offsets w 0 ys) (be w (0 + at) ++ (rest ++ end))) ∙ (let z : 0 + at ≡ at = omega arith in rw z) in
        let long : length (join xs ++ offsets w 0 ys) ≡ start_in b + w * length ys = omega (arith, length-append (join xs) (offsets w 0 ys), length_offsets w 0 ys, start_there) in
        ap (λ (l : List ℕ). load_at w l (start_in b + w * length ys)) q
        ∙ load_at_lem w at (join xs ++ offsets w 0 ys) (rest ++ end) (start_in b + w * length ys) long (places_fit f at (omega (arith, inside, size)))

  module _ (ys : List (List ℕ)) (x : List ℕ) (zs : List (List ℕ)) (e : xs ≡ ys ++ (x ∷ zs)) where
    pub end_there : end_in f b (length ys) ≡ length (join ys) + length x
    unfolding end_in
    end_there = go zs e
      where
        count : (zs : List (List ℕ)) → xs ≡ ys ++ (x ∷ zs) → n ≡ length ys + suc (length zs)
        count zs q = ap length q ∙ length-append ys (x ∷ zs)

        last : xs ≡ ys ++ (x ∷ []) → st ≡ length (join ys) + length x
        last q = ap (λ (l : List (List ℕ)). length (join l)) q ∙ ap length (join_split ys (x ∷ [])) ∙ length-append (join ys) (x ++ []) ∙ ap (λ (l : List ℕ). length (join ys) + length l) (append-nil x)

        go : (zs : List (List ℕ)) → xs ≡ ys ++ (x ∷ zs) → cond (ltb (length ys + 1) (count_in b)) (offset_in f b (length ys + 1)) (start_in b) ≡ length (join ys) + length x
        go [] q = rw (count_there, le-ltb (length ys + 1) n (omega (arith, count [] q)), start_there) (last q)
        go (z ∷ zs) q =
            let more : xs ≡ (ys ++ (x ∷ [])) ++ (z ∷ zs) = q ∙ sym (append_assoc ys (x ∷ []) (z ∷ zs)) in
            let k : length ys + 1 ≡ length (ys ++ (x ∷ [])) = sym (length-append ys (x ∷ [])) in
            let size_now : length (join (ys ++ (x ∷ []))) ≡ length (join ys) + length x =
            ap length (join_split ys (x ∷ [])) ∙ length-append (join ys) (x ++ []) ∙ ap (λ (l : List ℕ). length (join ys) + length l) (append-nil x) in
            rw (count_there, lt-ltb (length ys + 1) n (omega (arith, count (z ∷ zs) q))) (ap (offset_in f b) k ∙ offset_of (ys ++ (x ∷ [])) z zs more ∙ size_now)

    pub message_there : message_in f b (length ys) ≡ x
    unfolding message_in file_of
    message_there =
        let q : b ≡ join ys ++ (x ++ (join zs ++ (table ++ end))) =
        ap (λ (l : List ℕ). l ++ (table ++ end)) (joined ys x zs e) ∙ append_assoc (join ys) (x ++ join zs) (table ++ end) ∙ ap (λ (l : List ℕ). join ys ++ l) (append_assoc x (join zs) (table ++ end)) in
        let d : length (join ys) + length x - length (join ys) ≡ length x = omega arith in
        rw (offset_of ys x zs e, end_there, d) (ap (λ (l : List ℕ). take (length x) (drop (length (join ys)) l)) q ∙ ap (take (length x)) (drop_at (join ys) (x ++ (join zs ++ (table ++ end))) (length (join ys)) refl) ∙ take_at x (join zs ++ (table ++ end)) (length x) refl)

  end_is_next : (k : ℕ) → suc k < n → end_in f b k ≡ offset_in f b (suc k)
  unfolding end_in
  end_is_next k h = rw (add-one k, count_there, lt-ltb (suc k) n h)

  -- the messages of the file are those that were put
  from_cut : (zs ys : List (List ℕ)) → xs ≡ ys ++ zs → messages_from f b (length ys) (length zs) ≡ zs
  from_cut [] ys e = refl
  from_cut (z ∷ zs) ys e =
      let more : xs ≡ (ys ++ (z ∷ [])) ++ zs = e ∙ sym (append_assoc ys (z ∷ []) zs) in
      let k : suc (length ys) ≡ length (ys ++ (z ∷ [])) = omega (arith, length-append ys (z ∷ [])) in
      ap (λ (l : List ℕ). l ∷ messages_from f b (suc (length ys)) (length zs)) (message_there ys z zs e)
      ∙ ap (λ (l : List (List ℕ)). z ∷ l) (ap (λ (i : ℕ). messages_from f b i (length zs)) k ∙ from_cut zs (ys ++ (z ∷ [])) more)

  pub messages_there : messages_in f b ≡ xs
  messages_there = ap (messages_from f b 0) count_there ∙ from_cut xs [] refl

  -- every entry stands, every message is there
  module _ (ok : (x : List ℕ) → Memᴰ x xs → is_accepted (read m Message x) ≡ true) where
    among : (ys : List (List ℕ)) (x : List ℕ) (zs : List (List ℕ)) → Memᴰ x (ys ++ (x ∷ zs))
    among [] x zs = Memᴰ.head refl
    among (y ∷ ys) x zs = Memᴰ.tail (among ys x zs)

    accepted_at : {k : ℕ} (c : Cut xs k) → is_accepted (read m Message c.here) ≡ true
    accepted_at c = ok c.here (rw c.whole (among c.before c.here c.behind))

    entry_there : (k : ℕ) → k < n → entry_stands f b k ≡ true
    unfolding entry_stands
    entry_there zero h =
        let c = cut xs 0 h in
        let some = some_bytes m c.here (accepted_at c) in
        let first : offset_in f b 0 ≡ 0 = go c.before c.number (offset_of c.before c.here c.behind c.whole) in
        let below : 0 < start_in b = omega (arith, start_there, inside c.before c.here c.behind c.whole) in
        rw (first, lt-ltb 0 (start_in b) below)
      where
        go : (ys : List (List ℕ)) → length ys ≡ 0 → offset_in f b (length ys) ≡ length (join ys) → offset_in f b 0 ≡ 0
        go [] e q = q
        go (y ∷ ys) e q = absurd (omega arith)
    entry_there (suc k) h =
        let c = cut xs k (omega arith) in
        let d = cut xs (suc k) h in
        let some = some_bytes m c.here (accepted_at c) in
        let more = some_bytes m d.here (accepted_at d) in
        let here : offset_in f b k ≡ length (join c.before) = rw c.number at (offset_of c.before c.here c.behind c.whole) in
        let next : offset_in f b (suc k) ≡ length (join d.before) = rw d.number at (offset_of d.before d.here d.behind d.whole) in
        let ends : end_in f b k ≡ length (join c.before) + length c.here = rw c.number at (end_there c.before c.here c.behind c.whole) in
        let same_place : end_in f b k ≡ offset_in f b (suc k) = end_is_next k h in
        let e : suc k - 1 ≡ k = omega arith in
        rw (ne_eqb (suc k) 0 (λ z. omega arith), e, lt-ltb (offset_in f b k) (offset_in f b (suc k)) (omega arith), lt-ltb (offset_in f b (suc k)) (start_in b) (omega (arith, start_there, inside d.before d.here d.behind d.whole)))

    stands_there : (k : ℕ) → k < n → message_stands f m b k ≡ true
    unfolding message_stands
    stands_there k h =
        let c = cut xs k h in
        let here : message_in f b k ≡ c.here = rw c.number at (message_there c.before c.here c.behind c.whole) in
        rw here (accepted_at c)

    pub file_passes : check_day f m b ≡ Ok n
    unfolding check_day
    file_passes =
        let entries : first_not (entry_stands f b) 0 n ≡ 0 + n = first_none (entry_stands f b) n 0 (λ k l g. entry_there k (omega arith)) in
        let messages : first_not (message_stands f m b) 0 n ≡ 0 + n = first_none (message_stands f m b) n 0 (λ k l g. stands_there k (omega arith)) in
        rw (trailer_there, count_there, entries, messages, le-ltb (0 + n) n (omega arith))
