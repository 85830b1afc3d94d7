-- The search of a file that passes. The idea: each of its messages is accepted, so what is found message by message is what the definition finds.
use Prim.Native.Nat.{ℕ, zero, suc, ◌+◌, ◌-◌, ◌*◌, ◌/◌, ◌<◌, ◌≤◌}
use mathlib.Core.Path.{◌≡◌, refl, sym, ◌∙◌, ap}
use mathlib.Core.Bool.{Bool, true, false, cond, true≢false}
use mathlib.Core.List.{List, [], ◌∷◌, ◌++◌}
use native.Mathlib.Omega.{arith}
use lib.ListN.{length, drop, get_or, length-append, length-map}
use lib.Seq.{sets-eq, length-take-le}
use mir.Syntax.{w8}
use mir.Val.{Fits}
use borrow.Author.Tests.{le-leb, le-ltb, lt-ltb}
use Rattle.buffer.specs.Bytes.{all, is_byte}
use Rattle.buffer.proofs.ByteLaws.{all_bytes, all_take, all_drop}
use Rattle.ari.specs.declared.Limits.{Limits}
use Rattle.ari.specs.declared.Input.TheVariants.{Message}
use Rattle.ari.specs.Reader.{Answer, accept, refuse, read}
use Rattle.ari.specs.Listing.{Entry, listing}
use Rattle.ari.specs.Decode.{decode}
use Rattle.ari.specs.Rules.{Is}
use Rattle.ari.proofs.Demand.{demand_two}
use Rattle.ari.proofs.ListingBound.{at_most_half}
use Rattle.item_table.proofs.Entries.{fewer_than_bytes}
use Rattle.names.specs.declared.Names.{Names}
use Rattle.names.specs.declared.Names.TheVariants as lists
use Rattle.names.specs.Names.{check_names}
use Rattle.names.specs.Translated.{translate, translated}
use Rattle.day_file.specs.declared.Format.{Format}
use Rattle.std.specs.declared.result.Result.{Result}
use Rattle.std.specs.declared.result.Result.TheVariants.{Ok, Err}
use Rattle.ari.specs.declared.Refusal.{Refusal}
use Rattle.ari.specs.Refusals.{refused}
use Rattle.day_file.specs.Day.{join, count_in, start_in, offset_in, end_in, message_in, messages_from, first_at, message_at, message_stands, is_accepted, check_day}
use Rattle.day_file.proofs.Files.{trailer_says, messages_joined}
use Rattle.day_file.proofs.Adding.{Passes, passes_all}
use Rattle.day_file.proofs.Days.{count_small}
use Rattle.day_search.specs.Search.{Hit, is_word, hits_in, hits_from, hits, hits_bytes, search_day, room_after}
use Rattle.day_search.specs.Tally.{hits_by, hits_within, hits_over, Finds, found_or}
use Rattle.day_search.proofs.Finding.{length_hits}

module _ (f : Format) (m : Limits) (b published own : List ℕ) (w : ℕ) where
  -- of a file that passes
  module _ {c : ℕ} (p : Passes f m b c) where
    there : (k : ℕ) → k < count_in b → count_in b < 65536 → (message_at f b k ≡ message_in f b k) × (first_at f b k ≡ offset_in f b k)
    unfolding message_at first_at
    there k h l =
        let long = (trailer_says f b p.trailer_stands_lem).long in
        (rw (le-leb 8 (length b) long, le-leb k 65535 (omega arith)), rw (le-leb 8 (length b) long, le-leb k 65535 (omega arith)))

    accepted_at : (k : ℕ) → k < count_in b → (n : ℕ) × (read m Message (message_in f b k) ≡ accept n)
    unfolding message_stands
    accepted_at k h = go (read m Message (message_in f b k)) refl (p.messages k h)
      where
        go : (a : Answer) → read m Message (message_in f b k) ≡ a → is_accepted a ≡ true → (n : ℕ) × (read m Message (message_in f b k) ≡ accept n)
        go (accept n) e q = (n, e)
        go (refuse r i) e q = absurd (true≢false (sym q))

    found : count_in b < 65536 → (n k : ℕ) → k + n ≡ count_in b → hits_over f m b published own w k n ≡ hits_from f b published own w k n
    unfolding hits_within
    found l zero k e = refl
    found l (suc n) k e =
        let (mes, fst) = there k (omega arith) l in
        let (i, acc) = accepted_at k (omega arith) in
        rw (mes, fst, acc) (ap (λ (hs : List Hit). hits_in w k (offset_in f b k) (translated published own (message_in f b k)) ++ hs) (found l n (suc k) (omega arith)))

message_bytes : (f : Format) (b : List ℕ) → all is_byte b ≡ true → (k : ℕ) → all is_byte (message_in f b k) ≡ true
unfolding message_in
message_bytes f b bytes k = all_take is_byte (end_in f b k - offset_in f b k) (drop (offset_in f b k) b) (all_drop is_byte (offset_in f b k) b bytes)

-- No more than half as many as bytes: a reference takes two items at the least, and an item a byte.
module _ (f : Format) (m : Limits) (b published own : List ℕ) (w : ℕ) where
  no_more : (k at : ℕ) (es : List Entry) → length (hits_in w k at es) ≤ length es
  no_more k at [] = omega arith
  no_more k at (e ∷ es) = go (is_word w e.space) (no_more k at es)
    where
      go : (x : Bool) → length (hits_in w k at es) ≤ length es → length (cond x (record { message = k; first = at + e.first; after = at + e.after } ∷ hits_in w k at es) (hits_in w k at es)) ≤ suc (length es)
      go true h = omega arith
      go false h = omega arith

  half : (k at : ℕ) (x : List ℕ) → all is_byte x ≡ true → 2 * length (hits_within m published own w k at x) ≤ length x
  unfolding hits_within
  half k at x bytes = go (read m Message x) refl
    where
      go : (a : Answer) → read m Message x ≡ a → 2 * length (hits_by a w k at (translated published own x)) ≤ length x
      go (refuse r p) e = omega arith
      go (accept n) e =
          let c : Is m Message x (decode x) n = (demand_two m Message x n bytes).0 e in
          omega (arith, no_more k at (translated published own x), length-map (listing x) (translate published own), at_most_half c, fewer_than_bytes c)

  module _ (bytes : all is_byte b ≡ true) {c : ℕ} (p : Passes f m b c) (small : count_in b < 65536) where
    half_from : (n k : ℕ) → k + n ≡ count_in b → 2 * length (hits_over f m b published own w k n) ≤ length (join (messages_from f b k n))
    half_from zero k e = omega arith
    half_from (suc n) k e =
        let (mes, fst) = there f m b published own w p k (omega arith) small in
        rw mes
        (omega (
          arith,
          half k (first_at f b k) (message_in f b k) (part_bytes k),
          half_from n (suc k) (omega arith),
          length-append (message_in f b k) (join (messages_from f b (suc k) n)),
          length-append (hits_within m published own w k (first_at f b k) (message_in f b k)) (hits_over f m b published own w (suc k) n),
        ))
      where
        part_bytes : (k : ℕ) → all is_byte (message_in f b k) ≡ true
        part_bytes k = message_bytes f b bytes k

    pub half_as_many : 2 * length (hits_over f m b published own w 0 (count_in b)) ≤ length b
    half_as_many =
        let joined = messages_joined f b bytes p.trailer_stands_lem p.entries in
        omega (arith, half_from (count_in b) 0 (omega arith), ap length joined, length-take-le (start_in b) b (omega (arith, (trailer_says f b p.trailer_stands_lem).sum)), (trailer_says f b p.trailer_stands_lem).sum)

-- the room
module _ (f : Format) (m : Limits) (b published own : List ℕ) (w n : ℕ) (o : List ℕ) where
  abbrev hs : List Hit
  hs = hits_over f m b published own w 0 n

  module _ {e e' : List ℕ} {d : ℕ} (p : Finds e e' 0 d hs) where
    pub too_many : length o / 24 < d → refused 16 d ≡ found_or (length hs) (length o / 24)
    too_many h = let e : length hs ≡ d = omega (arith, p.count) in sym (rw (e, lt-ltb (length o / 24) d h))

    pub counted_room : d ≤ length o / 24 → length hs ≤ length o / 24
    counted_room h = omega (arith, p.count)

  pub sure_room : ((i : ℕ) → Fits w8 (get_or b i 0)) → Ok n ≡ check_day f m b → length b / 2 ≤ length o / 24 → length hs ≤ length o / 24
  sure_room bytes e h =
      let p = passes_all f m b e in
      let small = count_small f m b (all_bytes b bytes) p in
      let same_count : length hs ≡ length (hits_over f m b published own w 0 (count_in b)) = ap (λ (i : ℕ). length (hits_over f m b published own w 0 i)) p.count in
      omega (arith, half_as_many f m b published own w (all_bytes b bytes) p small)

  module _ (h : length hs ≤ length o / 24) {o' : List ℕ} {r : ℕ} (p : Finds o o' 0 r hs) where
    pub enough : Ok r ≡ found_or (length hs) (length o / 24)
    enough = let e : r ≡ length hs = omega (arith, p.count) in rw e (sym (rw (le-ltb (length o / 24) (length hs) h)))

    pub filled_with : o' ≡ room_after (Ok r) hs o
    filled_with =
        let long = length_hits hs in
        let z : 0 + length (hits_bytes hs) ≡ 24 * r = omega (arith, p.count) in
        p.bytes ∙ sets-eq (hits_bytes hs) o 0 (omega arith) ∙ ap (λ (i : ℕ). hits_bytes hs ++ drop i o) z

pub ruleset rooms = (too_many, counted_room, sure_room, enough, filled_with)

-- the whole
module _ (f : Format) (m : Limits) (b published own : List ℕ) (w room : ℕ) {d : Result ℕ Refusal} (e : d ≡ check_day f m b) where
  pub search_refused : {i : Refusal} → d ≡ Err i → Err i ≡ search_day f m b published own w room
  unfolding search_day
  search_refused g = sym (rw (← e, g))

  module _ {n : ℕ} (g : d ≡ Ok n) where
    abbrev passes : Passes f m b n
    passes = passes_all f m b (sym g ∙ e)

    pub passes_so : Ok n ≡ check_day f m b
    passes_so = sym g ∙ e

    pub few_messages : ((i : ℕ) → Fits w8 (get_or b i 0)) → n < 65536
    few_messages bytes = omega (arith, passes.count, count_small f m b (all_bytes b bytes) passes)

    all_found : ((i : ℕ) → Fits w8 (get_or b i 0)) → hits_over f m b published own w 0 n ≡ hits f b published own w
    unfolding hits
    all_found bytes = ap (hits_over f m b published own w 0) passes.count ∙ found f m b published own w passes (count_small f m b (all_bytes b bytes) passes) (count_in b) 0 (omega arith)

    module _ {c : Names} (h : c ≡ check_names published own) where
      pub search_wrong_list : {p : ℕ} → c ≡ lists.Refused p → refused 19 p ≡ search_day f m b published own w room
      unfolding search_day
      search_wrong_list i = sym (rw (← e, g, ← h, i))

      pub search_done : c ≡ lists.Passes → ((i : ℕ) → Fits w8 (get_or b i 0)) → {r : Result ℕ Refusal} → r ≡ found_or (length (hits_over f m b published own w 0 n)) room → r ≡ search_day f m b published own w room
      unfolding search_day
      search_done i bytes q = q ∙ sym (rw (← e, g, ← h, i, ← all_found bytes))

    pub search_room : ((i : ℕ) → Fits w8 (get_or b i 0)) → (r : Result ℕ Refusal) (o : List ℕ) {o' : List ℕ} → o' ≡ room_after r (hits_over f m b published own w 0 n) o → o' ≡ room_after r (hits f b published own w) o
    search_room bytes r o q = rw (← all_found bytes) q

pub ruleset searches = (search_refused, passes_so, few_messages, search_wrong_list, search_done, search_room)
