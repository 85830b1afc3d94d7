-- What listed namespaces stand for, as the code has them and as bytes. The idea: a listed name is the string at its place, so the number of that string's line
-- is the number that the name stands for.
use Prim.Native.Nat.{ℕ, zero, suc, ◌+◌, ◌-◌, ◌*◌, ◌/◌, ◌^◌, ◌<◌, ◌≤◌, min}
use mathlib.Core.Path.{◌≡◌, refl, sym, ◌∙◌, ap}
use mathlib.Core.Bool.{Bool, true, false, cond}
use mathlib.Core.List.{List, [], ◌∷◌, ◌++◌, append_assoc, map, Memᴰ}
use native.Mathlib.Omega.{arith}
use native.Mathlib.Numerals.{add-one}
use lib.ListN.{length, drop, take, length-append, length-map}
use lib.Seq.{sets, sets-eq, drop_at, take_at, drop-drop}
use borrow.Author.Tests.{le-leb, eq-eqb, ne_eqb}
use Rattle.buffer.specs.Bytes.{be, load_at, store_at}
use Rattle.buffer.specs.Runs.{past}
use Rattle.std.specs.declared.option.Option.{Option}
use Rattle.std.specs.declared.option.Option.TheVariants.{Some, None}
use Rattle.buffer.proofs.ByteLaws.{length_be}
use Rattle.buffer.proofs.DecimalLaws.{Most, signed_most}
use Rattle.ari.specs.Signed.{word, signed}
use Rattle.ari.specs.Listing.{Space, number, name, relative, Entry, listing}
use Rattle.ari.proofs.Named.{InRange}
use Rattle.ari.proofs.SignedLaws.{word_signed, signed_in_range}
use Rattle.listing.specs.declared.Namespace.{Namespace}
use Rattle.listing.specs.declared.Namespace.TheVariants as code
use Rattle.listing.specs.Bytes.{kind_of, word_of, entry_bytes, listing_bytes}
use Rattle.listing.specs.Entries.{space_code, string_in, NameStands}
use Rattle.listing.proofs.EntryBytes.{end_bytes, length_ends, length_entry, length_listing, kind_there, word_there}
use Rattle.names.specs.Names.{is_own, in_name, number_of, find_line, number_for}
use Rattle.names.specs.Translated.{numbered, stands_for, translate, translated, numbered_code, stands_by, name_kind, renumbered, entry_translated, entries_translated}

-- with no lists each stands for itself
no_line : (x : Space) → stands_for [] [] x ≡ x
unfolding number_for find_line number_of past
no_line (number z) = refl
no_line relative = refl
no_line (name p n) = go (is_own n)
  where
    go : (t : Bool) → numbered (number_of (cond t [] [])) (name p n) ≡ name p n
    go true = refl
    go false = refl

no_lines : (es : List Entry) → map (translate [] []) es ≡ es
no_lines [] = refl
no_lines (e ∷ es) = rw (no_line e.space, no_lines es)

pub no_lists : (b : List ℕ) → translated [] [] b ≡ listing b
no_lists b = no_lines (listing b)

module _ (published own : List ℕ) where
  number_most : (n : List ℕ) → Most (number_for published own n)
  unfolding number_for number_of
  number_most n = signed_most (drop 1 (past in_name (find_line published own n)))

  -- what it stands for is in range as it is
  pub stands_in_range : (x : Space) → InRange x → InRange (stands_for published own x)
  stands_in_range (number z) h = h
  stands_in_range relative h = h
  stands_in_range (name p n) h = go (number_for published own n) (number_most n)
    where
      go : (v : Option ℕ) → Most v → InRange (numbered v (name p n))
      go (Some w) m = signed_in_range w (omega arith)
      go None m = tt

  -- as the code has it
  pub stands_code : (b : List ℕ) (x : Space) → NameStands b x → stands_by published own b (space_code x) ≡ space_code (stands_for published own x)
  stands_code b (number z) h = refl
  stands_code b relative h = refl
  stands_code b (name p n) h = rw h.1 (go (number_for published own n) (number_most n))
    where
      go : (v : Option ℕ) → Most v → numbered_code v (space_code (name p n)) ≡ space_code (numbered v (name p n))
      go (Some w) m = rw (word_signed w (omega arith))
      go None m = refl

-- the ways of `stands_for`
module _ (published own b : List ℕ) {x : Namespace} where
  pub for_number : {w : ℕ} → x ≡ code.Number w → code.Number w ≡ stands_by published own b x
  for_number e = rw e

  pub for_relative : x ≡ code.Relative → code.Relative ≡ stands_by published own b x
  for_relative e = rw e

  module _ {p l : ℕ} (e : x ≡ code.Name p l) {n : List ℕ} (h : n ≡ string_in b p) {v : Option ℕ} (f : v ≡ number_for published own n) where
    pub for_known : {w : ℕ} → v ≡ Some w → code.Number w ≡ stands_by published own b x
    for_known g = rw (e, ← h, ← f, g)

    pub for_unknown : v ≡ None → code.Name p l ≡ stands_by published own b x
    for_unknown g = rw (e, ← h, ← f, g)

pub ruleset stands = (for_number, for_relative, for_known, for_unknown)

-- the ways of an entry's translation
module _ (x : List ℕ) (at : ℕ) {v : Option ℕ} where
  pub renumbered_known : {w : ℕ} → v ≡ Some w → {y : List ℕ} → y ≡ store_at 8 x (at + 8) 0 → {z : List ℕ} → z ≡ store_at 8 y (at + 16) w → z ≡ renumbered v x at
  renumbered_known e f g = g ∙ rw (f, e)

  pub renumbered_unknown : v ≡ None → x ≡ renumbered v x at
  renumbered_unknown e = rw e

module _ (published own b x : List ℕ) (at : ℕ) {k : ℕ} (e : k ≡ load_at 8 x (at + 8)) where
  pub entry_named : k ≡ name_kind → {p : ℕ} → p ≡ load_at 8 x (at + 16) → {n : List ℕ} → n ≡ string_in b p → {v : Option ℕ} → v ≡ number_for published own n → {y : List ℕ} → y ≡ renumbered v x at
      → y ≡ entry_translated published own b x at
  unfolding entry_translated
  entry_named h f i g q = q ∙ rw (← e, eq-eqb k name_kind h, ← f, ← i, g)

  pub entry_unnamed : (k ≡ name_kind → ⊥) → x ≡ entry_translated published own b x at
  unfolding entry_translated
  entry_unnamed h = rw (← e, ne_eqb k name_kind h)

-- what is left from entry i on gives the whole
pub record Going (published own b x₀ : List ℕ) (n i : ℕ) (x : List ℕ) : Type 0 where
  pub on : entries_translated published own b 0 n x₀ ≡ entries_translated published own b i (n - i) x
  pub room : length x ≡ length x₀

module _ (published own b x₀ : List ℕ) (n : ℕ) where
  pub going_start : Going published own b x₀ n 0 x₀
  going_start = let e : n - 0 ≡ n = omega arith in record { on = rw e; room = refl }

  module _ {i : ℕ} {x : List ℕ} (g : Going published own b x₀ n i x) where
    pub going_next : i < n → {y : List ℕ} → y ≡ entry_translated published own b x (24 * i) → length y ≡ length x → Going published own b x₀ n (i + 1) y
    going_next h f l =
        let e : n - i ≡ suc (n - (i + 1)) = omega arith in
        record { on = g.on ∙ rw (e, f, add-one); room = l ∙ g.room }

    pub going_end : n ≤ i → i ≤ n → {many : ℕ} → n ≡ many → x ≡ entries_translated published own b 0 many x₀
    going_end h k f =
        let e : n - i ≡ 0 = omega arith in
        let q : entries_translated published own b 0 n x₀ ≡ x = g.on ∙ rw e in
        rw (← f) (sym q)

pub ruleset translations = (renumbered_known, renumbered_unknown, entry_named, entry_unnamed, going_start, going_next, going_end)

-- The bytes of a listing, translated, are those of the translated listing. A number in the place of 8 bytes:
store_there : (a u c : List ℕ) (at n : ℕ) → length a ≡ at → length u ≡ 8 → store_at 8 (a ++ (u ++ c)) at n ≡ a ++ (be 8 n ++ c)
unfolding store_at
store_there a u c at n l m =
    let room : at + 8 ≤ length (a ++ (u ++ c)) = omega (arith, length-append a (u ++ c), length-append u c) in
    let front : take at (a ++ (u ++ c)) ≡ a = take_at a (u ++ c) at l in
    let behind : drop (at + 8) (a ++ (u ++ c)) ≡ c = sym (drop-drop 8 at (a ++ (u ++ c))) ∙ ap (drop 8) (drop_at a (u ++ c) at l) ∙ drop_at u c 8 m in
    rw (le-leb (at + 8) (length (a ++ (u ++ c))) room)
    (sets-eq (be 8 n) (a ++ (u ++ c)) at (omega (arith, length_be 8 n)) ∙ rw (length_be 8 n, front, behind) (append_assoc a (be 8 n) c))

-- an entry, with what stands in front of it and behind,
module _ (published own b a : List ℕ) (e : Entry) (c : List ℕ) where
  abbrev with_space : Space → Entry
  with_space s = record { first = e.first; after = e.after; space = s }

  abbrev room_with : Space → List ℕ
  room_with s = a ++ (entry_bytes (with_space s) ++ c)

  there : (s : Space) → drop (length a) (room_with s) ≡ entry_bytes (with_space s) ++ c
  there s = drop_at a (entry_bytes (with_space s) ++ c) (length a) refl

  apart : (s : Space) → room_with s ≡ (a ++ end_bytes e) ++ (be 8 (kind_of s) ++ (be 8 (word_of s) ++ c))
  apart s = simp append_assoc

  apart_word : (s : Space) (k : ℕ) → (a ++ end_bytes e) ++ (be 8 k ++ (be 8 (word_of s) ++ c)) ≡ ((a ++ end_bytes e) ++ be 8 k) ++ (be 8 (word_of s) ++ c)
  apart_word s k = simp append_assoc

  long : length (a ++ end_bytes e) ≡ length a + 8
  long = length-append a (end_bytes e) ∙ rw (length_ends e)

  stored : (s : Space) (w : ℕ) → w < 2 ^ 64 → store_at 8 (store_at 8 (room_with s) (length a + 8) 0) (length a + 16) w ≡ room_with (number (signed w))
  stored s w h =
      ap (λ (x : List ℕ). store_at 8 x (length a + 16) w)
      (ap (λ (x : List ℕ). store_at 8 x (length a + 8) 0) (apart s)
      ∙ store_there (a ++ end_bytes e) (be 8 (kind_of s)) (be 8 (word_of s) ++ c) (length a + 8) 0 long (length_be 8 (kind_of s)) ∙ apart_word s 0)
      ∙ store_there ((a ++ end_bytes e) ++ be 8 0) (be 8 (word_of s)) c (length a + 16) w
      (omega (arith, length-append (a ++ end_bytes e) (be 8 0), long, length_be 8 0)) (length_be 8 (word_of s))
      ∙ sym (apart (number (signed w)) ∙ apart_word (number (signed w)) 0 ∙ rw (word_signed w h))

  by_number : (s : Space) (v : Option ℕ) → Most v → renumbered v (room_with s) (length a) ≡ room_with (numbered v s)
  by_number s (Some w) m = stored s w (omega arith)
  by_number s None m = refl

  by_space : (s : Space) → NameStands b s → length b < 2 ^ 64 → entry_translated published own b (room_with s) (length a) ≡ room_with (stands_for published own s)
  unfolding entry_translated
  by_space (number z) h short = rw (kind_there (room_with (number z)) (length a) (with_space (number z)) c (there (number z)))
  by_space relative h short = rw (kind_there (room_with relative) (length a) (with_space relative) c (there relative))
  by_space (name p n) h short =
      rw (
        kind_there (room_with (name p n)) (length a) (with_space (name p n)) c (there (name p n)),
        word_there (room_with (name p n)) (length a) (with_space (name p n)) c (there (name p n)) (omega (arith, h.0)),
        h.1,
      )
      (by_number (name p n) (number_for published own n) (number_most published own n))

-- and entries one behind the other
translates : (published own b a : List ℕ) (i : ℕ) (es : List Entry) (c : List ℕ) → length a ≡ 24 * i → ((e : Entry) → Memᴰ e es → NameStands b e.space) → length b < 2 ^ 64
    → entries_translated published own b i (length es) (a ++ (listing_bytes es ++ c)) ≡ a ++ (listing_bytes (map (translate published own) es) ++ c)
translates published own b a i [] c l h short = refl
translates published own b a i (e ∷ es) c l h short =
    let d = translate published own e in
    let long : length (a ++ entry_bytes d) ≡ 24 * suc i = omega (arith, length-append a (entry_bytes d), length_entry d) in
    let step : entry_translated published own b (a ++ (listing_bytes (e ∷ es) ++ c)) (24 * i) ≡ (a ++ entry_bytes d) ++ (listing_bytes es ++ c) =
    ap (λ (x : List ℕ). entry_translated published own b (a ++ x) (24 * i)) (append_assoc (entry_bytes e) (listing_bytes es) c)
    ∙ ap (entry_translated published own b (a ++ (entry_bytes e ++ (listing_bytes es ++ c)))) (sym l)
    ∙ by_space published own b a e (listing_bytes es ++ c) e.space (h e (Memᴰ.head refl)) short
    ∙ sym (append_assoc a (entry_bytes d) (listing_bytes es ++ c)) in
    let joined : (a ++ entry_bytes d) ++ (listing_bytes (map (translate published own) es) ++ c) ≡ a ++ (listing_bytes (map (translate published own) (e ∷ es)) ++ c) =
    simp append_assoc in
    ap (entries_translated published own b (suc i) (length es)) step
    ∙ translates published own b (a ++ entry_bytes d) (suc i) es c long (λ x k. h x (Memᴰ.tail k)) short ∙ joined

pub translated_bytes : (published own b : List ℕ) (es : List Entry) (c : List ℕ) → ((e : Entry) → Memᴰ e es → NameStands b e.space) → length b < 2 ^ 64
    → entries_translated published own b 0 (length es) (listing_bytes es ++ c) ≡ listing_bytes (map (translate published own) es) ++ c
translated_bytes published own b es c h short = translates published own b [] 0 es c refl h short
