-- The ways of the functions that read a day file. The idea: each test of the code is one of the definition's, and a loop stands at the first that fails or has
-- none behind it.
use Prim.Native.Nat.{ℕ, zero, suc, ◌+◌, ◌-◌, ◌*◌, ◌<◌, ◌≤◌, min}
use mathlib.Core.Path.{◌≡◌, refl, sym, ◌∙◌, ap}
use mathlib.Core.Bool.{Bool, true, false, not, cond}
use mathlib.Core.List.{List, []}
use native.Mathlib.Omega.{arith}
use native.Mathlib.Numerals.{add-one}
use lib.ListN.{length, take, drop, get_or, length-drop, drop_of_length-le}
use lib.Seq.{take_all, take-nil}
use lib.Dec.{eqb, ltb, leb}
use borrow.Author.Tests.{leb-true, leb-false, eq-eqb, ne_eqb, le-leb, lt-leb, lt-ltb, le-ltb, not-true, not-false}
use Rattle.buffer.specs.Bytes.{load_at, part, within}
use Rattle.buffer.proofs.ByteLaws.{and-true, within_true}
use Rattle.ari.specs.declared.Limits.{Limits}
use Rattle.ari.specs.Limits.{gate_limits, first_limits}
use Rattle.ari.specs.declared.Input.TheVariants.{Message}
use Rattle.ari.specs.Reader.{read}
use Rattle.ari.specs.Reader as ari
use Rattle.std.specs.declared.result.Result.{Result}
use Rattle.std.specs.declared.result.Result.TheVariants.{Ok, Err}
use Rattle.ari.specs.declared.Refusal.{Refusal}
use Rattle.ari.specs.Refusals.{refused}
use Rattle.reader.specs.Results.{result_of}
use Rattle.std.specs.Result.{is_ok}
use Rattle.day_file.specs.declared.Format.{Format}
use Rattle.day_file.specs.declared.Offsets.TheVariants.{Two, Four}
use Rattle.day_file.specs.Day.{width, most_bytes, count_in, start_in, offset_in, end_in, message_in, first_at, message_at, trailer_stands, entry_stands, message_stands, is_accepted, first_not, unless_all, Sized, check_day, outline_day, find_day, part_of}
use Rattle.day_file.specs.Versions.{version1, version2, is_second, format_of, limits_of}
use Rattle.day_file.specs.declared.Found.{Found}

-- a part, as far as there is one
module _ (s : List ℕ) (from to : ℕ) {e : ℕ} (is : e ≡ min to (length s)) where
  pub part_clipped : e < from → [] ≡ part s from to
  part_clipped h = sym (go (to - from) refl)
    where
      go : (n : ℕ) → to - from ≡ n → take n (drop from s) ≡ []
      go zero q = refl
      go (suc n) q = ap (take (suc n)) (drop_of_length-le s {i = from} (omega arith)) ∙ take-nil (suc n)

  pub part_there : from ≤ e → part s from e ≡ part s from to
  part_there h = go (leb to (length s)) refl
    where
      all : to ≤ length s → part s from e ≡ part s from to
      all g = let q : e ≡ to = omega arith in rw q

      rest : length s ≤ to → part s from e ≡ part s from to
      rest g =
          take_all (e - from) (drop from s) (rw length-drop (omega arith)) ∙ sym (take_all (to - from) (drop from s) (rw length-drop (omega arith)))

      go : (x : Bool) → leb to (length s) ≡ x → part s from e ≡ part s from to
      go true q = all (leb-true to (length s) q)
      go false q = rest (let h = leb-false to (length s) q in omega arith)

module _ (f : Format) {x : ℕ} where
  pub most_wide : f.offsets ≡ Four → x ≡ min f.bytes 4294967295 → x ≡ most_bytes f
  most_wide w e = e ∙ rw w

  pub most_narrow : f.offsets ≡ Two → x ≡ min f.bytes 65535 → x ≡ most_bytes f
  most_narrow w e = e ∙ rw w

-- the table
module _ (f : Format) (b : List ℕ) (k : ℕ) where
  pub offset_wide : f.offsets ≡ Four → {s : ℕ} → s ≡ start_in b → {x : ℕ} → x ≡ load_at 4 b (s + 4 * k) → x ≡ offset_in f b k
  unfolding offset_in
  offset_wide w e g = g ∙ rw (w, e)

  pub offset_narrow : f.offsets ≡ Two → {s : ℕ} → s ≡ start_in b → {x : ℕ} → x ≡ load_at 2 b (s + 2 * k) → x ≡ offset_in f b k
  unfolding offset_in
  offset_narrow w e g = g ∙ rw (w, e)

  module _ {n : ℕ} (c : n ≡ count_in b) {x : ℕ} where
    pub end_next : k + 1 < n → x ≡ offset_in f b (k + 1) → x ≡ end_in f b k
    unfolding end_in
    end_next h e = e ∙ rw (← c, lt-ltb (k + 1) n h)

    pub end_last : n ≤ k + 1 → x ≡ start_in b → x ≡ end_in f b k
    unfolding end_in
    end_last h e = e ∙ rw (← c, le-ltb (k + 1) n h)

  pub message_is : {from : ℕ} → from ≡ offset_in f b k → {to : ℕ} → to ≡ end_in f b k → {x : List ℕ} → x ≡ part b from to → x ≡ message_in f b k
  unfolding message_in
  message_is e g q = q ∙ rw (e, g)

-- of any bytes
module _ (f : Format) (b : List ℕ) (k : ℕ) where
  pub first_short : length b < 8 → 0 ≡ first_at f b k
  unfolding first_at
  first_short h = sym (rw (lt-leb 8 (length b) h))

  pub message_short : length b < 8 → [] ≡ message_at f b k
  unfolding message_at
  message_short h = sym (rw (lt-leb 8 (length b) h))

  module _ (h : 8 ≤ length b) where
    pub first_past : 65535 < k → 0 ≡ first_at f b k
    unfolding first_at
    first_past g = sym (rw (le-leb 8 (length b) h, lt-leb k 65535 g))

    pub message_past : 65535 < k → [] ≡ message_at f b k
    unfolding message_at
    message_past g = sym (rw (le-leb 8 (length b) h, lt-leb k 65535 g))

    pub first_in : k ≤ 65535 → {x : ℕ} → x ≡ offset_in f b k → x ≡ first_at f b k
    unfolding first_at
    first_in g e = e ∙ sym (rw (le-leb 8 (length b) h, le-leb k 65535 g))

    pub message_in_lem : k ≤ 65535 → {x : List ℕ} → x ≡ message_in f b k → x ≡ message_at f b k
    unfolding message_at
    message_in_lem g e = e ∙ sym (rw (le-leb 8 (length b) h, le-leb k 65535 g))

pub ruleset anywhere = (first_short, message_short, first_past, message_past, first_in, message_in_lem)

pub ruleset places = (part_clipped, part_there, most_wide, most_narrow, offset_wide, offset_narrow, end_next, end_last, message_is)

-- the trailer
module _ (f : Format) (b : List ℕ) where
  pub too_short : length b < 8 → false ≡ trailer_stands f b
  unfolding trailer_stands
  too_short h = sym (rw (lt-leb 8 (length b) h))

  module _ (h : 8 ≤ length b) {m : ℕ} (e : m ≡ most_bytes f) where
    pub too_long : m < length b → false ≡ trailer_stands f b
    unfolding trailer_stands
    too_long g = sym (rw (le-leb 8 (length b) h, ← e, lt-leb (length b) m g))

    module _ (g : length b ≤ m) where
      pub other_version : (get_or b (length b - 8) 0 ≡ f.version → ⊥) → false ≡ trailer_stands f b
      unfolding trailer_stands
      other_version n = sym (rw (le-leb 8 (length b) h, ← e, le-leb (length b) m g, ne_eqb _ _ n))

      module _ (v : get_or b (length b - 8) 0 ≡ f.version) where
        pub other_zero : (get_or b (length b - 7) 0 ≡ 0 → ⊥) → false ≡ trailer_stands f b
        unfolding trailer_stands
        other_zero n = sym (rw (le-leb 8 (length b) h, ← e, le-leb (length b) m g, eq-eqb _ _ v, ne_eqb _ _ n))

        module _ (z : get_or b (length b - 7) 0 ≡ 0) {n s w : ℕ} (c : n ≡ count_in b) (q : s ≡ start_in b) (i : w ≡ width f * n) where
          pub not_the_sum : (s + (w + 8) ≡ length b → ⊥) → false ≡ trailer_stands f b
          unfolding trailer_stands
          not_the_sum r = sym (rw (le-leb 8 (length b) h, ← e, le-leb (length b) m g, eq-eqb _ _ v, eq-eqb _ _ z, ← c, ← q, ← i, ne_eqb _ _ r))

          module _ (r : s + (w + 8) ≡ length b) where
            pub some_messages : (n ≡ 0 → ⊥) → true ≡ trailer_stands f b
            unfolding trailer_stands
            some_messages o = sym (rw (le-leb 8 (length b) h, ← e, le-leb (length b) m g, eq-eqb _ _ v, eq-eqb _ _ z, ← c, ← q, ← i, eq-eqb _ _ r, ne_eqb _ _ o))

            pub no_messages : n ≡ 0 → eqb s 0 ≡ trailer_stands f b
            unfolding trailer_stands
            no_messages o = sym (rw (le-leb 8 (length b) h, ← e, le-leb (length b) m g, eq-eqb _ _ v, eq-eqb _ _ z, ← c, ← q, ← i, eq-eqb _ _ r, eq-eqb _ _ o))

pub ruleset trailers = (too_short, too_long, other_version, other_zero, not_the_sum, some_messages, no_messages)

-- an entry of the table
module _ (f : Format) (b : List ℕ) (k : ℕ) {o : ℕ} (e : o ≡ offset_in f b k) where
  module _ (z : k ≡ 0) where
    at_first : offset_in f b 0 ≡ o
    at_first = ap (offset_in f b) (sym z) ∙ sym e

    pub first_not_zero : (o ≡ 0 → ⊥) → false ≡ entry_stands f b k
    unfolding entry_stands
    first_not_zero n = sym (rw (eq-eqb k 0 z, at_first, ne_eqb o 0 n))

    pub first_zero : o ≡ 0 → {s : ℕ} → s ≡ start_in b → ltb o s ≡ entry_stands f b k
    unfolding entry_stands
    first_zero n q = sym (rw (eq-eqb k 0 z, at_first, eq-eqb o 0 n, ← e, ← q))

  module _ (z : k ≡ 0 → ⊥) {p : ℕ} (g : p ≡ offset_in f b (k - 1)) where
    pub not_above : o ≤ p → false ≡ entry_stands f b k
    unfolding entry_stands
    not_above h = sym (rw (ne_eqb k 0 z, ← g, ← e, le-ltb p o h))

    pub above : p < o → {s : ℕ} → s ≡ start_in b → ltb o s ≡ entry_stands f b k
    unfolding entry_stands
    above h q = sym (rw (ne_eqb k 0 z, ← g, ← e, lt-ltb p o h, ← q))

-- a message
pub message_tested : (f : Format) (m : Limits) (b : List ℕ) (k : ℕ) {x : List ℕ} → x ≡ message_in f b k → {a : Result ℕ Refusal} → a ≡ result_of (read m Message x) → is_ok a ≡ message_stands f m b k
unfolding message_stands
message_tested f m b k {x} e {a} g = rw (g, ← e) (go (read m Message x))
  where
    go : (y : ari.Answer) → is_ok (result_of y) ≡ is_accepted y
    go (ari.accept n) = refl
    go (ari.refuse r p) = refl

pub ruleset tests = (first_not_zero, first_zero, not_above, above, message_tested)

-- All before k pass: the first that fails is the first from there on.
pub record Passing (p : ℕ → Bool) (n k : ℕ) : Type 0 where
  pub on : first_not p 0 n ≡ first_not p k (n - k)

module _ (p : ℕ → Bool) (n : ℕ) where
  pub passing_none : Passing p n 0
  passing_none = let e : n - 0 ≡ n = omega arith in record { on = rw e }

  module _ {k : ℕ} (g : Passing p n k) where
    pub all_pass : n ≤ k → k ≤ n → k ≡ first_not p 0 n
    all_pass h l = let e : n - k ≡ 0 = omega arith in sym (g.on ∙ rw e)

    module _ (h : k < n) {x : Bool} (f : x ≡ p k) where
      pub this_fails : not x ≡ true → k ≡ first_not p 0 n
      this_fails i = let e : n - k ≡ suc (n - (k + 1)) = omega arith in sym (g.on ∙ rw (e, ← f, not-true x i))

      pub this_passes : not x ≡ false → Passing p n (k + 1)
      this_passes i = let e : n - k ≡ suc (n - (k + 1)) = omega arith in record { on = g.on ∙ rw (e, ← f, not-false x i, add-one k) }

pub ruleset firsts = (passing_none, all_pass, this_fails, this_passes)

-- a trailer that stands has its bytes
pub has_trailer : (f : Format) (b : List ℕ) {t : Bool} → t ≡ trailer_stands f b → not t ≡ false → 8 ≤ length b
unfolding trailer_stands
has_trailer f b {t} e h = (within_true 8 (most_bytes f) (length b) (and-true (within 8 (most_bytes f) (length b)) _ (sym e ∙ not-false t h)).0).0

-- the trailer and the table
module _ (f : Format) (b : List ℕ) {t : Bool} (e : t ≡ trailer_stands f b) where
  pub no_trailer : not t ≡ true → refused 20 0 ≡ outline_day f b
  unfolding outline_day
  no_trailer h = sym (rw (← e, not-true t h))

  module _ (h : not t ≡ false) {n : ℕ} (c : n ≡ count_in b) {i : ℕ} (g : i ≡ first_not (entry_stands f b) 0 n) where
    pub bad_entry : i < n → refused 21 i ≡ outline_day f b
    unfolding outline_day
    bad_entry l = sym (rw (← e, not-false t h, ← c, ← g, lt-ltb i n l))

    pub outline_stands : n ≤ i → Ok n ≡ outline_day f b
    unfolding outline_day
    outline_stands l = sym (rw (← e, not-false t h, ← c, ← g, le-ltb i n l))

-- the check goes on from there
module _ (f : Format) (m : Limits) (b : List ℕ) where
  abbrev wrong_entry : Bool
  wrong_entry = ltb (first_not (entry_stands f b) 0 (count_in b)) (count_in b)

  refused_alike : (i : Refusal) → Err i ≡ outline_day f b → Err i ≡ check_day f m b
  unfolding outline_day check_day
  refused_alike i = go (trailer_stands f b) wrong_entry
    where
      go : (t x : Bool) → Err i ≡ cond t (cond x (refused 21 (first_not (entry_stands f b) 0 (count_in b))) (Ok (count_in b))) (refused 20 0)
          → Err i ≡ cond t (cond x (refused 21 (first_not (entry_stands f b) 0 (count_in b))) (unless_all 22 (message_stands f m b) (count_in b) (Ok (count_in b)))) (refused 20 0)
      go false x q = q
      go true true q = q
      go true false q = absurd (let z : ◌≡◌ {A = ℕ} 0 1 = cc in omega arith)

  goes_on : (n : ℕ) → Ok n ≡ outline_day f b → check_day f m b ≡ unless_all 22 (message_stands f m b) n (Ok n)
  unfolding outline_day check_day
  goes_on n = go (trailer_stands f b) wrong_entry
    where
      go : (t x : Bool) → Ok n ≡ cond t (cond x (refused 21 (first_not (entry_stands f b) 0 (count_in b))) (Ok (count_in b))) (refused 20 0)
          → cond t (cond x (refused 21 (first_not (entry_stands f b) 0 (count_in b))) (unless_all 22 (message_stands f m b) (count_in b) (Ok (count_in b)))) (refused 20 0) ≡ unless_all 22 (message_stands f m b) n (Ok n)
      go false x q = absurd (let z : ◌≡◌ {A = ℕ} 0 1 = cc in omega arith)
      go true true q = absurd (let z : ◌≡◌ {A = ℕ} 0 1 = cc in omega arith)
      go true false q = let z : n ≡ count_in b = cc in rw z

  module _ {d : Result ℕ Refusal} (e : d ≡ outline_day f b) where
    pub outline_refused : {i : Refusal} → d ≡ Err i → Err i ≡ check_day f m b
    outline_refused {i} g = refused_alike i (sym g ∙ e)

    module _ {n : ℕ} (g : d ≡ Ok n) {j : ℕ} (q : j ≡ first_not (message_stands f m b) 0 n) where
      pub bad_message : j < n → refused 22 j ≡ check_day f m b
      bad_message k = sym (goes_on n (sym g ∙ e) ∙ rw (← q, lt-ltb j n k))

      pub day_passes : n ≤ j → Ok n ≡ check_day f m b
      day_passes k = sym (goes_on n (sym g ∙ e) ∙ rw (← q, le-ltb j n k))

-- what is known of the answer
module _ (f : Format) (b : List ℕ) where
  pub sized_refused : (i : Refusal) → Sized f b (Err i)
  sized_refused i = tt

  pub sized_passes : {t : Bool} → t ≡ trailer_stands f b → not t ≡ false → {n : ℕ} → n ≡ count_in b → n < 65536 → Sized f b (Ok n)
  sized_passes {t} e h c l = (sym e ∙ not-false t h, c, l)

  module _ {d : Result ℕ Refusal} (s : Sized f b d) {n : ℕ} (e : d ≡ Ok n) where
    abbrev of : Sized f b (Ok n)
    of = rw e at s

    pub sized_trailer : trailer_stands f b ≡ true
    sized_trailer = of.0

    pub sized_long : 8 ≤ length b
    sized_long = has_trailer f b (sym sized_trailer) refl

    pub sized_count : n ≡ count_in b
    sized_count = of.1

    pub sized_few : n < 65536
    sized_few = of.2

    pub sized_again : Sized f b (Ok n)
    sized_again = of

    pub sized_below : {k : ℕ} → k < n → k < 65536
    sized_below h = omega (arith, sized_few)

    pub sized_within : {k : ℕ} → k < n → k ≤ 65536
    sized_within h = omega (arith, sized_few)

-- by number
module _ (f : Format) (m : Limits) (b : List ℕ) (k : ℕ) {d : Result ℕ Refusal} (e : d ≡ check_day f m b) where
  pub find_refused : {i : Refusal} → d ≡ Err i → Err i ≡ find_day f m b k
  unfolding find_day
  find_refused g = sym (rw (← e, g))

  module _ {n : ℕ} (g : d ≡ Ok n) where
    pub find_none : n ≤ k → refused 17 n ≡ find_day f m b k
    unfolding find_day
    find_none h = sym (rw (← e, g, le-ltb k n h))

    pub find_there : k < n → {from : ℕ} → from ≡ offset_in f b k → {to : ℕ} → to ≡ end_in f b k → Ok (record { from = from; to = to }) ≡ find_day f m b k
    unfolding find_day
    find_there h i j = sym (rw (← e, g, lt-ltb k n h, ← i, ← j))

module _ (b : List ℕ) {d x : Result Found Refusal} (e : d ≡ x) where
  pub part_found : {found : Found} → d ≡ Ok found → {y : List ℕ} → y ≡ part b found.from found.to → y ≡ part_of b x
  part_found g h = h ∙ rw (← e, g)

  pub part_refused : {i : Refusal} → d ≡ Err i → [] ≡ part_of b x
  part_refused g = rw (← e, g)

pub ruleset finds = (sized_long, sized_below, sized_within, find_refused, find_none, find_there, part_found, part_refused)

pub ruleset sizes = (sized_trailer, sized_count, sized_few)

pub ruleset outlines = (sized_refused, sized_passes, has_trailer, no_trailer, bad_entry, outline_stands)

pub ruleset checks = (sized_refused, sized_long, sized_few, sized_again, outline_refused, bad_message, day_passes)

-- the version that a trailer names
module _ (b : List ℕ) where
  pub no_version : length b < 8 → false ≡ is_second b
  unfolding is_second
  no_version h = rw (lt-leb 8 (length b) h)

  pub its_version : 8 ≤ length b → eqb (get_or b (length b - 8) 0) 2 ≡ is_second b
  unfolding is_second
  its_version h = rw (le-leb 8 (length b) h)

  module _ {x : Bool} (e : x ≡ is_second b) where
    pub second_format : x ≡ true → version2 ≡ format_of b
    second_format h = rw (← e, h)

    pub first_format : x ≡ false → version1 ≡ format_of b
    first_format h = rw (← e, h)

    pub second_limits : x ≡ true → gate_limits ≡ limits_of b
    second_limits h = rw (← e, h)

    pub first_limits_lem : x ≡ false → first_limits ≡ limits_of b
    first_limits_lem h = rw (← e, h)

pub ruleset versions = (no_version, its_version, second_format, first_format, second_limits, first_limits_lem)
