-- The entries one after the other, and the answer. The idea: what is put, and what is left to compare from the two targets or reports that are reached, is
-- the whole comparison.
use Prim.Native.Nat.{ℕ, suc, ◌+◌, ◌-◌, ◌*◌, ◌/◌, ◌≤◌, ◌<◌, max, min}
use mathlib.Core.Logic.{◌⊎◌, inl, inr}
use mathlib.Core.Path.{◌≡◌, refl, sym, ◌∙◌, ap}
use mathlib.Core.Bool.{Bool, true, false, cond}
use mathlib.Core.List.{List, [], ◌∷◌, ◌++◌, append-nil, append_assoc}
use native.Mathlib.Omega.{arith}
use lib.ListN.{length, take, drop, get_or, length-append}
use lib.Seq.{sets-eq, get_or-take, length-take-le}
use lib.Dec.{eqb}
use borrow.Author.Tests.{lt-ltb, le-ltb, eq-eqb, ne_eqb}
use mir.Syntax.{w8}
use mir.Val.{Fits}
use Rattle.buffer.specs.Bytes.{be}
use Rattle.buffer.specs.Put.{Put}
use Rattle.buffer.proofs.Putting.{put_nothing, put_both, put_size}
use Rattle.ari.specs.declared.Limits.{Limits}
use Rattle.ari.specs.declared.Input.TheVariants.{Message}
use Rattle.ari.specs.Reader.{read}
use Rattle.item_table.specs.Entries.{Tabled}
use Rattle.std.specs.declared.result.Result.{Result}
use Rattle.std.specs.declared.result.Result.TheVariants.{Ok, Err}
use Rattle.ari.specs.declared.Refusal.{Refusal}
use Rattle.ari.specs.Refusals.{refused}
use Rattle.reader.specs.Results.{result_of, Keeps}
use Rattle.reader.proofs.Results.{is_accepted, is_refused, tabled}
use Rattle.comparison.specs.declared.Difference.{Difference}
use Rattle.comparison.specs.declared.Compared.{Compared}
use Rattle.comparison.specs.Comparison.{parts, Entry, only_first, only_second, entry_of, compared, comparison, what_of, entry_bytes, entries_bytes, different, enough_for, second_by, compared_by, compare_messages, room_after}
use Rattle.comparison.specs.Code.{Table, whole, targets_in, next_target, target_behind, Reached, part_at, entry_at, without_items, difference_of, difference_bytes, is_different, tally_of}
use Rattle.comparison.proofs.Words.{few_words, behind_later, behind_further, parts_at, Standing, one, over, standing, reached_first, reached_behind, parts_first, targets_are, few_targets, length_compared}

-- one entry
pub put_three : {a b c d : List ℕ} {at p q r : ℕ} (e : Difference) → Put a b at p (be 8 e.what) → Put b c p q (be 8 e.first) → Put c d q r (be 8 e.second) → Put a d at r (difference_bytes e)
put_three e i j k = put_both i (put_both j k)

module _ (e : Difference) where
  pub no_difference : e.what ≡ 0 → 0 ≡ is_different e
  no_difference q = rw (eq-eqb e.what 0 q)

  pub a_difference : (e.what ≡ 0 → ⊥) → 1 ≡ is_different e
  a_difference q = rw (ne_eqb e.what 0 q)

module _ (a t : List ℕ) (i : ℕ) (b u : List ℕ) (j : ℕ) where
  pub two_there : i < length t → j < length u → {r : Difference} → r ≡ difference_of (entry_of (part_at a i) (part_at b j)) → r ≡ difference_of (entry_at a t i b u j)
  two_there h g e = e ∙ rw (lt-ltb i (length t) h, lt-ltb j (length u) g)

  pub first_alone : i < length t → length u ≤ j → {r : Difference} → r ≡ without_items 2 → r ≡ difference_of (entry_at a t i b u j)
  first_alone h g e = e ∙ rw (lt-ltb i (length t) h, le-ltb j (length u) g)

  pub second_alone : length t ≤ i → {r : Difference} → r ≡ without_items 3 → r ≡ difference_of (entry_at a t i b u j)
  second_alone h e = e ∙ rw (le-ltb i (length t) h)

pub ruleset entry_ways = (put_three, no_difference, a_difference, two_there, first_alone, second_alone)

-- all of them
length_entry : (e : Entry) → length (entry_bytes e) ≡ 24
length_entry e = refl

length_entries : (es : List Entry) → length (entries_bytes es) ≡ 24 * length es
length_entries [] = refl
length_entries (e ∷ es) = omega (arith, length-append (entry_bytes e) (entries_bytes es), length_entry e, length_entries es)

entries_append : (es fs : List Entry) → entries_bytes (es ++ fs) ≡ entries_bytes es ++ entries_bytes fs
entries_append [] fs = refl
entries_append (e ∷ es) fs = rw (entries_append es fs) (sym (append_assoc (entry_bytes e) (entries_bytes es) (entries_bytes fs)))

different_append : (es fs : List Entry) → different (es ++ fs) ≡ different es + different fs
different_append [] fs = omega arith
different_append (e ∷ es) fs = go (eqb (what_of e) 0) (different_append es fs)
  where
    go : (z : Bool) → different (es ++ fs) ≡ different es + different fs
        → cond z (different (es ++ fs)) (suc (different (es ++ fs))) ≡ cond z (different es) (suc (different es)) + different fs
    go true h = h
    go false h = omega arith

few_different : (es : List Entry) → different es ≤ length es
few_different [] = omega arith
few_different (e ∷ es) = go (eqb (what_of e) 0) (few_different es)
  where
    go : (z : Bool) → different es ≤ length es → cond z (different es) (suc (different es)) ≤ suc (length es)
    go true h = omega arith
    go false h = omega arith

one_different : (e : Entry) → different (e ∷ []) ≡ is_different (difference_of e)
one_different e = refl

-- one position further
turn : {a t b u : List ℕ} {i j : ℕ} → Standing a t i → Standing b u j → (i < length t) ⊎ (j < length u)
    → compared (parts_at a i) (parts_at b j) ≡ entry_at a t i b u j ∷ compared (parts_at a (target_behind t i)) (parts_at b (target_behind u j))
turn {a} {t} {b} {u} {i} {j} (one h e) (one g f) s =
    let z : entry_at a t i b u j ≡ entry_of (part_at a i) (part_at b j) = rw (lt-ltb i (length t) h, lt-ltb j (length u) g) in
    rw (e, f) (ap (λ (x : Entry). x ∷ compared (parts_at a (target_behind t i)) (parts_at b (target_behind u j))) (sym z))
turn {a} {t} {b} {u} {i} {j} (one h e) (over g f k) s =
    let z : entry_at a t i b u j ≡ only_first = rw (lt-ltb i (length t) h, le-ltb j (length u) g) in
    rw (e, f, k) (ap (λ (x : Entry). x ∷ compared (parts_at a (target_behind t i)) []) (sym z))
turn {a} {t} {b} {u} {i} {j} (over h e k) (one g f) s =
    let z : entry_at a t i b u j ≡ only_second = rw (le-ltb i (length t) h) in
    rw (e, f, k) (ap (λ (x : Entry). x ∷ compared [] (parts_at b (target_behind u j))) (sym z))
turn (over h e k) (over g f l) (inl s) = absurd (omega arith)
turn (over h e k) (over g f l) (inr s) = absurd (omega arith)

-- as many as the longer of both has targets and reports
length_comparison : {a t b u : List ℕ} → Table a t → Table b u → length (comparison a b) ≡ max (targets_in t) (targets_in u)
unfolding comparison
length_comparison {a} {t} {b} {u} c d = length_compared (parts a) (parts b) ∙ rw (targets_are c, targets_are d)

tally_by : (es : List Entry) {n k : ℕ} → n ≡ different es → k ≡ length es → ◌≡◌ {A = Compared} (record { different = n; entries = k }) (tally_of es)
tally_by es e f = rw (e, f)

-- The entries so far are put, and those of what is left would follow.
pub record Going (a t b u o o' : List ℕ) (i j p d : ℕ) : Type 0 where
  pub first : Table a t
  pub second : Table b u
  pub room : 24 * length (comparison a b) ≤ length o
  pub at_first : Reached a t i
  pub at_second : Reached b u j
  pub done : List Entry
  pub on : comparison a b ≡ done ++ compared (parts_at a i) (parts_at b j)
  pub put : Put o o' 0 p (entries_bytes done)
  pub count : d ≡ different done

-- shut, so that no search looks inside
pub data Gone (a t b u o o' : List ℕ) (i j p d : ℕ) : Type 0 where
  gone : Going a t b u o o' i j p d → Gone a t b u o o' i j p d

opened : {a t b u o o' : List ℕ} {i j p d : ℕ} → Gone a t b u o o' i j p d → Going a t b u o o' i j p d
opened (gone g) = g

pub gone_none : {a t b u o : List ℕ} → Table a t → Table b u → 24 * length (comparison a b) ≤ length o → {i : ℕ} → i ≡ next_target t 0 → {j : ℕ} → j ≡ next_target u 0
    → Gone a t b u o o i j 0 0
unfolding comparison
gone_none {o = o} c d h e f =
    gone
    (record {
      first = c;
      second = d;
      room = h;
      at_first = reached_first c e;
      at_second = reached_first d f;
      done = [];
      on = rw (parts_first c e, parts_first d f);
      put = put_nothing o 0;
      count = refl;
    })

module _ {a t b u o o' : List ℕ} {i j p n : ℕ} (v : Gone a t b u o o' i j p n) where
  g : Going a t b u o o' i j p n
  g = opened v

  pub gone_first : Table a t × Reached a t i
  gone_first = (g.first, g.at_first)

  pub gone_second : Table b u × Reached b u j
  gone_second = (g.second, g.at_second)

  few_done : length g.done ≤ length (comparison a b)
  few_done = omega (arith, ap length g.on, length-append g.done (compared (parts_at a i) (parts_at b j)))

  pub gone_few : n < 65536
  gone_few =
      omega (arith, few_done, g.count, few_different g.done, length_comparison g.first g.second, few_targets t, few_targets u, few_words g.first, few_words g.second)

  pub gone_size : length o' ≡ length o
  gone_size = put_size g.put

  module _ (h : (i < length t) ⊎ (j < length u)) {k l : ℕ} (z : k ≡ target_behind t i) (w : l ≡ target_behind u j) where
    pub gone_less : (length t - k) + (length u - l) < (length t - i) + (length u - j)
    gone_less = by h
      where
        by : (i < length t) ⊎ (j < length u) → (length t - k) + (length u - l) < (length t - i) + (length u - j)
        by (inl x) = omega (arith, behind_further t i x, behind_later u j, g.at_first.inside, g.at_second.inside)
        by (inr x) = omega (arith, behind_further u j x, behind_later t i, g.at_first.inside, g.at_second.inside)

    pub gone_on : {e : Difference} → e ≡ difference_of (entry_at a t i b u j) → {o'' : List ℕ} {q : ℕ} → Put o' o'' p q (difference_bytes e) → {x : ℕ} → x ≡ is_different e
        → Gone a t b u o o'' k l q (n + x)
    gone_on {e} f {o''} {q} put x =
        let this : Entry = entry_at a t i b u j in
        let rest : List Entry = compared (parts_at a (target_behind t i)) (parts_at b (target_behind u j)) in
        gone
        (record {
          first = g.first;
          second = g.second;
          room = g.room;
          at_first = reached_behind g.first g.at_first z;
          at_second = reached_behind g.second g.at_second w;
          done = g.done ++ (this ∷ []);
          on =
              g.on ∙ ap (λ (es : List Entry). g.done ++ es) (turn (standing g.first g.at_first) (standing g.second g.at_second) h)
              ∙ sym (append_assoc g.done (this ∷ []) rest) ∙ rw (z, w);
          put = rw (entries_append g.done (this ∷ []), append-nil (entry_bytes this)) (put_both g.put (rw f at put));
          count = omega (arith, different_append g.done (this ∷ []), one_different this, ap is_different f, g.count);
        })

  module _ (h : length t ≤ i) (l : length u ≤ j) where
    all_done : comparison a b ≡ g.done
    all_done = by (standing g.first g.at_first) (standing g.second g.at_second)
      where
        by : Standing a t i → Standing b u j → comparison a b ≡ g.done
        by (one k e) y = absurd (omega arith)
        by (over k e z) (one m f) = absurd (omega arith)
        by (over k e z) (over m f w) = g.on ∙ rw (e, f) (append-nil g.done)

    abbrev bytes : List ℕ
    bytes = entries_bytes g.done

    fitting : 0 + length bytes ≤ length o
    fitting = omega (arith, length_entries g.done, few_done, g.room)

    pub gone_tally : ◌≡◌ {A = Compared} (record { different = n; entries = p / 24 }) (tally_of (comparison a b))
    gone_tally =
        let e : p / 24 ≡ length g.done = omega (arith, g.put.place, fitting, length_entries g.done) in
        tally_by g.done g.count e ∙ ap tally_of (sym all_done)

    pub gone_room : o' ≡ entries_bytes (comparison a b) ++ drop (24 * length (comparison a b)) o
    gone_room =
        let e : 0 + length bytes ≡ 24 * length g.done = omega (arith, length_entries g.done) in
        rw all_done (g.put.bytes ∙ (sets-eq bytes o 0 fitting ∙ ap (λ (m : ℕ). bytes ++ drop m o) e))

pub either : {A B C : Type 0} → A ⊎ B → (A → C) → (B → C) → C
either (inl x) f g = f x
either (inr y) f g = g y

pub one_at_most : (e : Difference) → is_different e ≤ 1
one_at_most e = go (eqb e.what 0)
  where
    go : (z : Bool) → cond z 0 1 ≤ 1
    go true = omega arith
    go false = omega arith

-- the room
module _ {a t b u : List ℕ} (c : Table a t) (d : Table b u) where
  pub surely : (room : ℕ) {n : ℕ} → n ≡ max (length t) (length u) → n ≤ room → length (comparison a b) ≤ room
  surely room e h = omega (arith, length_comparison c d, few_targets t, few_targets u)

  module _ {m n k : ℕ} (e : m ≡ targets_in t) (f : n ≡ targets_in u) (g : k ≡ max m n) where
    counted : k ≡ length (comparison a b)
    counted = g ∙ rw (e, f) (sym (length_comparison c d))

    pub too_few : (room : ℕ) → room < k → refused 16 k ≡ enough_for (comparison a b) room
    too_few room h = rw (counted, lt-ltb room (length (comparison a b)) (omega (arith, counted)))

    pub enough : (room : ℕ) → k ≤ room → length (comparison a b) ≤ room
    enough room h = omega (arith, counted)

module _ (es : List Entry) where
  pub in_bytes : (o : List ℕ) → length es ≤ length o / 24 → 24 * length es ≤ length o
  in_bytes o h = omega arith

  pub tallied : (room : ℕ) → length es ≤ room → {r : Compared} → r ≡ tally_of es → Ok r ≡ enough_for es room
  tallied room h e = rw (e, le-ltb room (length es) h)

  pub room_written : (o : List ℕ) {r : Compared} → r ≡ tally_of es → {o' : List ℕ} → o' ≡ entries_bytes es ++ drop (24 * length es) o → o' ≡ room_after (Ok r) es o
  room_written o e f = f ∙ rw e

pub ruleset rooms = (surely, too_few, enough, in_bytes, tallied, room_written)

-- the reader's table, as far as there are items
front : {m : Limits} {b : List ℕ} {n : ℕ} {t : List ℕ} → Tabled m Message b n t → Tabled m Message b (length (take n t)) (take n t)
front {n = n} {t = t} c =
    let e : length (take n t) ≡ n = length-take-le n t c.room in
    record {
      is = rw e c.is;
      small = c.small;
      shallow = c.shallow;
      room = omega arith;
      kept = λ k h. let l : k < n = omega arith in get_or-take n t k 0 l ∙ c.kept k l;
    }

module _ (m : Limits) (b : List ℕ) {y : Result ℕ Refusal} (e : y ≡ result_of (read m Message b)) {t t' : List ℕ} (k : Keeps Message b y t t') (l : length t' ≡ length t)
    (bytes : (j : ℕ) → Fits w8 (get_or b j 0)) (fit : (min m.items (length b) ≤ length t) × (m.bytes < 65536) × (m.containers < 256)) {n : ℕ} (f : y ≡ Ok n) where
  pub table_kept : Table b (take n t')
  table_kept = whole (front (tabled m Message b e k l bytes fit f))

  pub items_kept : n ≤ length t'
  items_kept = (tabled m Message b e k l bytes fit f).room

-- the refusals in their order
module _ (m : Limits) (a b : List ℕ) (room : ℕ) {x : Result ℕ Refusal} (e : x ≡ result_of (read m Message a)) where
  pub first_refused : {z : Refusal} → x ≡ Err z → Err z ≡ compare_messages m a b room
  unfolding compare_messages
  first_refused f = is_refused m Message a e f (λ z. compared_by z (read m Message b) (comparison a b) room) (λ r p. refl)

  module _ {n : ℕ} (f : x ≡ Ok n) {y : Result ℕ Refusal} (g : y ≡ result_of (read m Message b)) where
    pub second_refused : {z : Refusal} → y ≡ Err z → Err z ≡ compare_messages m a b room
    unfolding compare_messages
    second_refused h = rw (is_accepted m Message a e f) (is_refused m Message b g h (λ z. second_by z (comparison a b) room) (λ r p. refl))

    pub both_accepted : {k : ℕ} → y ≡ Ok k → {r : Result Compared Refusal} → r ≡ enough_for (comparison a b) room → r ≡ compare_messages m a b room
    unfolding compare_messages
    both_accepted h q = q ∙ rw (is_accepted m Message a e f, is_accepted m Message b g h) refl

pub ruleset outcomes = (first_refused, second_refused, both_accepted)
