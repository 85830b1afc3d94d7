-- Rows as bytes, way by way through the code; the premises are what it has tested.
use Prim.Native.Nat.{ℕ, zero, suc, ◌+◌, ◌-◌, ◌*◌, ◌/◌, ◌%◌, ◌^◌, ◌<◌, ◌≤◌}
use mathlib.Core.Path.{◌≡◌, refl, sym, ◌∙◌}
use mathlib.Core.Bool.{Bool, true, false, not, and-false, and-true}
use mathlib.Core.List.{List, [], ◌∷◌, ◌++◌}
use native.Mathlib.Omega.{arith}
use lib.ListN.{length, take, drop, length-append, length-drop, take-append-drop}
use lib.Seq.{drop-drop, length-take-le, take-append-le, drop-append-le, take-add}
use lib.Dec.{eqb}
use borrow.Author.Tests.{eq-eqb, ne_eqb, le-leb, lt-leb}
use Rattle.buffer.specs.Bytes.{value, load_at}
use Rattle.buffer.proofs.Numbers.{load_there}
use Rattle.grants.specs.Grants.{Grant, some, same, below0, clash, passes, refused, check_from, check, holds}
use Rattle.ari.specs.Signed.{signed}
use Rattle.grants.specs.Bytes.{row_by, row_of, holds_at, rows, check_bytes}
use Rattle.std.specs.declared.slice.ChunksExact.{ChunksExact}
use Rattle.std.specs.Slice.Iter.{chunks_exact_rest, chunks_exact_size, chunks_exact_steps}
use Rattle.std.specs.List.{list_any}
use Rattle.std.proofs.lemmas.Iterator.{YieldsList}
use Rattle.std.proofs.lemmas.Iterator.Splits.{YieldsList-from_shown_while}
use Rattle.std.proofs.Common.{Some, None}
use Rattle.std.proofs.lemmas.List.{drop_all}
use native.Mathlib.Numerals.{add-one}
use denote.Ref.{Bor}
use Rattle.grants.proofs.Signed.{same_words, not_negative, negative}

-- a whole row at a place
module _ (b : List ℕ) (at : ℕ) where
  module _ (s n : ℕ) where
    pub holds_none : length b < 16 → false ≡ holds_at b at s n
    unfolding holds_at
    holds_none h = rw (lt-leb (at + 16) (length b) (omega arith))

    pub holds_past : 16 ≤ length b → length b - 16 < at → false ≡ holds_at b at s n
    unfolding holds_at
    holds_past g h = rw (lt-leb (at + 16) (length b) (omega arith))

    pub holds_here : {x : Bool} → 16 ≤ length b → at ≤ length b - 16 → x ≡ holds s (signed n) (row_of (drop at b)) → x ≡ holds_at b at s n
    unfolding holds_at
    holds_here g h e = rw (le-leb (at + 16) (length b) (omega arith)) e

    -- where a whole row stands
    pub row_holds : {x : Bool} → 16 ≤ length b - at → x ≡ holds_at b at s n → x ≡ holds s (signed n) (row_of (drop at b))
    unfolding holds_at
    row_holds h e = rw (le-leb (at + 16) (length b) (omega arith)) at e

-- the rows of bytes
pub rows_more : (b : List ℕ) → 16 ≤ length b → rows b ≡ row_of b ∷ rows (drop 16 b)
unfolding rows
rows_more b h =
    let e : length b / 16 ≡ suc (length (drop 16 b) / 16) = rw length-drop (omega arith) in
    rw e

pub rows_end : (b : List ℕ) → length b < 16 → rows b ≡ []
unfolding rows
rows_end b h = let e : length b / 16 ≡ 0 = omega arith in rw e

row_front : (x y : List ℕ) → 16 ≤ length x → row_of (x ++ y) ≡ row_of x
row_front x y h =
    rw (
      take-append-le 8 x y (omega arith),
      drop-append-le 8 x y (omega arith),
      take-append-le 8 (drop 8 x) y (rw length-drop (omega arith)),
    )

front_row : (x y : List ℕ) → length x ≡ 16 → rows (x ++ y) ≡ row_of x ∷ rows y
front_row x y e =
    rw (rows_more (x ++ y) (rw length-append (omega arith)), row_front x y (omega arith), drop-append-le 16 x y (omega arith), drop_all 16 x (omega arith))

rows_join : (k : ℕ) (x y : List ℕ) → length x ≡ 16 * k → rows (x ++ y) ≡ rows x ++ rows y
rows_join zero [] y e = sym (rw (rows_end [] (omega arith)))
rows_join zero (a ∷ x) y e = absurd (omega arith)
rows_join (suc k) x y e =
    let h : 16 ≤ length x = omega arith in
    rw (
      rows_more (x ++ y) (rw length-append (omega arith)),
      rows_more x h,
      row_front x y h,
      drop-append-le 16 x y h,
      rows_join k (drop 16 x) y (rw length-drop (omega arith)),
    )

rows_one : (b : List ℕ) → 16 ≤ length b → rows (take 16 b) ≡ row_of b ∷ []
rows_one b h =
    let n : length (take 16 b) ≡ 16 = length-take-le 16 b h in
    let f : row_of b ≡ row_of (take 16 b) = rw (take-append-drop 16 b) at (row_front (take 16 b) (drop 16 b) (omega arith)) in
    rw (rows_more (take 16 b) (omega arith), rows_end (drop 16 (take 16 b)) (rw length-drop (omega arith)), f)

-- the two numbers of a row, as they are loaded
module _ (b : List ℕ) (at : ℕ) (w : at + 16 ≤ length b) where
  first_word : {x : ℕ} → x ≡ load_at 8 b at → x ≡ value (take 8 (drop at b))
  first_word e = e ∙ load_there 8 b at (omega arith)

  second_word : {y : ℕ} → y ≡ load_at 8 b (at + 8) → y ≡ value (take 8 (drop (at + 8) b))
  second_word e = e ∙ load_there 8 b (at + 8) (omega arith)

-- one row
module _ (b : List ℕ) (at s n : ℕ) (w : at + 16 ≤ length b) where
  pub other_subscriber : {x : ℕ} → x ≡ load_at 8 b at → (x ≡ s → ⊥) → false ≡ holds s (signed n) (row_of (drop at b))
  other_subscriber {x} e h = rw (← first_word b at w e, ne_eqb x s h)

  pub its_namespace : {x y : ℕ} → x ≡ load_at 8 b at → x ≡ s → y ≡ load_at 8 b (at + 8) → y < 2 ^ 64 → n < 2 ^ 64
      → eqb y n ≡ holds s (signed n) (row_of (drop at b))
  its_namespace {x} {y} e h f k l = rw (← first_word b at w e, eq-eqb x s h, drop-drop 8 at b, ← second_word b at w f, same_words y n k l)

  module _ (low : 2 ^ 63 ≤ n) (high : n < 2 ^ 64) where
    pub other_namespace : {y : ℕ} → y ≡ load_at 8 b (at + 8) → y < 2 ^ 64 → (y ≡ n → ⊥) → false ≡ clash (row_by s n) (row_of (drop at b))
    other_namespace {y} f k h =
        rw (drop-drop 8 at b, ← second_word b at w f, same_words y n k high, ne_eqb y n h) (sym (and-false (not (eqb (value (take 8 (drop at b))) s))))

    pub its_subscriber : {x y : ℕ} → y ≡ load_at 8 b (at + 8) → y ≡ n → x ≡ load_at 8 b at → not (eqb x s) ≡ clash (row_by s n) (row_of (drop at b))
    its_subscriber {x} {y} f h e =
        rw (← first_word b at w e, drop-drop 8 at b, ← second_word b at w f, h, same_words n n high high, eq-eqb n n refl, negative n low) (sym (and-true (not (eqb x s))))

-- the rows that whole chunks give, and a search over them
pub YieldsList-from_rows : (s : ChunksExact ℕ) (b : List ℕ) → chunks_exact_rest s ≡ b → chunks_exact_size s ≡ 16 → YieldsList chunks_exact_steps (λ y. row_of y.now) s (rows b)
YieldsList-from_rows s b e k =
    rw (← e)
    (YieldsList-from_shown_while chunks_exact_steps (λ y. row_of y.now) (λ s. rows (chunks_exact_rest s)) (λ s. chunks_exact_size s ≡ 16) ends goes_on s k)
  where
    ends : (s t : ChunksExact ℕ) → chunks_exact_size s ≡ 16 → chunks_exact_steps s None t → length (rows (chunks_exact_rest s)) ≡ 0
    ends s t e h = rw (rows_end (chunks_exact_rest s) (omega (arith, h.1.0)))

    goes_on : (s : ChunksExact ℕ) (x : Bor (List ℕ)) (t : ChunksExact ℕ) → chunks_exact_size s ≡ 16 → chunks_exact_steps s (Some x) t
        → (chunks_exact_size t ≡ 16) × (rows (chunks_exact_rest s) ≡ row_of x.now ∷ rows (chunks_exact_rest t))
    goes_on s x t e h = (h.0 ∙ e, rw h.1.0 (front_row x.now (chunks_exact_rest t) (h.1.1 ∙ e)))

pub some_is : (p : Grant → Bool) (t : List Grant) → list_any p t ≡ some p t
some_is p [] = refl
some_is p (g ∷ t) = rw (some_is p t)

-- the rows of bytes, searched from the front
module _ (p : Grant → Bool) (b : List ℕ) where
  module _ (at : ℕ) (e : some p (rows b) ≡ some p (rows (drop at b))) where
    pub some_end : length b - at < 16 → false ≡ some p (rows b)
    some_end h = rw (e, rows_end (drop at b) (rw length-drop h))

    module _ (h : 16 ≤ length b - at) {x : Bool} (f : x ≡ p (row_of (drop at b))) where
      pub some_here : x ≡ true → true ≡ some p (rows b)
      some_here g = rw (e, rows_more (drop at b) (rw length-drop h), ← f, g)

      pub some_behind : x ≡ false → some p (rows b) ≡ some p (rows (drop (at + 16) b))
      some_behind g = rw (e, rows_more (drop at b) (rw length-drop h), ← f, g, drop-drop 16 at b)

-- a row against those before it
module _ (b : List ℕ) (at : ℕ) (w : at + 16 ≤ length b) where
  pub positive : {n : ℕ} → n ≡ load_at 8 b (at + 8) → n < 2 ^ 63 → false ≡ some (clash (row_of (drop at b))) (rows (take at b))
  positive {n} e h = sym (go (row_of (drop at b)) (rw (drop-drop 8 at b, ← second_word b at w e) (not_negative n h)) (rows (take at b)))
    where
      go : (g : Grant) → below0 g.namespace ≡ false → (t : List Grant) → some (clash g) t ≡ false
      go g k [] = refl
      go g k (x ∷ t) = rw (k, and-false (same x.namespace g.namespace), and-false (not (eqb x.subscriber g.subscriber))) (go g k t)

  pub private_row : {s n : ℕ} {x : Bool} → n ≡ load_at 8 b (at + 8) → s ≡ load_at 8 b at → x ≡ some (clash (row_by s n)) (rows (take at b))
      → x ≡ some (clash (row_of (drop at b))) (rows (take at b))
  private_row e f g = rw (drop-drop 8 at b, ← second_word b at w e, ← first_word b at w f) g

  pub length_before : at ≡ length (take at b)
  length_before = sym (length-take-le at b (omega arith))

-- the check, row by row
pub ragged_table : (b : List ℕ) → (length b % 16 ≡ 0 → ⊥) → refused 18 (length b / 16) ≡ check_bytes b
unfolding check_bytes
ragged_table b h = rw (ne_eqb (length b % 16) 0 h)

whole_table : (b : List ℕ) → length b % 16 ≡ 0 → check_bytes b ≡ check (rows b)
unfolding check_bytes
whole_table b h = rw (eq-eqb (length b % 16) 0 h)

pub check_start : (b : List ℕ) → check (rows b) ≡ check_from (rows (take 0 b)) 0 (rows (drop 0 b))
unfolding check
check_start b = rw (rows_end [] (omega arith))

module _ (b : List ℕ) (k : ℕ) (w : length b % 16 ≡ 0)
    (e : check (rows b) ≡ check_from (rows (take (16 * k) b)) k (rows (drop (16 * k) b))) where
  pub check_end : length b / 16 ≤ k → passes ≡ check_bytes b
  check_end h = rw (whole_table b w, e, rows_end (drop (16 * k) b) (rw length-drop (omega arith)))

  module _ (h : k < length b / 16) {x : Bool} (f : x ≡ some (clash (row_of (drop (16 * k) b))) (rows (take (16 * k) b))) where
    this_row : rows (drop (16 * k) b) ≡ row_of (drop (16 * k) b) ∷ rows (drop (16 * k + 16) b)
    this_row = rw (rows_more (drop (16 * k) b) (rw length-drop (omega arith)), drop-drop 16 (16 * k) b)

    pub check_here : x ≡ true → refused 18 k ≡ check_bytes b
    check_here g = rw (whole_table b w, e, this_row, ← f, g)

    pub check_behind : x ≡ false → check (rows b) ≡ check_from (rows (take (16 * (k + 1)) b)) (k + 1) (rows (drop (16 * (k + 1)) b))
    check_behind g =
        let c : List ℕ = drop (16 * k) b in
        let n : 16 ≤ length c = rw length-drop (omega arith) in
        let q : 16 * (k + 1) ≡ 16 * k + 16 = omega arith in
        let l : length (take (16 * k) b) ≡ 16 * k = length-take-le (16 * k) b (omega arith) in
        rw (e, this_row, ← f, g, q, take-add (16 * k) 16 b, rows_join k (take (16 * k) b) (take 16 c) l, rows_one c n, add-one)

pub ruleset ways = (positive, private_row, length_before, ragged_table, check_start, check_end, check_here, check_behind, holds_none, holds_past, holds_here)
