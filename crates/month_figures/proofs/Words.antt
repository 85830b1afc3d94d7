-- Figures as words and as bytes. The ideas: what is put, and the lines from line i on, are all; words that hold figures have the bytes of these figures.
use Prim.Native.Nat.{ℕ, zero, suc, ◌+◌, ◌-◌, ◌*◌, ◌<◌, ◌≤◌, min}
use mathlib.Core.Path.{◌≡◌, refl, sym, ◌∙◌, ap}
use mathlib.Core.Bool.{Bool, true, false, cond}
use mathlib.Core.List.{List, [], ◌∷◌, ◌++◌, map, append-nil, append_assoc}
use native.Mathlib.Omega.{arith}
use native.Mathlib.Numerals.{add-one}
use lib.ListN.{length, take, drop, get_or, length-append}
use lib.Seq.{sets, sets-eq, length-sets, get_or-take, get_or-drop}
use lib.Dec.{ltb}
use borrow.Author.Tests.{lt-ltb, le-ltb}
use Rattle.buffer.specs.Bytes.{be}
use Rattle.buffer.specs.Put.{Put}
use Rattle.buffer.proofs.ByteLaws.{length_be}
use Rattle.buffer.proofs.Putting.{put_nothing, put_both}
use Rattle.month_lines.specs.Lines.{Line, most_lines}
use Rattle.std.specs.declared.result.Result.TheVariants.{Ok, Err}
use Rattle.ari.specs.Refusals.{refused}
use Rattle.month_figures.specs.Figures.{half, turned, Figures, figures}
use Rattle.month_figures.specs.State.{words, first_place, first_amount, word, place_in, references_in, Holds, Opens, line_bytes, lines_bytes, figures_bytes, bytes_for, shown_of, room_after, Shows}
use Rattle.month_figures.specs.Code.{no_figures, totals_of, line_at, lines_at}

module _ (w : ℕ) where
  pub turned_up : w < half → w + half ≡ turned w
  turned_up h = sym (rw (lt-ltb w half h))

  pub turned_down : half ≤ w → w - half ≡ turned w
  turned_down h = sym (rw (le-ltb w half h))

pub ruleset turns = (turned_up, turned_down)

-- a fresh state
pub fresh : (ws : List ℕ) → words ≤ length ws → ((k : ℕ) → k < first_place → word ws k ≡ 0) → Holds ws (figures [])
unfolding figures
fresh ws h z = record {
  room = h;
  messages = z 0 (omega arith);
  bytes = z 1 (omega arith);
  items = z 2 (omega arith);
  unknown = z 3 (omega arith);
  relative = z 4 (omega arith);
  lines = z 5 (omega arith);
  few = omega arith;
  rising = tt;
  fit = refl;
  places = refl;
  amounts = refl;
}

module _ (ws : List ℕ) where
  pub open_short : length ws < words → Opens ws (refused 16 4144) ws
  open_short h = record { short = λ _. (refl, refl); afresh = λ l. absurd (omega arith) }

  pub open_done : words ≤ length ws → {ws' : List ℕ} → ws' ≡ sets ws 0 no_figures → Opens ws (Ok tt) ws'
  open_done h {ws'} e =
      let split : ws' ≡ no_figures ++ drop 6 ws = e ∙ sets-eq no_figures ws 0 (omega arith) in
      let long : length ws' ≡ length ws = ap length e ∙ length-sets ws 0 no_figures in
      record { short = λ l. absurd (omega arith); afresh = λ _. (refl, fresh ws' (omega arith) (λ k l. ap (λ (v : List ℕ). word v k) split ∙ zero_there k l)) }
    where
      zero_there : (k : ℕ) → k < first_place → word (no_figures ++ drop 6 ws) k ≡ 0
      zero_there zero l = refl
      zero_there (suc zero) l = refl
      zero_there (suc (suc zero)) l = refl
      zero_there (suc (suc (suc zero))) l = refl
      zero_there (suc (suc (suc (suc zero)))) l = refl
      zero_there (suc (suc (suc (suc (suc zero))))) l = refl
      zero_there (suc (suc (suc (suc (suc (suc k)))))) l = absurd (omega arith)

pub ruleset opens = (open_short, open_done)

-- what is put
pub sums_put : {o₀ o₁ o₂ o₃ : List ℕ} {at p q r : ℕ} (a b c : ℕ) → Put o₀ o₁ at p (be 8 a) → Put o₁ o₂ p q (be 8 b) → Put o₂ o₃ q r (be 8 c) → Put o₀ o₃ at r (be 8 a ++ (be 8 b ++ be 8 c))
sums_put a b c u v w = put_both u (put_both v w)

pub totals_put : {o₀ o₁ o₂ o₃ : List ℕ} {at p q r : ℕ} (x : List ℕ) (a b : ℕ) → Put o₀ o₁ at p x → Put o₁ o₂ p q (be 8 a) → Put o₂ o₃ q r (be 8 b) → Put o₀ o₃ at r (x ++ (be 8 a ++ be 8 b))
totals_put x a b u v w = put_both u (put_both v w)

pub line_put : {o₀ o₁ o₂ : List ℕ} {at p q : ℕ} (v a b : ℕ) → v ≡ turned a → Put o₀ o₁ at p (be 8 v) → Put o₁ o₂ p q (be 8 b) → Put o₀ o₂ at q (be 8 (turned a) ++ be 8 b)
line_put v a b e x y = put_both (rw e at x) y

pub record Putting (ws : List ℕ) (n i : ℕ) (o o' : List ℕ) (at p : ℕ) : Type 0 where
  pub done : List ℕ
  pub put : Put o o' at p done
  pub on : lines_at ws 0 n ≡ done ++ lines_at ws i (n - i)

module _ (ws : List ℕ) (n : ℕ) where
  pub putting_none : (o : List ℕ) (at : ℕ) → Putting ws n 0 o o at at
  putting_none o at = let e : n - 0 ≡ n = omega arith in record { done = []; put = put_nothing o at; on = rw e }

  module _ {i : ℕ} {o o' : List ℕ} {at p : ℕ} (g : Putting ws n i o o' at p) where
    pub putting_next : i < n → {o'' : List ℕ} {q : ℕ} → Put o' o'' p q (line_at ws i) → Putting ws n (i + 1) o o'' at q
    putting_next h u =
        let e : n - i ≡ suc (n - (i + 1)) = omega arith in
        record {
          done = g.done ++ line_at ws i;
          put = put_both g.put u;
          on = g.on ∙ rw (e, add-one i) (sym (append_assoc g.done (line_at ws i) (lines_at ws (suc i) (n - suc i))));
        }

    pub putting_all : n ≤ i → i ≤ n → Put o o' at p (lines_at ws 0 n)
    putting_all h l = let e : n - i ≡ 0 = omega arith in rw (g.on, e, append-nil) g.put

pub figures_put : {o o' o'' : List ℕ} {at p q : ℕ} (u v : List ℕ) → Put o o' at p u → Put o' o'' p q v → Put o o'' at q (u ++ v)
figures_put u v x y = put_both x y

pub ruleset totals = (sums_put, totals_put)

pub ruleset puts = (line_put, putting_none, putting_next, putting_all, figures_put)

-- Words that hold figures are written as these.
lines_are : (ws : List ℕ) (ls : List Line) (i : ℕ) → ((j : ℕ) → j < length ls → word ws (first_place + (i + j)) ≡ get_or (map place_in ls) j 0)
    → ((j : ℕ) → j < length ls → word ws (first_amount + (i + j)) ≡ get_or (map references_in ls) j 0) → lines_at ws i (length ls) ≡ lines_bytes ls
lines_are ws [] i h k = refl
lines_are ws (l ∷ ls) i h k =
    let e : i + 0 ≡ i = omega arith in
    let first : word ws (first_place + i) ≡ l.place = rw e at (h 0 (omega arith)) in
    let amount : word ws (first_amount + i) ≡ l.references = rw e at (k 0 (omega arith)) in
    let step : (j : ℕ) → suc i + j ≡ i + suc j = λ j. omega arith in
    rw (first, amount) (ap (λ (v : List ℕ). line_bytes l ++ v) (lines_are ws ls (suc i) (λ j g. ap (λ (x : ℕ). word ws (first_place + x)) (step j) ∙ h (suc j) (omega arith)) (λ j g. ap (λ (x : ℕ). word ws (first_amount + x)) (step j) ∙ k (suc j) (omega arith))))

length_lines : (ls : List Line) → length (lines_bytes ls) ≡ 16 * length ls
length_lines [] = refl
length_lines (l ∷ ls) =
    omega (arith, length-append (line_bytes l) (lines_bytes ls), length-append (be 8 (turned l.place)) (be 8 l.references), length_be 8 (turned l.place), length_be 8 l.references, length_lines ls)

module _ (f : Figures) where
  pub length_figures : length (figures_bytes f) ≡ bytes_for (length f.lines)
  unfolding figures_bytes
  length_figures =
      let a = be 8 f.bytes ++ be 8 f.items in
      let b = be 8 f.unknown ++ be 8 f.relative in
      omega (
        arith,
        length-append ((be 8 f.messages ++ a) ++ b) (lines_bytes f.lines),
        length_lines f.lines,
        length-append (be 8 f.messages ++ a) b,
        length-append (be 8 f.messages) a,
        length-append (be 8 f.bytes) (be 8 f.items),
        length-append (be 8 f.unknown) (be 8 f.relative),
        length_be 8 f.messages,
        length_be 8 f.bytes,
        length_be 8 f.items,
        length_be 8 f.unknown,
        length_be 8 f.relative,
      )

  module _ {ws : List ℕ} (h : Holds ws f) where
    bytes_are : totals_of ws ++ lines_at ws 0 (length f.lines) ≡ figures_bytes f
    unfolding figures_bytes
    bytes_are =
        let n = length f.lines in
        let from : (j : ℕ) → 0 + j ≡ j = λ j. omega arith in
        let lines : lines_at ws 0 n ≡ lines_bytes f.lines =
        lines_are ws f.lines 0
        (λ j l. ap (λ (x : ℕ). word ws (first_place + x)) (from j) ∙ sym (get_or-drop first_place ws j 0) ∙ sym (get_or-take n (drop first_place ws) j 0 l) ∙ ap (λ (v : List ℕ). get_or v j 0) h.places)
        (λ j l. ap (λ (x : ℕ). word ws (first_amount + x)) (from j) ∙ sym (get_or-drop first_amount ws j 0) ∙ sym (get_or-take n (drop first_amount ws) j 0 l) ∙ ap (λ (v : List ℕ). get_or v j 0) h.amounts) in
        rw (h.messages, h.bytes, h.items, h.unknown, h.relative, lines)

module _ (ws out : List ℕ) where
  pub show_short : length ws < words → Shows ws out (refused 16 4144) out
  show_short h = record { short = λ _. (refl, refl); figures_are = λ f k. absurd (omega (arith, k.room)) }

  module _ (h : words ≤ length ws) {n : ℕ} (e : n ≡ min (word ws 5) 256) where
    all_lines : {f : Figures} → Holds ws f → length f.lines ≡ n
    all_lines k = omega (arith, k.lines, k.few)

    pub show_lacks : length out < 40 + 16 * n → Shows ws out (refused 16 (40 + 16 * n)) out
    show_lacks l = record { short = λ k. absurd (omega arith); figures_are = λ f k. (sym (rw (all_lines k, lt-ltb (length out) (bytes_for n) l)), refl) }

    pub show_done : 40 + 16 * n ≤ length out → {out' : List ℕ} {q : ℕ} → Put out out' 0 q (totals_of ws ++ lines_at ws 0 n) → Shows ws out (Ok n) out'
    show_done l {out'} p = record { short = λ k. absurd (omega arith); figures_are = λ f k. (sym (rw (all_lines k, le-ltb (length out) (bytes_for n) l)), written f k) }
      where
        written : (f : Figures) → Holds ws f → out' ≡ figures_bytes f ++ drop (bytes_for n) out
        written f k =
            let u : totals_of ws ++ lines_at ws 0 n ≡ figures_bytes f = ap (λ (i : ℕ). totals_of ws ++ lines_at ws 0 i) (sym (all_lines k)) ∙ bytes_are f k in
            let long : length (figures_bytes f) ≡ bytes_for n = length_figures f ∙ ap bytes_for (all_lines k) in
            let z : 0 + length (figures_bytes f) ≡ bytes_for n = omega (arith, long) in
            p.bytes ∙ ap (sets out 0) u ∙ sets-eq (figures_bytes f) out 0 (omega (arith, long)) ∙ ap (λ (i : ℕ). figures_bytes f ++ drop i out) z

pub ruleset shows = (show_short, show_lacks, show_done)
