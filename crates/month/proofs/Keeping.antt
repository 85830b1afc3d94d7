-- A state's figures taken out, judged and put back. The ideas: what a copy has reached is a paste of so much; figures that fit are their own words; the words
-- before a paste and the pasted part can be read off it.
use Prim.Native.Nat.{ℕ, zero, suc, ◌+◌, ◌-◌, ◌<◌, ◌≤◌, min}
use mathlib.Core.Path.{◌≡◌, refl, sym, ◌∙◌, ap}
use mathlib.Core.Bool.{Bool, true, false, not, ◌&&◌, cond, true≢false}
use mathlib.Core.List.{List, [], ◌∷◌, ◌++◌, map}
use native.Mathlib.Omega.{arith}
use native.Mathlib.Numerals.{add-one}
use lib.ListN.{length, take, drop, get_or, set, length-drop}
use lib.Seq.{sets, sets-eq, length-sets, paste, paste-zero, paste-suc, length-paste, take-paste, take-take, take_at, take-add, drop_at, drop-cons, length-take-le, get_or-take, get_or-drop}
use lib.Dec.{ltb, leb}
use borrow.Author.Tests.{lt-ltb, le-ltb, le-leb, lt-leb, leb-true, leb-false, ltb-true, ltb-false, not-true, not-false}
use borrow.Rule.Slice.PartMut.{put_mid}
use Rattle.std.proofs.lemmas.Slice.{put_mid-paste}
use Rattle.buffer.specs.Bytes.{all}
use Rattle.month_lines.specs.Lines.{Line, most_lines, most_total}
use Rattle.month_lines.specs.Code.{beyond, capped, place, amount}
use Rattle.std.specs.declared.result.Result.{Result}
use Rattle.std.specs.declared.result.Result.TheVariants.{Ok, Err}
use Rattle.ari.specs.declared.Refusal.{Refusal}
use Rattle.ari.specs.Refusals.{refused}
use Rattle.month_figures.specs.Figures.{Figures, fits, lines_fit}
use Rattle.month_figures.specs.State.{words, first_place, first_amount, word, place_in, references_in, Holds}
use Rattle.month.specs.declared.Tally.{Tally}
use Rattle.month.specs.Adding.{judged}
use Rattle.month.specs.Code.{Held, tally_in, Fetches, tally_words, put_back, is_small, totals_small, lines_small, Judges, Settles}

-- a part copied into a part
pub copied_front : (d s : List ℕ) (at n : ℕ) {x : List ℕ} → x ≡ take (at + n - at) (drop at s) → x ++ drop n d ≡ paste d 0 (drop at s) n
copied_front d s at n e = let z : at + n - at ≡ n = omega arith in let y : 0 + n ≡ n = omega arith in rw (e, z, y)

pub copied_into : (d s : List ℕ) (at n : ℕ) {x : List ℕ} → x ≡ take n s → n ≤ length s → put_mid at (at + n - at) d x ≡ paste d at s n
copied_into d s at n {x} e h =
    let z : n ≡ at + n - at = omega arith in
    put_mid-paste at (at + n - at) d x (take n s) n e z (sym (length-take-le n s h)) ∙ rw (take-take n n s (omega arith))

-- figures that fit
both : (a b : Bool) → (a && b) ≡ true → (a ≡ true) × (b ≡ true)
both true b e = (refl, e)
both false b e = absurd (true≢false (sym e))

record Small (f : Figures) : Type 0 where
  messages : f.messages ≤ most_total
  bytes : f.bytes ≤ most_total
  items : f.items ≤ most_total
  unknown : f.unknown ≤ most_total
  relative : f.relative ≤ most_total
  lines : lines_fit f.lines ≡ true

small : (f : Figures) → fits f ≡ true → Small f
small f e =
    let (a, p) = both (leb f.messages most_total) _ e in
    let (b, q) = both (leb f.bytes most_total) _ p in
    let (c, r) = both (leb f.items most_total) _ q in
    let (d, s) = both (leb f.unknown most_total) _ r in
    let (g, t) = both (leb f.relative most_total) _ s in
    record {
      messages = leb-true f.messages most_total a;
      bytes = leb-true f.bytes most_total b;
      items = leb-true f.items most_total c;
      unknown = leb-true f.unknown most_total d;
      relative = leb-true f.relative most_total g;
      lines = t;
    }

own_amounts : (ls : List Line) → lines_fit ls ≡ true → map references_in ls ≡ map amount ls
own_amounts [] e = refl
own_amounts (l ∷ ls) e =
    let (a, b) = both (leb l.references most_total) _ e in
    let z : l.references ≡ min l.references beyond = omega (arith, leb-true l.references most_total a) in
    ap (λ (n : ℕ). n ∷ map references_in ls) z ∙ ap (λ (v : List ℕ). amount l ∷ v) (own_amounts ls b)

-- taken out
pub loaded : (ws : List ℕ) {n : ℕ} → n ≡ min (word ws 5) 256
    → record { messages = word ws 0; bytes = word ws 1; items = word ws 2; unknown = word ws 3; relative = word ws 4; lines = n } ≡ tally_in ws
loaded ws e = rw e

module _ (ws ps cs : List ℕ) (room : words ≤ length ws) (a : most_lines ≤ length ps) (b : most_lines ≤ length cs) {t : Tally} (e : t ≡ tally_in ws) where
  front_copied : (d s : List ℕ) (n : ℕ) → n ≤ length s → take n (paste d 0 s n) ≡ take n s
  front_copied d s n h = let z : 0 + n ≡ n = omega arith in ap (λ (k : ℕ). take k (paste d 0 s n)) (sym z) ∙ take-paste d 0 s n (omega arith) h

  pub fetched : {ps' cs' : List ℕ} → ps' ≡ paste ps 0 (drop first_place ws) t.lines → cs' ≡ paste cs 0 (drop first_amount ws) t.lines → Fetches ws t ps' cs'
  fetched {ps'} {cs'} p q = record { held = λ f h. held f h }
    where
      held : (f : Figures) → Holds ws f → Held t ps' cs' f
      held f h =
          let fit = small f h.fit in
          let n = length f.lines in
          let lines : t.lines ≡ n = ap (λ (u : Tally). u.lines) e ∙ (let z : min (word ws 5) 256 ≡ n = omega (arith, h.lines, h.few) in z) in
          let long-places : n ≤ length (drop first_place ws) = omega (arith, length-drop first_place ws, h.few) in
          let long-amounts : n ≤ length (drop first_amount ws) = omega (arith, length-drop first_amount ws, h.few) in
          record {
            messages = ap (λ (u : Tally). u.messages) e ∙ h.messages ∙ (let z : f.messages ≡ min f.messages beyond = omega (arith, fit.messages) in z);
            bytes = ap (λ (u : Tally). u.bytes) e ∙ h.bytes ∙ (let z : f.bytes ≡ min f.bytes beyond = omega (arith, fit.bytes) in z);
            items = ap (λ (u : Tally). u.items) e ∙ h.items ∙ (let z : f.items ≡ min f.items beyond = omega (arith, fit.items) in z);
            unknown = ap (λ (u : Tally). u.unknown) e ∙ h.unknown ∙ (let z : f.unknown ≡ min f.unknown beyond = omega (arith, fit.unknown) in z);
            relative = ap (λ (u : Tally). u.relative) e ∙ h.relative ∙ (let z : f.relative ≡ min f.relative beyond = omega (arith, fit.relative) in z);
            lined = record {
              size = omega (arith, lines, h.few);
              rising = h.rising;
              places = λ _. rw (p, lines) (front_copied ps (drop first_place ws) n long-places ∙ h.places);
              amounts = λ _. rw (q, lines) (front_copied cs (drop first_amount ws) n long-amounts ∙ h.amounts ∙ own_amounts f.lines fit.lines);
            };
          }

-- judged
small_is : (n : ℕ) → is_small (capped n) ≡ leb n most_total
small_is n = go (leb n most_total) refl
  where
    go : (t : Bool) → leb n most_total ≡ t → ltb (min n beyond) beyond ≡ t
    go true e = lt-ltb (min n beyond) beyond (omega (arith, leb-true n most_total e))
    go false e = le-ltb (min n beyond) beyond (omega (arith, leb-false n most_total e))

lines_small_are : (ls : List Line) → all is_small (map amount ls) ≡ lines_fit ls
lines_small_are [] = refl
lines_small_are (l ∷ ls) = rw (small_is l.references, lines_small_are ls)

grouped : (a b c d e l : Bool) → ((a && (b && (c && (d && e)))) && l) ≡ (a && (b && (c && (d && (e && l)))))
grouped true true true true e l = refl
grouped true true true false e l = refl
grouped true true false d e l = refl
grouped true false c d e l = refl
grouped false b c d e l = refl

module _ {t : Tally} {ps cs : List ℕ} {f : Figures} (h : Held t ps cs f) where
  totals_are : totals_small t ≡ (leb f.messages most_total && (leb f.bytes most_total && (leb f.items most_total && (leb f.unknown most_total && leb f.relative most_total))))
  totals_are =
      rw (h.messages, h.bytes, h.items, h.unknown, h.relative, small_is f.messages, small_is f.bytes, small_is f.items, small_is f.unknown, small_is f.relative)

  module _ (few : t.lines ≤ most_lines) where
    pub its_lines : t.lines ≡ length f.lines
    its_lines = omega (arith, h.lined.size)

    amounts_are : lines_small cs t.lines ≡ lines_fit f.lines
    amounts_are = ap (all is_small) (ap (λ (n : ℕ). take n cs) its_lines ∙ h.lined.amounts (omega (arith, its_lines))) ∙ lines_small_are f.lines

    fits_are : (totals_small t && lines_small cs t.lines) ≡ fits f
    fits_are =
        ap (λ (x : Bool). x && lines_small cs t.lines) totals_are
        ∙ ap (λ (x : Bool). (leb f.messages most_total && (leb f.bytes most_total && (leb f.items most_total && (leb f.unknown most_total && leb f.relative most_total)))) && x) amounts_are
        ∙ grouped (leb f.messages most_total) (leb f.bytes most_total) (leb f.items most_total) (leb f.unknown most_total) (leb f.relative most_total) (lines_fit f.lines)

    within_lines : judged f ≡ cond (totals_small t && lines_small cs t.lines) (Ok tt) (refused 26 0)
    within_lines = rw (le-ltb most_lines (length f.lines) (omega (arith, its_lines)), fits_are)

  too_many : most_lines < t.lines → refused 25 0 ≡ judged f
  too_many k = sym (rw (lt-ltb most_lines (length f.lines) (omega (arith, h.lined.size))))

pub refused_not_done : {i : Refusal} → ◌≡◌ {A = Result (Unit {0}) Refusal} (Err i) (Ok tt) → ⊥
refused_not_done e = let z : ◌≡◌ {A = ℕ} 0 1 = cc in omega arith

module _ (t : Tally) (cs : List ℕ) where
  pub judge_lines : most_lines < t.lines → Judges t cs (refused 25 0)
  judge_lines h = record { answer = λ ps f x. too_many x h; few = λ e. absurd (refused_not_done e) }

  module _ (few : t.lines ≤ most_lines) {a : Bool} (e : a ≡ totals_small t) where
    pub judge_totals : not a ≡ true → Judges t cs (refused 26 0)
    judge_totals n = record { answer = λ ps f x. sym (within_lines x few ∙ rw (← e, not-true a n)); few = λ _. few }

    module _ (n : not a ≡ false) {b : Bool} (g : b ≡ lines_small cs t.lines) where
      pub judge_amounts : not b ≡ true → Judges t cs (refused 26 0)
      judge_amounts k = record { answer = λ ps f x. sym (within_lines x few ∙ rw (← e, not-false a n, ← g, not-true b k)); few = λ _. few }

      pub judge_done : not b ≡ false → Judges t cs (Ok tt)
      judge_done k = record { answer = λ ps f x. sym (within_lines x few ∙ rw (← e, not-false a n, ← g, not-false b k)); few = λ _. few }

pub ruleset judges = (judge_lines, judge_totals, judge_amounts, judge_done)

module _ (t : Tally) where
  pub messages_beyond : beyond ≤ t.messages → false ≡ totals_small t
  messages_beyond h = sym (rw (le-ltb t.messages beyond h))

  module _ (a : t.messages < beyond) where
    pub bytes_beyond : beyond ≤ t.bytes → false ≡ totals_small t
    bytes_beyond h = sym (rw (lt-ltb t.messages beyond a, le-ltb t.bytes beyond h))

    module _ (b : t.bytes < beyond) where
      pub items_beyond : beyond ≤ t.items → false ≡ totals_small t
      items_beyond h = sym (rw (lt-ltb t.messages beyond a, lt-ltb t.bytes beyond b, le-ltb t.items beyond h))

      module _ (c : t.items < beyond) where
        pub unknown_beyond : beyond ≤ t.unknown → false ≡ totals_small t
        unknown_beyond h = sym (rw (lt-ltb t.messages beyond a, lt-ltb t.bytes beyond b, lt-ltb t.items beyond c, le-ltb t.unknown beyond h))

        pub relative_last : t.unknown < beyond → ltb t.relative beyond ≡ totals_small t
        relative_last d = sym (rw (lt-ltb t.messages beyond a, lt-ltb t.bytes beyond b, lt-ltb t.items beyond c, lt-ltb t.unknown beyond d))

pub ruleset smalls = (messages_beyond, bytes_beyond, items_beyond, unknown_beyond, relative_last)

pub record Checking (cs : List ℕ) (n i : ℕ) : Type 0 where
  pub on : lines_small cs n ≡ all is_small (take (n - i) (drop i cs))

module _ (cs : List ℕ) (n : ℕ) where
  pub checking_none : Checking cs n 0
  checking_none = let e : n - 0 ≡ n = omega arith in record { on = rw e }

  module _ {i : ℕ} (c : Checking cs n i) where
    pub checking_all : n ≤ i → true ≡ lines_small cs n
    checking_all h = let e : n - i ≡ 0 = omega arith in sym (c.on ∙ rw e)

    module _ (h : i < n) (long : n ≤ length cs) where
      here : lines_small cs n ≡ (is_small (get_or cs i 0) && all is_small (take (n - (i + 1)) (drop (i + 1) cs)))
      here =
          let e : n - i ≡ suc (n - (i + 1)) = omega arith in
          let d : drop i cs ≡ get_or cs i 0 ∷ drop (i + 1) cs = drop-cons cs i 0 (omega arith) ∙ rw (add-one i) in
          c.on ∙ rw (e, d)

      pub checking_fails : beyond ≤ get_or cs i 0 → false ≡ lines_small cs n
      checking_fails k = sym (here ∙ rw (le-ltb (get_or cs i 0) beyond k))

      pub checking_next : get_or cs i 0 < beyond → Checking cs n (i + 1)
      checking_next k = record { on = here ∙ rw (lt-ltb (get_or cs i 0) beyond k) }

pub ruleset checks = (checking_none, checking_all, checking_fails, checking_next)

-- put back
pub put_back_is : (ws : List ℕ) (t : Tally) (ps cs : List ℕ) {a b c : List ℕ} → a ≡ sets ws 0 (tally_words t) → b ≡ paste a first_place ps t.lines → c ≡ paste b first_amount cs t.lines
    → c ≡ put_back ws t ps cs
unfolding put_back
put_back_is ws t ps cs e f g = g ∙ rw (f, e)

module _ (d : List ℕ) (at : ℕ) (s : List ℕ) (n : ℕ) (inside : at ≤ length d) (long : n ≤ length s) where
  before : (k : ℕ) → k ≤ at → take k (paste d at s n) ≡ take k d
  before k h =
      let front : take at (paste d at s n) ≡ take at d =
      sym (take-take at (at + n) (paste d at s n) (omega arith)) ∙ ap (take at) (take-paste d at s n inside long) ∙ take_at (take at d) (take n s) at (length-take-le at d inside) in
      sym (take-take k at (paste d at s n) h) ∙ ap (take k) front ∙ take-take k at d h

  word_before : (j : ℕ) → j < at → word (paste d at s n) j ≡ word d j
  word_before j h =
      sym (get_or-take at (paste d at s n) j 0 h) ∙ ap (λ (v : List ℕ). get_or v j 0) (before at (omega arith)) ∙ get_or-take at d j 0 h

  pasted : drop at (take (at + n) (paste d at s n)) ≡ take n s
  pasted = ap (drop at) (take-paste d at s n inside long) ∙ drop_at (take at d) (take n s) at (length-take-le at d inside)

middle : (l : List ℕ) (m n : ℕ) → m ≤ length l → take n (drop m l) ≡ drop m (take (m + n) l)
middle l m n h = sym (ap (drop m) (take-add m n l) ∙ drop_at (take m l) (take n (drop m l)) m (length-take-le m l h))

module _ (ws : List ℕ) (t : Tally) (ps cs : List ℕ) (room : words ≤ length ws) (a : most_lines ≤ length ps) (b : most_lines ≤ length cs) (few : t.lines ≤ most_lines) where
  abbrev base : List ℕ
  base = sets ws 0 (tally_words t)

  abbrev one : List ℕ
  one = paste base first_place ps t.lines

  abbrev two : List ℕ
  two = paste one first_amount cs t.lines

  base_long : length base ≡ length ws
  base_long = length-sets ws 0 (tally_words t)

  one_long : length one ≡ length ws
  one_long = length-paste base first_place ps t.lines (omega (arith, base_long)) (omega arith) ∙ base_long

  two_long : length two ≡ length ws
  two_long = length-paste one first_amount cs t.lines (omega (arith, one_long)) (omega arith) ∙ one_long

  base_is : base ≡ tally_words t ++ drop 6 ws
  base_is = sets-eq (tally_words t) ws 0 (omega arith)

  total_there : (j : ℕ) → j < first_place → word two j ≡ word (tally_words t ++ drop 6 ws) j
  total_there j h =
      word_before one first_amount cs t.lines (omega (arith, one_long)) (omega arith) j (omega arith)
      ∙ word_before base first_place ps t.lines (omega (arith, base_long)) (omega arith) j h ∙ ap (λ (v : List ℕ). word v j) base_is

  places_there : take t.lines (drop first_place two) ≡ take t.lines ps
  places_there =
      middle two first_place t.lines (omega (arith, two_long))
      ∙ ap (drop first_place) (before one first_amount cs t.lines (omega (arith, one_long)) (omega arith) (first_place + t.lines) (omega arith))
      ∙ pasted base first_place ps t.lines (omega (arith, base_long)) (omega arith)

  amounts_there : take t.lines (drop first_amount two) ≡ take t.lines cs
  amounts_there = middle two first_amount t.lines (omega (arith, two_long)) ∙ pasted one first_amount cs t.lines (omega (arith, one_long)) (omega arith)

  put_back_holds : {f : Figures} → Held t ps cs f → fits f ≡ true → Holds (put_back ws t ps cs) f
  unfolding put_back
  put_back_holds {f} h fit =
      let s = small f fit in
      let n : t.lines ≡ length f.lines = its_lines h few in
      let amounts : map amount f.lines ≡ map references_in f.lines = sym (own_amounts f.lines s.lines) in
      record {
        room = omega (arith, two_long);
        messages = total_there 0 (omega arith) ∙ h.messages ∙ (let z : min f.messages beyond ≡ f.messages = omega (arith, s.messages) in z);
        bytes = total_there 1 (omega arith) ∙ h.bytes ∙ (let z : min f.bytes beyond ≡ f.bytes = omega (arith, s.bytes) in z);
        items = total_there 2 (omega arith) ∙ h.items ∙ (let z : min f.items beyond ≡ f.items = omega (arith, s.items) in z);
        unknown = total_there 3 (omega arith) ∙ h.unknown ∙ (let z : min f.unknown beyond ≡ f.unknown = omega (arith, s.unknown) in z);
        relative = total_there 4 (omega arith) ∙ h.relative ∙ (let z : min f.relative beyond ≡ f.relative = omega (arith, s.relative) in z);
        lines = total_there 5 (omega arith) ∙ n;
        few = omega (arith, n);
        rising = h.lined.rising;
        fit = fit;
        places = ap (λ (k : ℕ). take k (drop first_place two)) (sym n) ∙ places_there ∙ ap (λ (k : ℕ). take k ps) n ∙ h.lined.places (omega (arith, n));
        amounts = ap (λ (k : ℕ). take k (drop first_amount two)) (sym n) ∙ amounts_there ∙ ap (λ (k : ℕ). take k cs) n ∙ h.lined.amounts (omega (arith, n)) ∙ amounts;
      }

judged_fit : (f : Figures) → Ok tt ≡ judged f → fits f ≡ true
judged_fit f = go (ltb most_lines (length f.lines)) (fits f)
  where
    go : (x y : Bool) → Ok (tt {0}) ≡ cond x (refused 25 0) (cond y (Ok (tt {0})) (refused 26 0)) → y ≡ true
    go true y e = absurd (refused_not_done (sym e))
    go false true e = refl
    go false false e = absurd (refused_not_done (sym e))

module _ (ws : List ℕ) (t : Tally) (ps cs : List ℕ) {r : Result (Unit {0}) Refusal} (j : Judges t cs r) where
  pub settle_few : r ≡ Ok tt → t.lines ≤ most_lines
  settle_few e = j.few e

  pub settle_refused : {i : Refusal} → r ≡ Err i → Settles ws t ps cs (Err i) ws
  settle_refused e = record { kept = λ _. refl; answer = λ f h. (sym e ∙ j.answer ps f h, λ d. absurd (refused_not_done d)) }

  pub settle_done : words ≤ length ws → most_lines ≤ length ps → most_lines ≤ length cs → r ≡ Ok tt → {ws' : List ℕ} → ws' ≡ put_back ws t ps cs → Settles ws t ps cs (Ok tt) ws'
  settle_done room a b e g = record {
    kept = λ n. absurd (n refl);
    answer = λ f h. let q = sym e ∙ j.answer ps f h in (q, λ _. rw g (put_back_holds ws t ps cs room a b (j.few e) h (judged_fit f q)));
  }

pub ruleset settles = (settle_few, settle_refused, settle_done)
