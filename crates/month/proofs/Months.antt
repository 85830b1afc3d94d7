-- A month: what a state that began empty and went through these calls only keeps and shows, and when a file is refused.
use Prim.Native.Nat.{ℕ, ◌<◌, ◌≤◌}
use mathlib.Core.Logic.{◌↔◌}
use mathlib.Core.Path.{◌≡◌, refl, sym, ◌∙◌, ap}
use mathlib.Core.Bool.{Bool, true, false, cond, true≢false}
use mathlib.Core.List.{List, [], ◌∷◌, ◌++◌, append-nil, append_assoc, Permᴰ}
use native.Mathlib.Omega.{arith}
use lib.ListN.{length}
use lib.Dec.{ltb}
use borrow.Author.Tests.{ltb-true, ltb-false, lt-ltb, le-ltb}
use Rattle.ari.specs.declared.Limits.{Limits}
use Rattle.names.specs.declared.Names.{Names}
use Rattle.names.specs.declared.Names.TheVariants as lists
use Rattle.names.specs.Names.{check_names}
use Rattle.day_file.specs.Day.{check_day}
use Rattle.month_lines.specs.Lines.{most_lines}
use Rattle.std.specs.declared.result.Result.{Result}
use Rattle.std.specs.declared.result.Result.TheVariants.{Ok, Err}
use Rattle.ari.specs.declared.Refusal.{Refusal}
use Rattle.ari.specs.Refusals as refusals
use Rattle.month_figures.specs.Figures.{Source, Message, messages_of, month, Figures, figures, fits}
use Rattle.month_figures.specs.State.{words, word, Holds, Opens, figures_bytes, shown_of, room_after, Shows}
use Rattle.month_figures.proofs.Words.{fresh}
use Rattle.month_figures.proofs.Figured.{in_any_order, fewer_lines, fewer_fit}
use Rattle.month.proofs.Keeping.{refused_not_done}
use Rattle.month.specs.Adding.{judged, added_by, add_of, Adds}

-- The state ws began as zeros or was opened, and went through these calls only; the files ss were counted since, in this order, each within limits of its own.
-- A call keeps the size of what it is lent.
pub data Went : List ℕ → List Source → Type 0 where
  zeros : {ws : List ℕ} → words ≤ length ws → ((k : ℕ) → word ws k ≡ 0) → Went ws []
  opened : {ws ws' : List ℕ} {r : Result (Unit {0}) Refusal} → words ≤ length ws → Opens ws r ws' → Went ws' []
  counted : {m : Limits} {ws ws' : List ℕ} {s : Source} {ss : List Source} → Went ws ss → Adds m ws s (Ok tt) ws' → Went ws' (ss ++ (s ∷ []))
  refused : {m : Limits} {ws ws' : List ℕ} {s : Source} {ss : List Source} {i : Refusal} → Went ws ss → Adds m ws s (Err i) ws' → Went ws' ss

month_append : (ss tt : List Source) → month (ss ++ tt) ≡ month ss ++ month tt
month_append [] tt = refl
month_append (s ∷ ss) tt = ap (λ (l : List Message). messages_of s ++ l) (month_append ss tt) ∙ sym (append_assoc (messages_of s) (month ss) (month tt))

one_more : (ss : List Source) (s : Source) → month (ss ++ (s ∷ [])) ≡ month ss ++ messages_of s
one_more ss s = month_append ss (s ∷ []) ∙ ap (λ (l : List Message). month ss ++ l) (append-nil (messages_of s))

-- each call keeps the figures of the files that were counted
keeps : {ws : List ℕ} {ss : List Source} → Went ws ss → Holds ws (figures (month ss))
keeps {ws} (zeros h z) = fresh ws h (λ k l. z k)
keeps (opened h o) = (o.afresh h).1
keeps {ws} (counted {s = s} {ss = ss} w a) = rw (one_more ss s) ((a.after (month ss) (keeps w)).1 refl)
keeps (refused w a) = rw (a.kept refused_not_done) (keeps w)

-- R209 to R215: what is read are the figures of the files that were counted
pub reads_the_figures : {ws : List ℕ} {ss : List Source} → Went ws ss → {out out' : List ℕ} {r : Result ℕ Refusal} → Shows ws out r out'
    → (r ≡ shown_of (length (figures (month ss)).lines) (length out)) × (out' ≡ room_after r (figures_bytes (figures (month ss))) out)
reads_the_figures {ss = ss} w s = s.figures_are (figures (month ss)) (keeps w)

-- in whatever order they were counted
pub same_in_any_order : {ws ws' : List ℕ} {ss tt : List Source} → Went ws ss → Went ws' tt → Permᴰ ss tt → {out a b : List ℕ} {r q : Result ℕ Refusal} → Shows ws out r a → Shows ws' out q b → (r ≡ q) × (a ≡ b)
same_in_any_order {ss = ss} {tt = tt} w v p {out} {a} {b} {r} {q} x y =
    let same : figures (month ss) ≡ figures (month tt) = in_any_order p in
    let (i, j) = reads_the_figures w x in
    let (k, l) = reads_the_figures v y in
    let answers : r ≡ q = i ∙ ap (λ (f : Figures). shown_of (length f.lines) (length out)) same ∙ sym k in
    (answers, j ∙ ap (λ (f : Figures). room_after r (figures_bytes f) out) same ∙ ap (λ (z : Result ℕ Refusal). room_after z (figures_bytes (figures (month tt))) out) answers ∙ sym l)

-- and where all of them are counted in one order, no order of them refuses one
abbrev Within : Figures → Type 0
Within f = judged f ≡ Ok tt

judged_within : (f : Figures) → Within f ↔ ((length f.lines ≤ most_lines) × (fits f ≡ true))
judged_within f = (λ e. go (ltb most_lines (length f.lines)) refl (fits f) refl e, λ h. rw (le-ltb most_lines (length f.lines) h.0, h.1))
  where
    go : (x : Bool) → ltb most_lines (length f.lines) ≡ x → (y : Bool) → fits f ≡ y → cond x (refusals.refused 25 0) (cond y (Ok (tt {0})) (refusals.refused 26 0)) ≡ Ok (tt {0}) → (length f.lines ≤ most_lines) × (fits f ≡ true)
    go true i y j e = absurd (refused_not_done e)
    go false i true j e = (ltb-false most_lines (length f.lines) i, j)
    go false i false j e = absurd (refused_not_done e)

pub fewer_are_within : (xs ys : List Message) → Within (figures (xs ++ ys)) → Within (figures xs)
fewer_are_within xs ys e =
    let (a, b) = (judged_within (figures (xs ++ ys))).0 e in
    (judged_within (figures xs)).1 (omega (arith, fewer_lines xs ys), fewer_fit xs ys b)

-- R214: a refused file changes nothing, whatever the words are
pub refused_changes_nothing : {m : Limits} {ws ws' : List ℕ} {s : Source} {i : Refusal} → Adds m ws s (Err i) ws' → ws' ≡ ws
refused_changes_nothing a = a.kept refused_not_done

abbrev number_in : Result (Unit {0}) Refusal → ℕ
number_in (Err e) = refusals.number_of e.fault
number_in (Ok u) = 0

-- R213: of a file and lists that pass
module _ {ws : List ℕ} {ss : List Source} (w : Went ws ss) {m : Limits} {s : Source} {n : ℕ} (file : check_day s.format m s.file ≡ Ok n) (names : check_names s.published s.own ≡ lists.Passes)
    {r : Result (Unit {0}) Refusal} {ws' : List ℕ} (a : Adds m ws s r ws') where
  abbrev then : Figures
  then = figures (month (ss ++ (s ∷ [])))

  answered : r ≡ judged then
  unfolding add_of
  answered =
      (a.after (month ss) (keeps w)).0 ∙ rw (file, names) (ap (λ (l : List Message). judged (figures l)) (sym (one_more ss s)))

  by : (x y : Bool) → ltb most_lines (length then.lines) ≡ x → fits then ≡ y → r ≡ cond x (refusals.refused 25 0) (cond y (Ok tt) (refusals.refused 26 0))
  by x y e f = answered ∙ rw (e, f)

  -- 25 exactly if there would be a 257th namespace
  pub twenty_five_exactly_if : (r ≡ refusals.refused 25 0) ↔ (most_lines < length then.lines)
  twenty_five_exactly_if = (λ e. go (ltb most_lines (length then.lines)) refl (fits then) refl e, λ h. by true (fits then) (lt-ltb most_lines (length then.lines) h) refl)
    where
      go : (x : Bool) → ltb most_lines (length then.lines) ≡ x → (y : Bool) → fits then ≡ y → r ≡ refusals.refused 25 0 → most_lines < length then.lines
      go true i y j e = ltb-true most_lines (length then.lines) i
      go false i true j e = absurd (refused_not_done (sym e ∙ by false true i j))
      go false i false j e = absurd (let z : ◌≡◌ {A = Result (Unit {0}) Refusal} (refusals.refused 25 0) (refusals.refused 26 0) = sym e ∙ by false false i j in let q : ◌≡◌ {A = ℕ} 25 26 = ap number_in z in omega arith)

  -- 26 exactly if not so and some total would pass its bound
  pub twenty_six_exactly_if : (r ≡ refusals.refused 26 0) ↔ ((length then.lines ≤ most_lines) × (fits then ≡ false))
  twenty_six_exactly_if = (λ e. go (ltb most_lines (length then.lines)) refl (fits then) refl e, λ h. by false false (le-ltb most_lines (length then.lines) h.0) h.1)
    where
      go : (x : Bool) → ltb most_lines (length then.lines) ≡ x → (y : Bool) → fits then ≡ y → r ≡ refusals.refused 26 0 → (length then.lines ≤ most_lines) × (fits then ≡ false)
      go true i y j e = absurd (let z : ◌≡◌ {A = Result (Unit {0}) Refusal} (refusals.refused 26 0) (refusals.refused 25 0) = sym e ∙ by true y i j in let q : ◌≡◌ {A = ℕ} 26 25 = ap number_in z in omega arith)
      go false i true j e = absurd (refused_not_done (sym e ∙ by false true i j))
      go false i false j e = (ltb-false most_lines (length then.lines) i, j)

  -- and it is counted otherwise
  pub counted_exactly_if : (r ≡ Ok tt) ↔ ((length then.lines ≤ most_lines) × (fits then ≡ true))
  counted_exactly_if = (λ e. (judged_within then).0 (sym answered ∙ e), λ h. answered ∙ (judged_within then).1 h)
