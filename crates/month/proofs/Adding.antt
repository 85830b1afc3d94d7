-- The whole of `add`: the file's refusals, 19, then what the figures with the file's messages say.
use Prim.Native.Nat.{ℕ, ◌<◌, ◌≤◌}
use mathlib.Core.Path.{◌≡◌, refl, sym, ◌∙◌, ap}
use mathlib.Core.List.{List, ◌++◌, map}
use native.Mathlib.Omega.{arith}
use lib.ListN.{length}
use lib.Dec.{ltb}
use borrow.Author.Tests.{lt-ltb, le-ltb, ltb-true, ltb-false}
use mathlib.Core.Bool.{Bool, true, false, cond}
use Rattle.ari.specs.declared.Limits.{Limits}
use Rattle.ari.specs.Limits.{capped}
use Rattle.day_file.specs.Versions.{format_of, limits_of}
use Rattle.day_file.proofs.Days.{capped_limits}
use Rattle.names.specs.declared.Names.{Names}
use Rattle.names.specs.declared.Names.TheVariants as lists
use Rattle.names.specs.Names.{check_names}
use Rattle.day_file.specs.declared.Format.{Format}
use Rattle.std.specs.declared.result.Result.{Result}
use Rattle.std.specs.declared.result.Result.TheVariants.{Ok, Err}
use Rattle.std.specs.Result.{result_and}
use Rattle.ari.specs.declared.Refusal.{Refusal}
use Rattle.ari.specs.Refusals.{refused}
use Rattle.day_file.specs.Day.{messages_from, messages_in, message_stands, first_not, Sized, outline_day, check_day}
use Rattle.day_file.proofs.Ways.{outline_refused, bad_message, day_passes, sized_count}
use Rattle.month_figures.specs.Figures.{Message, Source, message_with, messages_of, Figures, figures}
use Rattle.month_figures.specs.State.{words, Holds}
use Rattle.month.specs.declared.Tally.{Tally}
use Rattle.month.specs.Adding.{source_of, judged, added_by, add_of, Adds}
use Rattle.month.specs.Code.{with_messages, Fetches, Settles, CountedBy, CountedOn, filed_by, Files}
use Rattle.month.proofs.Walking.{FileBy, FileWalked}
use Rattle.month.proofs.Sums.{figures_plus}
use Rattle.month.proofs.Keeping.{refused_not_done}

-- 22 with the first message that is refused, or what the figures say with all n messages of a file
abbrev pub unless_refused : ℕ → ℕ → Result (Unit {0}) Refusal → Result (Unit {0}) Refusal
unless_refused k n r = cond (ltb k n) (refused 22 k) r

pub record MessagesAdded (f : Format) (m : Limits) (b : List ℕ) (n : ℕ) (published own ws : List ℕ) (r : Result (Unit {0}) Refusal) (ws' : List ℕ) : Type 0 where
  pub kept : (r ≡ Ok tt → ⊥) → ws' ≡ ws
  pub answer : (x : Figures) → Holds ws x
      → (r ≡ unless_refused (first_not (message_stands f m b) 0 n) n (judged (with_messages (map (message_with published own) (messages_from f b 0 n)) x)))
      × (r ≡ Ok tt → Holds ws' (with_messages (map (message_with published own) (messages_from f b 0 n)) x))

module _ (f : Format) (m : Limits) (b : List ℕ) (n : ℕ) (published own ws : List ℕ) where
  pub counted_on : {t : Tally} {ps cs : List ℕ} → Fetches ws t ps cs → {w : Result Tally ℕ} {ps' cs' : List ℕ} → FileWalked f m b n published own t ps cs w ps' cs' → CountedOn f m b n published own ws w ps' cs'
  counted_on {t} {ps} {cs} h {w} {ps'} {cs'} u = record { by = go w u.by }
    where
      go : (w : Result Tally ℕ) → FileBy f m b n published own t ps cs w ps' cs' → CountedBy f m b n published own ws w ps' cs'
      go (Ok t') (every, goes) = (every, λ x held. goes.on x (h.held x held))
      go (Err k) c = c

  module _ {w : Result Tally ℕ} {ps cs : List ℕ} (u : CountedOn f m b n published own ws w ps cs) where
    pub messages_refused : {k : ℕ} → w ≡ Err k → MessagesAdded f m b n published own ws (refused 22 k) ws
    messages_refused {k} i =
        let (first, less) = rw i at u.by in
        record { kept = λ _. refl; answer = λ x held. (sym (rw (← first, lt-ltb k n less)), λ q. absurd (refused_not_done q)) }

    pub messages_settled : {t : Tally} → w ≡ Ok t → {r : Result (Unit {0}) Refusal} {ws' : List ℕ} → Settles ws t ps cs r ws' → MessagesAdded f m b n published own ws r ws'
    messages_settled i v =
        let (every, counted) = rw i at u.by in
        record { kept = v.kept; answer = λ x held. let (answer, after) = v.answer _ (counted x held) in (answer ∙ sym (rw (← every, le-ltb n n (omega arith))), after) }

pub ruleset messages = (messages_refused, messages_settled)

module _ (f : Format) (m : Limits) (b published own ws : List ℕ) {d : Result ℕ Refusal} (e : d ≡ outline_day f b) where
  abbrev all_of : List Message
  all_of = map (message_with published own) (messages_in f b)

  pub file_refused : {i : Refusal} → d ≡ Err i → Files f m b published own ws (Err i) ws
  file_refused g = record {
    kept = λ _. refl;
    answer = λ x h. (ap (λ (y : Result ℕ Refusal). filed_by y (with_messages all_of x)) (outline_refused f m b e g), λ q. absurd (refused_not_done q));
  }

  pub file_went : Sized f b d → {n : ℕ} → d ≡ Ok n → {r : Result (Unit {0}) Refusal} {ws' : List ℕ} → MessagesAdded f m b n published own ws r ws' → Files f m b published own ws r ws'
  file_went s {n} g {r} {ws'} a = record { kept = a.kept; answer = λ x h. let (answer, after) = a.answer x h in (answer ∙ go x (ltb first n) refl, λ q. rw (messages) at (after q)) }
    where
      first : ℕ
      first = first_not (message_stands f m b) 0 n

      messages : map (message_with published own) (messages_from f b 0 n) ≡ all_of
      messages = ap (λ (k : ℕ). map (message_with published own) (messages_from f b 0 k)) (sized_count f b s g)

      go : (x : Figures) (t : Bool) → ltb (first_not (message_stands f m b) 0 n) n ≡ t
          → cond t (refused 22 (first_not (message_stands f m b) 0 n)) (judged (with_messages (map (message_with published own) (messages_from f b 0 n)) x)) ≡ filed_by (check_day f m b) (with_messages all_of x)
      go x true i = ap (λ (y : Result ℕ Refusal). filed_by y (with_messages all_of x)) (bad_message f m b e g refl (ltb-true _ n i))
      go x false i =
          ap (λ (y : List Message). judged (with_messages y x)) messages ∙ ap (λ (y : Result ℕ Refusal). filed_by y (with_messages all_of x)) (day_passes f m b e g refl (ltb-false _ n i))

pub ruleset files = (file_refused, file_went)

module _ (f : Format) (m : Limits) (b published own ws : List ℕ) (room : words ≤ length ws) {c : Names} (e : c ≡ check_names published own) where
  abbrev source : Source
  source = source_of f b published own

  by_day : (d : Result ℕ Refusal) (x : Figures) → filed_by d x ≡ added_by d lists.Passes x
  by_day (Err i) x = refl
  by_day (Ok n) x = refl

  pub add_passed : c ≡ lists.Passes → {r : Result (Unit {0}) Refusal} {ws' : List ℕ} → Files f m b published own ws r ws' → Adds m ws source r ws'
  unfolding add_of
  add_passed g {r} {ws'} h = record {
    short = λ l. absurd (omega arith);
    kept = h.kept;
    after = λ xs held.
        let (answer, after) = h.answer (figures xs) held in
        let whole : with_messages (messages_of source) (figures xs) ≡ figures (xs ++ messages_of source) = figures_plus xs (messages_of source) in
        let names : lists.Passes ≡ check_names published own = sym g ∙ e in (
          answer ∙ by_day (check_day f m b) (with_messages (messages_of source) (figures xs)) ∙ ap (λ (q : Names). added_by (check_day f m b) q (with_messages (messages_of source) (figures xs))) names
              ∙ ap (added_by (check_day f m b) (check_names published own)) whole,
          λ d. rw whole at (after d),
        );
  }

  module _ {p : ℕ} (g : c ≡ lists.Refused p) {d : Result ℕ Refusal} (i : d ≡ check_day f m b) where
    pub add_wrong_file : {i : Refusal} → d ≡ Err i → Adds m ws source (Err i) ws
    unfolding add_of
    add_wrong_file j = record {
      short = λ l. absurd (omega arith);
      kept = λ _. refl;
      after = λ xs held. (ap (λ (y : Result ℕ Refusal). added_by y (check_names published own) (figures (xs ++ messages_of source))) (sym j ∙ i), λ z. absurd (refused_not_done z));
    }

    pub add_wrong_list : {n : ℕ} → d ≡ Ok n → Adds m ws source (refused 19 p) ws
    unfolding add_of
    add_wrong_list {n} j = record {
      short = λ l. absurd (omega arith);
      kept = λ _. refl;
      after = λ xs held. (
        ap (λ (y : Names). added_by (Ok n) y (figures (xs ++ messages_of source))) (sym g ∙ e)
            ∙ ap (λ (y : Result ℕ Refusal). added_by y (check_names published own) (figures (xs ++ messages_of source))) (sym j ∙ i),
        λ z. absurd (refused_not_done z),
      );
    }

    pub add_wrong : {r : Result (Unit {0}) Refusal} → r ≡ result_and d (refused 19 p) → Adds m ws source r ws
    add_wrong {r} h = go d refl
      where
        go : (y : Result ℕ Refusal) → d ≡ y → Adds m ws source r ws
        go (Err i) j = rw (h, j) (add_wrong_file j)
        go (Ok n) j = rw (h, j) (add_wrong_list j)

pub add_short : (m : Limits) (ws : List ℕ) (s : Source) → length ws < words → Adds m ws s (refused 16 4144) ws
add_short m ws s h = record { short = λ _. refl; kept = λ _. refl; after = λ xs held. absurd (omega (arith, held.room)) }

pub ruleset adds = (add_passed, add_wrong)

module _ (ws : List ℕ) (s : Source) {r : Result (Unit {0}) Refusal} {ws' : List ℕ} where
  pub add_capped : (m : Limits) {c : Limits} → c ≡ capped m → Adds c ws s r ws' → Adds (capped m) ws s r ws'
  add_capped m e a = rw (← e) a

pub add_version : (b published own ws : List ℕ) {r : Result (Unit {0}) Refusal} {ws' : List ℕ} {f : Format} → f ≡ format_of b → {m : Limits} → m ≡ limits_of b → Adds (capped m) ws (source_of f b published own) r ws'
    → Adds (limits_of b) ws (source_of (format_of b) b published own) r ws'
add_version b published own ws {r} {ws'} e {m} g a =
    let limits : capped m ≡ limits_of b = ap capped g ∙ capped_limits b in
    rw (← e, ← limits) a

pub ruleset within = (add_short, add_capped)
