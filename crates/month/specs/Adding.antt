-- One day file more: R213, R214. Interface: all of it.
use Rattle.std.specs.Prelude.{ℕ, ◌*◌, ◌<◌, ◌≡◌, cond, List, ◌++◌, length, ltb}
use Rattle.std.specs.declared.result.Result.{Result}
use Rattle.std.specs.declared.result.Result.TheVariants.{Ok, Err}
use Rattle.ari.specs.declared.Limits.{Limits}
use Rattle.ari.specs.declared.Refusal.{Refusal}
use Rattle.ari.specs.Refusals.{refused}
use Rattle.names.specs.declared.Names.{Names}
use Rattle.names.specs.declared.Names.TheVariants as lists
use Rattle.names.specs.Names.{check_names}
use Rattle.day_file.specs.declared.Format.{Format}
use Rattle.day_file.specs.Day.{check_day}
use Rattle.month_lines.specs.Lines.{most_lines}
use Rattle.month_figures.specs.Figures.{Source, Message, messages_of, Figures, figures, fits}
use Rattle.month_figures.specs.State.{words, Holds}

abbrev pub source_of : Format → List ℕ → List ℕ → List ℕ → Source
source_of f b published own = record { format = f; file = b; published = published; own = own }

-- R213: 25 for one namespace too many, then 26 for a total beyond the most, of the figures as they would be
abbrev pub judged : Figures → Result (Unit {0}) Refusal
judged f = cond (ltb most_lines (length f.lines)) (refused 25 0) (cond (fits f) (Ok tt) (refused 26 0))

-- the file's refusals and 19 come first
abbrev pub added_by : Result ℕ Refusal → Names → Figures → Result (Unit {0}) Refusal
added_by (Err e) c f = Err e
added_by (Ok n) (lists.Refused p) f = refused 19 p
added_by (Ok n) lists.Passes f = judged f

-- a file added to a month that has the messages xs
unfoldable pub add_of : Limits → List Message → Source → Result (Unit {0}) Refusal
add_of m xs s = added_by (check_day s.format m s.file) (check_names s.published s.own) (figures (xs ++ messages_of s))

-- R214: a refused file changes nothing, whatever the words are; one that is not refused is counted
pub record Adds (m : Limits) (ws : List ℕ) (s : Source) (r : Result (Unit {0}) Refusal) (ws' : List ℕ) : Type 0 where
  pub short : length ws < words → r ≡ refused 16 (words * 8)
  pub kept : (r ≡ Ok tt → ⊥) → ws' ≡ ws
  pub after : (xs : List Message) → Holds ws (figures xs) → (r ≡ add_of m xs s) × (r ≡ Ok tt → Holds ws' (figures (xs ++ messages_of s)))
