-- A search within the limits of a file's version, which are none above the gate's own.
use Prim.Native.Nat.{ℕ}
use mathlib.Core.Path.{◌≡◌, ◌∙◌}
use mathlib.Core.List.{List}
use Rattle.ari.specs.declared.Limits.{Limits}
use Rattle.ari.specs.Limits.{capped}
use Rattle.day_file.specs.declared.Format.{Format}
use Rattle.day_file.specs.Versions.{format_of, limits_of}
use Rattle.day_file.proofs.Days.{capped_limits}
use Rattle.std.specs.declared.result.Result.{Result}
use Rattle.ari.specs.declared.Refusal.{Refusal}
use Rattle.day_search.specs.Search.{search_day, hits, room_after}
use Rattle.answer_codes.specs.Code.{search_code}

module _ (b published own : List ℕ) (w room : ℕ) {f : Format} (ef : f ≡ format_of b) {m : Limits} (em : m ≡ limits_of b) where
  pub search_code_lem : {s : Result ℕ Refusal} → s ≡ search_day f (capped m) b published own w room → {r : ℕ} → r ≡ search_code s
      → r ≡ search_code (search_day (format_of b) (limits_of b) b published own w room)
  search_code_lem e q = q ∙ rw (e, ef, em, capped_limits b)

  pub search_room : {s : Result ℕ Refusal} → s ≡ search_day f (capped m) b published own w room → (o : List ℕ) {o' : List ℕ} → o' ≡ room_after s (hits f b published own w) o
      → o' ≡ room_after (search_day (format_of b) (limits_of b) b published own w room) (hits (format_of b) b published own w) o
  search_room e o q = q ∙ rw (e, ef, em, capped_limits b)
