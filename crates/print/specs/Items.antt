-- Lines one after another in a buffer that is written out, and starts anew, where the next line may not have room. Interface: all of it.
use Rattle.std.specs.Prelude.{ℕ, zero, suc, ◌-◌, cond, List, length, get_or, leb}
use Rattle.std.specs.declared.result.Result.{Result}
use Rattle.std.specs.declared.result.Result.TheVariants.{Ok, Err}
use Rattle.ari.specs.declared.Refusal.{Refusal}
use Rattle.ari.specs.Refusals.{number_of}
use Rattle.item_records.specs.Records.{record_from}
use Rattle.item_records.specs.Numbered.{targets_to}
use Rattle.buffer.specs.Put.{Put}
use Rattle.print.specs.Texts.{line_of, refused_of, accepted_of}

-- where the next line starts: 256 bytes are kept for it
abbrev pub fresh_of : ℕ → ℕ → ℕ
fresh_of at room = cond (leb 256 (room - at)) at 0

abbrev pub answer_line : Result ℕ Refusal → List ℕ
answer_line (Ok n) = accepted_of n
answer_line (Err e) = refused_of (number_of e.fault) e.place

-- from a buffer and a place: the lines of the first items of an input s, so many, by the words t of its table, leave this buffer and this place
pub data Listed (s t indent xs : List ℕ) (at : ℕ) : ℕ → List ℕ → ℕ → Type 0 where
  none : Listed s t indent xs at zero xs at
  more : {k p q : ℕ} {ys zs : List ℕ} → Listed s t indent xs at k ys p → Put ys zs (fresh_of p (length ys)) q (line_of k (record_from s (targets_to t (suc k)) (get_or t k 0)) indent)
      → Listed s t indent xs at (suc k) zs q
