-- Laws of lines: where a line starts; the text of an answer; one more item.
use Prim.Native.Nat.{ℕ, ◌+◌, ◌-◌, ◌≤◌, ◌<◌}
use mathlib.Core.Path.{◌≡◌}
use mathlib.Core.List.{List}
use native.Mathlib.Omega.{arith}
use native.Mathlib.Numerals.{add-one}
use lib.ListN.{length, get_or}
use borrow.Author.Tests.{le-leb, lt-leb}
use Rattle.std.specs.declared.result.Result.{Result}
use Rattle.ari.specs.declared.Refusal.{Refusal}
use Rattle.item_records.specs.declared.Record.{Record}
use Rattle.item_records.specs.declared.Targets.{Targets}
use Rattle.item_records.specs.Records.{record_from}
use Rattle.item_records.specs.Numbered.{passed_by, targets_to}
use Rattle.item_records.proofs.Counting.{passed_one}
use Rattle.buffer.specs.Put.{Put}
use Rattle.print.specs.Texts.{line_of}
use Rattle.print.specs.Items.{fresh_of, answer_line, Listed, none, more}

pub fresh_here : (at room : ℕ) {l : ℕ} → l ≡ room - at → 256 ≤ l → at ≡ fresh_of at room
fresh_here at room e h = rw (le-leb 256 (room - at) (omega arith))

pub fresh_anew : (at room : ℕ) {l : ℕ} → l ≡ room - at → l < 256 → 0 ≡ fresh_of at room
fresh_anew at room e h = rw (lt-leb 256 (room - at) (omega arith))

pub of_answer : {a b : Result ℕ Refusal} {xs ys : List ℕ} {p q r : ℕ} → a ≡ b → p ≡ q → Put xs ys p r (answer_line b) → Put xs ys q r (answer_line a)
of_answer e f h = rw (e, ← f) h

pub of_item : (s : List ℕ) (t : Targets) (e k : ℕ) (indent : List ℕ) {x : Record} {p q r : ℕ} {xs ys : List ℕ} → x ≡ record_from s t e → p ≡ q
    → Put xs ys p r (line_of k x indent) → Put xs ys q r (line_of k (record_from s t e) indent)
of_item s t e k indent f l h = rw (← f, ← l) h

pub one_more : {s t indent xs ys zs : List ℕ} {at k p q : ℕ} {x y : Targets} → Listed s t indent xs at k ys p → x ≡ targets_to t k → y ≡ passed_by x (get_or t k 0)
    → Put ys zs (fresh_of p (length ys)) q (line_of k (record_from s y (get_or t k 0)) indent) → Listed s t indent xs at (k + 1) zs q
one_more {zs = zs} {k = k} {q = q} l e f h = rw (add-one k) (more {q = q} {zs = zs} l (rw (← e, ← f) h))

pub all_listed : {s t indent xs ys : List ℕ} {at k p n : ℕ} → Listed s t indent xs at k ys p → k ≤ n → n ≤ k → Listed s t indent xs at n ys p
all_listed {k = k} {n = n} l h g = let e : k ≡ n = omega arith in rw e at l

pub none_listed : {s t indent xs : List ℕ} {at : ℕ} → Listed s t indent xs at 0 xs at
none_listed = none

pub ruleset lines = (fresh_here, fresh_anew, of_answer, of_item, passed_one, one_more, all_listed, none_listed)
