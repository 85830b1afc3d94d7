-- One head at a place, as the code answers it. Interface: string_end, key_at, step_at, Bounded, key_span. Private to src/: the others.
use Rattle.std.specs.Prelude.{ℕ, ◌+◌, ◌-◌, ◌<◌, ◌≤◌, ◌≡◌, Bool, true, false, not, ◌&&◌, cond, List, [], length, get_or, drop, ltb, leb, eqb}
use Rattle.buffer.specs.Bytes.{part, within}
use Rattle.cbor.specs.declared.Head as cbor
use Rattle.cbor.specs.declared.Head.TheVariants as cbors
use Rattle.cbor.specs.Head.{size, Got, bad, got, get_head, is_container}
use Rattle.ari.specs.Table.{Slot, ExtraTest, none, one, rising, filled, rule}
use Rattle.ari.specs.Reader.{wrong_version, not_greater, is_empty, judge_content, judge_got}
use Rattle.ari.specs.Reader as reader
use Rattle.std.specs.declared.option.Option.{Option}
use Rattle.std.specs.declared.option.Option.TheVariants.{Some, None}
use Rattle.std.specs.declared.result.Result.{Result}
use Rattle.std.specs.declared.result.Result.TheVariants.{Ok, Err}
use Rattle.ari.specs.declared.Refusal.{Refusal}
use Rattle.ari.specs.Refusals.{refused}
use Rattle.reader.specs.declared.Taken.{Taken}
use Rattle.grammar.specs.Code.{fits_code}
use Rattle.grammar.specs.Words.{takes_number}

-- a byte stands at a place, where so many items may still come
abbrev pub stands_at : List ℕ → ℕ → ℕ → ℕ → Bool
stands_at b p x left = ltb p (length b) && (not (eqb left 0) && eqb (get_or b p 0) x)

-- where the string of a head ends that has this kind and argument and ends at q itself, if it is there
unfoldable pub string_end : List ℕ → ℕ → ℕ → ℕ → Option ℕ
string_end b k a q = cond (within 2 3 k) (cond (ltb (length b - q) a) None (Some (q + a))) (Some q)

-- the key before, by its ends; none where they are not those of a part of the input
unfoldable pub key_at : List ℕ → ℕ → ℕ → List ℕ
key_at b from to = cond (leb from to && leb to (length b)) (part b from to) []

abbrev pub taken : ℕ → ℕ → ℕ → Result Taken Refusal
taken k a q = Ok (record { kind = k; arg = a; after = q })

-- a step of the reader at the place p
abbrev pub step_answer : ℕ → reader.Step → Result Taken Refusal
step_answer p (reader.no r) = refused r p
step_answer p (reader.yes l str) = taken l.kind l.arg (p + (size l + length str))

-- the head at p, at a slot after a key before; items that may still come, containers that may still be opened
unfoldable pub step_at : List ℕ → ℕ → Slot → List ℕ → ℕ → ℕ → Result Taken Refusal
step_at b p s prev left d = step_answer p (judge_got left d s prev (get_head (drop p b)) (drop p b))

-- the tests 8 to 12 alone
unfoldable pub content_got : Slot → List ℕ → Got → List ℕ → reader.Step
content_got s prev (bad r) b = reader.no r
content_got s prev (got l) b = cond (wrong_version (rule s).extra l.arg) (reader.no 8) (judge_content s prev l (drop (size l) b))

unfoldable pub content_at : List ℕ → ℕ → Slot → List ℕ → Result Taken Refusal
content_at b p s prev = step_answer p (content_got s prev (get_head (drop p b)) (drop p b))

-- what a head that was taken has shown
abbrev pub Bounded : List ℕ → ℕ → ℕ → ℕ → ℕ → ℕ → Result Taken Refusal → Type 0
Bounded b p c items d i (Ok t) =
    (p < t.after) × (t.after ≤ length b) × (c < items) × ((is_container t.kind && eqb d 0) ≡ false) × (t.kind ≤ 9) × (fits_code i t.kind t.arg ≡ true)
Bounded b p c items d i (Err e) = Unit {0}

-- what the tests 8 to 12 leave of a head that passed them
abbrev pub ContentShown : List ℕ → ℕ → ℕ → ℕ → Result Taken Refusal → Type 0
ContentShown b k a n (Ok t) = (t.kind ≡ k) × (t.arg ≡ a) × (n ≤ t.after) × (t.after ≤ length b)
ContentShown b k a n (Err e) = Unit {0}

-- a head that is refused by itself
abbrev pub no_head : cbor.Head → ℕ → Result Taken Refusal
no_head (cbors.Bad r) p = refused r p
no_head (cbors.Good k a q) p = refused 1 0

-- one end of the key before: that of a key is its own, any other slot leaves it
abbrev pub key_span : ExtraTest → ℕ → ℕ → ℕ
key_span none old new = old
key_span one old new = old
key_span rising old new = new
key_span filled old new = old

-- a number of one byte stands at p, and the slot takes it with nothing else to be asked
pub record Quick (b : List ℕ) (p i c items : ℕ) : Type 0 where
  pub there : p < length b
  pub few : c < items
  pub taken : takes_number i (get_or b p 0) ≡ true
