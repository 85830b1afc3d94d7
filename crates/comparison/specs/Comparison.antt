-- Two messages compared: R195 to R200. Interface: all of it.
use Rattle.std.specs.Prelude.{ℕ, suc, ◌+◌, ◌*◌, Bool, false, ◌&&◌, cond, List, [], ◌∷◌, ◌++◌, length, drop, ltb, eqb}
use Rattle.buffer.specs.Bytes.{be, same as sameBytes}
use Rattle.ari.specs.Table.{due, members, max64}
use Rattle.ari.specs.declared.Limits.{Limits}
use Rattle.ari.specs.declared.Input.TheVariants.{Message}
use Rattle.ari.specs.Reader.{Answer, refuse, accept, read}
use Rattle.ari.specs.Items.{Items, none, item, encode, Spot, inside_at, spots, spots_of}
use Rattle.ari.specs.Decode.{decode}
use Rattle.ari.specs.Targets.{is_target}
use Rattle.ari.specs.Same.{folded_at, folded}
use Rattle.grammar.specs.Code.{slot_number}
use Rattle.comparison.specs.declared.Compared.{Compared}
use Rattle.std.specs.declared.result.Result.{Result}
use Rattle.std.specs.declared.result.Result.TheVariants.{Ok, Err}
use Rattle.ari.specs.declared.Refusal.{Refusal}
use Rattle.ari.specs.Refusals.{refused}

-- R195: a target or report: the number of its item in the message, and the item with all that it holds
pub record Part : Type 0 where
  pub number : ℕ
  pub spot : Spot

-- those among items that are numbered from k on
abbrev pub parts_from : ℕ → List Spot → List Part
parts_from k [] = []
parts_from k (x ∷ xs) = let r = parts_from (suc k) xs in cond (is_target x.slot) (record { number = k; spot = x } ∷ r) r

-- those of a message, in order
unfoldable pub parts : List ℕ → List Part
parts b = parts_from 0 (spots_of Message (decode b))

-- R196: the folded form (R185) of one
abbrev pub folded_part : Spot → Items
folded_part x = folded (item x.lead x.str x.inside none) (due x.slot 0)

-- R196: two are the same exactly if the same is due there and their folded forms have the same bytes
unfoldable pub is_same_part : Spot → Spot → Bool
is_same_part x y = eqb (slot_number x.slot) (slot_number y.slot) && sameBytes (encode (folded_part x)) (encode (folded_part y))

-- R197: two items are alike: they have the same kind and argument and the same string, a name in any case
unfoldable pub alike : Spot → Spot → Bool
alike x y =
    eqb x.lead.kind y.lead.kind && (eqb x.lead.arg y.lead.arg && sameBytes (folded_at x.slot x.str) (folded_at y.slot y.str))

-- its items: itself, its members and theirs
abbrev pub items_of : Spot → List Spot
items_of x = x ∷ spots x.inside false (members x.slot x.lead) (inside_at x.first x.lead x.str) (suc x.around)

-- how many pairs from the front are alike
abbrev pub alike_for : List Spot → List Spot → ℕ
alike_for [] ys = 0
alike_for (x ∷ xs) [] = 0
alike_for (x ∷ xs) (y ∷ ys) = let r = alike_for xs ys in cond (alike x y) (suc r) 0

-- R198: what a position shows; of a changed one the numbers of the first two items that differ
pub data Entry : Type 0 where
  same : Entry
  changed : ℕ → ℕ → Entry
  only_first only_second : Entry

abbrev pub entry_of : Part → Part → Entry
entry_of p q =
    let k = alike_for (items_of p.spot) (items_of q.spot) in
    cond (is_same_part p.spot q.spot) same (changed (p.number + k) (q.number + k))

-- R198: an entry for each position
abbrev pub compared : List Part → List Part → List Entry
compared [] [] = []
compared [] (q ∷ qs) = only_second ∷ compared [] qs
compared (p ∷ ps) [] = only_first ∷ compared ps []
compared (p ∷ ps) (q ∷ qs) = entry_of p q ∷ compared ps qs

unfoldable pub comparison : List ℕ → List ℕ → List Entry
comparison a b = compared (parts a) (parts b)

-- R199: an entry as three numbers of 8 bytes; all ones where there is no item
abbrev pub what_of : Entry → ℕ
what_of same = 0
what_of (changed i j) = 1
what_of only_first = 2
what_of only_second = 3

abbrev pub first_of : Entry → ℕ
first_of same = max64
first_of (changed i j) = i
first_of only_first = max64
first_of only_second = max64

abbrev pub second_of : Entry → ℕ
second_of same = max64
second_of (changed i j) = j
second_of only_first = max64
second_of only_second = max64

abbrev pub entry_bytes : Entry → List ℕ
entry_bytes e = be 8 (what_of e) ++ (be 8 (first_of e) ++ be 8 (second_of e))

abbrev pub entries_bytes : List Entry → List ℕ
entries_bytes [] = []
entries_bytes (e ∷ es) = entry_bytes e ++ entries_bytes es

-- how many are not same
abbrev pub different : List Entry → ℕ
different [] = 0
different (e ∷ es) = let r = different es in cond (eqb (what_of e) 0) r (suc r)

-- R200: where the room has fewer whole entries, 16 with their number
abbrev pub enough_for : List Entry → ℕ → Result Compared Refusal
enough_for es room = cond (ltb room (length es)) (refused 16 (length es)) (Ok (record { different = different es; entries = length es }))

-- R200: before that the first's refusal, then the second's
abbrev pub second_by : Answer → List Entry → ℕ → Result Compared Refusal
second_by (refuse r p) es room = refused r p
second_by (accept n) es room = enough_for es room

abbrev pub compared_by : Answer → Answer → List Entry → ℕ → Result Compared Refusal
compared_by (refuse r p) second es room = refused r p
compared_by (accept n) second es room = second_by second es room

unfoldable pub compare_messages : Limits → List ℕ → List ℕ → ℕ → Result Compared Refusal
compare_messages m a b room = compared_by (read m Message a) (read m Message b) (comparison a b) room

-- a refusal leaves the room as it was, an acceptance what is past its answer
abbrev pub room_after : Result Compared Refusal → List Entry → List ℕ → List ℕ
room_after (Err e) es out = out
room_after (Ok x) es out = entries_bytes es ++ drop (24 * x.entries) out
