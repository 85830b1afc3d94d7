-- The table of an input's references alone: word 0 is how many it keeps, and behind it stand their words in order, as many as there is room for.
-- Interface: noted, Referenced. A reference takes its place when its head is read and its word when its end is known: place_for, reserved_for, filled, latest, ended.
use Rattle.std.specs.Prelude.{ℕ, zero, suc, ◌+◌, ◌*◌, ◌/◌, ◌%◌, ◌<◌, ◌≡◌, Bool, cond, List, [], ◌∷◌, length, get_or, set, ltb, eqb}
use Rattle.ari.specs.declared.Limits.{Limits}
use Rattle.ari.specs.declared.Input.{Input}
use Rattle.ari.specs.Items.{Spot, spots_of}
use Rattle.ari.specs.Decode.{decode}
use Rattle.ari.specs.Rules.{Is}
use Rattle.ari.specs.Listing.{referring}
use Rattle.item_table.specs.Entries.{entry_of, reference_by, no_spot}

abbrev pub has_room : List ℕ → Bool
has_room t = ltb (get_or t 0 0 + 1) (length t)

-- the next place; 0 where there is none
abbrev pub place_in : List ℕ → ℕ
place_in t = cond (has_room t) (get_or t 0 0 + 1) 0

abbrev pub reserved : List ℕ → List ℕ
reserved t = cond (has_room t) (set t 0 (get_or t 0 0 + 1)) t

abbrev pub filled : List ℕ → ℕ → ℕ → List ℕ
filled t k w = cond (eqb k 0) t (set t k w)

-- so many references more
abbrev pub noted : List ℕ → List ℕ → List ℕ
noted t [] = t
noted t (w ∷ ws) = noted (filled (reserved t) (place_in t) w) ws

-- References that wait for their end: the word of each has, where its end is due, the place of the one before. The last of them, after one that took
-- this place or none:
abbrev pub latest : ℕ → ℕ → ℕ
latest k before = cond (eqb k 0) before k

-- a word with this end
abbrev pub with_end : ℕ → ℕ → ℕ
with_end w a = w % 65536 + a % 65536 * 65536 + w / 4294967296 * 4294967296

-- so many of those that wait get theirs, from place k on
abbrev pub ended_by : ℕ → ℕ → ℕ → List ℕ → List ℕ
ended_by zero k a t = t
ended_by (suc n) k a t =
    let w = get_or t k 0 in
    let b = w / 65536 % 65536 in
    cond (eqb k 0) t (cond (ltb b k) (ended_by n b a (set t k (with_end w a))) (set t k (with_end w a)))

-- all that wait, from the last on
abbrev pub ended : List ℕ → ℕ → ℕ → List ℕ
ended t k a = ended_by k k a t

-- for a head of this kind and argument at a slot: what is no reference takes no place
abbrev pub place_for : ℕ → ℕ → ℕ → List ℕ → ℕ
place_for i k a t = cond (reference_by i k a) (place_in t) 0

abbrev pub reserved_for : ℕ → ℕ → ℕ → List ℕ → List ℕ
reserved_for i k a t = cond (reference_by i k a) (reserved t) t

-- reference k of an input
abbrev pub reference_number : Input → List ℕ → ℕ → Spot
reference_number i b k = get_or (referring (spots_of i (decode b))) k no_spot

-- The table t of an accepted input of n items, under limits that a word has room for: it keeps every reference, and the word behind word k is reference k's.
pub record Referenced (m : Limits) (i : Input) (b : List ℕ) (n : ℕ) (t : List ℕ) : Type 0 where
  pub is : Is m i b (decode b) n
  pub small : m.bytes < 65536
  pub shallow : m.containers < 256
  pub room : length (referring (spots_of i (decode b))) < length t
  pub number : get_or t 0 0 ≡ length (referring (spots_of i (decode b)))
  pub kept : (k : ℕ) → k < length (referring (spots_of i (decode b))) → get_or t (suc k) 0 ≡ entry_of (reference_number i b k)
