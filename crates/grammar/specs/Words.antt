-- Private to src/, and WordOf, fits_word, next_word, takes_number to the reader's: the words that the code keeps for the slots, what their bits mean in the rules' terms. No slot's word stands here: that
-- each means what its slot's rule says is the contract of the function that has it.
use Rattle.std.specs.Prelude.{ℕ, zero, suc, ◌+◌, ◌-◌, ◌*◌, ◌/◌, ◌%◌, ◌^◌, ◌≡◌, Bool, true, false, ◌&&◌, ◌||◌, cond, List, [], ◌∷◌, get_or, ltb, leb, eqb}
use Rattle.buffer.specs.Bytes.{within}
use Rattle.cbor.specs.Head.{unsigned}
use Rattle.ari.specs.Table.{Place, alone, message, inside, param, value, Row, row, max64, max63, max32, max31, types, type_rows, Level, done, due, many, reference_level, Rule, rule}
use Rattle.grammar.specs.declared.Next.{Next}
use Rattle.grammar.specs.declared.Next.TheVariants.{Done, Due}
use Rattle.grammar.specs.Code.{slot_of, type_number, next_of, fits_code, extra_number, extra_of, spelled_as}

-- bits of a word
abbrev pub field : ℕ → ℕ → ℕ → ℕ
field w at size = w / 2 ^ at % size

-- what a function gives of the n numbers below n
abbrev pub each : {A : Type 0} → ℕ → (ℕ → A) → List A
each zero f = []
each (suc n) f = f n ∷ each n f

-- the arguments from the least to the greatest
pub data Span : Type 0 where
  span : ℕ → ℕ → Span

abbrev pub in_spans : ℕ → List Span → Bool
in_spans a [] = false
in_spans a (span lo hi ∷ ss) = within lo hi a || in_spans a ss

-- those that rows allow of one kind
abbrev pub spans : ℕ → List Row → List Span
spans k [] = []
spans k (row k' lo hi ∷ rs) = let r = spans k rs in cond (eqb k k') (span lo hi ∷ r) r

abbrev types_at : Place → List Span
unfolding types
types_at w = spans unsigned (type_rows w types)

-- the ranges in the order of their numbers; none at others
unfoldable pub ranges : List (List Span)
unfolding types
ranges =
    []
    ∷ (span 0 max64 ∷ []) ∷ (span 0 max63 ∷ []) ∷ (span 0 255 ∷ []) ∷ (span 0 max31 ∷ []) ∷ (span 0 max32 ∷ [])
    ∷ (span 20 23 ∷ []) ∷ (span 20 21 ∷ []) ∷ (span 22 22 ∷ [])
    ∷ (span 1 4 ∷ []) ∷ (span 2 2 ∷ []) ∷ (span 3 4 ∷ []) ∷ (span 1 max64 ∷ []) ∷ (span 2 max64 ∷ [])
    ∷ types_at alone ∷ types_at message ∷ types_at inside ∷ types_at param
    ∷ []

abbrev pub range_of : ℕ → List Span
range_of c = get_or ranges c []

-- the arguments below 32, a bit each
abbrev pub bits_of : ℕ → List Bool
bits_of m = each 32 (λ a. eqb (m / 2 ^ a % 2) 1)

abbrev pub small_of : ℕ → List Bool
small_of c = each 32 (λ a. in_spans a (range_of c))

-- the greatest argument, where 32 or more are in the range
abbrev pub top_in : List Span → ℕ
top_in [] = 0
top_in (span lo hi ∷ []) = cond (leb hi 31) 0 hi
top_in (s ∷ s' ∷ ss) = 0

abbrev pub top_of : ℕ → ℕ
top_of c = top_in (range_of c)

-- a number, or 0, by a bit
abbrev pub if_set : ℕ → ℕ → ℕ
if_set b n = cond (eqb b 0) 0 n

-- What follows, by the bits: so many are taken of those that are left, which stay or not, and the argument, a type, is added to the slot or not.
abbrev pub followed : ℕ → ℕ → ℕ → ℕ → ℕ → ℕ → Level
followed took stay add to a n =
    cond (eqb add 0)
    (cond (eqb took 0) (due (slot_of to) (if_set stay n)) (cond (eqb stay 0) done (many (slot_of to) n)))
    (due (value a (cond (eqb to 28) inside param)) 0)

-- it names a slot, and one of the values' where a type is added
abbrev pub follows : ℕ → ℕ → ℕ → ℕ → Bool
follows took stay add to = ltb to 72 && (eqb add 0 || (eqb took 0 && (eqb stay 0 && (eqb to 28 || eqb to 50))))

-- What a slot's word says of what follows, and the slot's own test.
pub record Follow : Type 0 where
  pub next : ℕ → ℕ → Level
  pub names : Bool
  pub extra : ℕ

unfoldable pub follow_means : ℕ → Follow
follow_means w = record {
  next = λ a n. followed (field w 57 2) (field w 58 2) (field w 59 2) (field w 50 128) a n;
  names = follows (field w 57 2) (field w 58 2) (field w 59 2) (field w 50 128);
  extra = field w 60 4;
}

unfoldable pub follow_for : Rule → Follow
follow_for r = record { next = r.next; names = true; extra = extra_number r.extra }

-- What it says in all: for each kind the range of its argument, how a text string is spelled.
pub record Word : Type 0 where
  pub ranges : List (List Span)
  pub follow : Follow
  pub spelling : List ℕ → Bool

unfoldable pub word_means : ℕ → Word
word_means w = record { ranges = each 10 (λ k. range_of (field w (k * 5) 32)); follow = follow_means w; spelling = spelled_as (w / 2 ^ 62) }

unfoldable pub word_for : Rule → Word
word_for r = record { ranges = each 10 (λ k. spans k r.rows); follow = follow_for r; spelling = r.spelling }

-- the word of a slot's number
abbrev pub WordOf : ℕ → ℕ → Type 0
WordOf i w = word_means w ≡ word_for (rule (slot_of i))

-- test 7, and what is due beside a head, by a word alone
unfoldable pub fits_word : ℕ → ℕ → ℕ → Bool
fits_word w k a = leb k 9 && in_spans a (range_of (field w (k * 5) 32))

-- A byte that is the whole head of a number, where a slot with no test of its own takes that number: nothing else is asked of it. Such bytes are below 56.
unfoldable pub takes_number : ℕ → ℕ → Bool
takes_number i x = ltb x 56 && (ltb (x % 32) 24 && (eqb (extra_of i) 0 && fits_code i (x / 32) (x % 32)))

abbrev pub numbers_of : ℕ → List Bool
numbers_of i = each 56 (takes_number i)

-- those bytes, a bit each
abbrev pub number_bits : ℕ → List Bool
number_bits m = each 56 (λ x. eqb (m / 2 ^ x % 2) 1)

abbrev pub followed_code : ℕ → ℕ → ℕ → ℕ → ℕ → ℕ → Next
followed_code took stay add to a n = cond (ltb (if_set stay n) took) Done (Due (to + if_set add (type_number a)) (if_set stay n - took))

unfoldable pub next_word : ℕ → ℕ → ℕ → Next
next_word w a n = followed_code (field w 57 2) (field w 58 2) (field w 59 2) (field w 50 128) a n

-- so many of a slot
abbrev pub many_of : ℕ → ℕ → Next
many_of s n = next_of (many (slot_of s) n)

-- The members of an array, by how they come and their slot.
abbrev pub in_ari_of : ℕ → ℕ → Level
in_ari_of to a = cond (eqb a 2) (due (slot_of to) 0) (reference_level a)

abbrev pub in_array_by : ℕ → ℕ → ℕ → Level
in_array_by form to a =
    cond (ltb form 3)
    (cond (eqb form 1) (in_ari_of to a) (cond (eqb form 0) done (reference_level a)))
    (cond (eqb form 3) (many (slot_of to) a) (due (slot_of to) (a - (form - 3))))

abbrev pub in_array_of : ℕ → ℕ → Level
in_array_of w a = in_array_by (field w 8 16) (w % 256) a

abbrev pub in_map_of : ℕ → ℕ → Level
in_map_of w a = cond (eqb (field w 24 16) 3) (many (slot_of (field w 16 256)) a) done

-- A slot's inner word: its members in an array and in a map, whether an ARI or an object reference is due.
pub record Inner : Type 0 where
  pub in_array : ℕ → Level
  pub in_map : ℕ → Level
  pub names : Bool
  pub takes_reference : Bool

unfoldable pub inner_means : ℕ → Inner
inner_means w = record {
  in_array = in_array_of w;
  in_map = in_map_of w;
  names = ltb (w % 256) 72 && ltb (field w 16 256) 72;
  takes_reference = eqb (field w 28 2) 1;
}

unfoldable pub inner_for : Rule → Inner
inner_for r = record { in_array = r.in_array; in_map = r.in_map; names = true; takes_reference = r.takes_reference }

-- the bytes of names, a bit each, by their highest bits: digits, hyphen and full stop; letters and underscore; none
abbrev pub name_bits : ℕ → ℕ
name_bits x = get_or (0x03ff600000000000 ∷ 0x07fffffe87fffffe ∷ []) (x / 64) 0
