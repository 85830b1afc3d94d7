-- The day file: R154 to R161. Interface: all of it but `first_not` and what serves it.
use Rattle.std.specs.Prelude.{ℕ, zero, suc, ◌+◌, ◌-◌, ◌*◌, ◌<◌, min, ◌≡◌, Bool, true, false, not, ◌&&◌, ◌||◌, cond, List, [], ◌∷◌, ◌++◌, length, drop, get_or, eqb, ltb, leb}
use Rattle.buffer.specs.Bytes.{be, load_at, part, within}
use Rattle.std.specs.declared.result.Result.{Result}
use Rattle.std.specs.declared.result.Result.TheVariants.{Ok, Err}
use Rattle.ari.specs.declared.Limits.{Limits}
use Rattle.ari.specs.declared.Refusal.{Refusal}
use Rattle.ari.specs.Refusals.{refused}
use Rattle.ari.specs.declared.Input.TheVariants.{Message}
use Rattle.ari.specs.Reader.{Answer, accept, refuse, read}
use Rattle.day_file.specs.declared.Format.{Format}
use Rattle.day_file.specs.declared.Offsets.{Offsets}
use Rattle.day_file.specs.declared.Offsets.TheVariants.{Two, Four}
use Rattle.day_file.specs.declared.Found.{Found}
use Rattle.day_file.specs.declared.Added.{Added}

-- R154: a format has its version, offsets of 2 bytes or of 4, and the most bytes of a file, each of which an offset can name
abbrev pub bytes_of : Offsets → ℕ
bytes_of Two = 2
bytes_of Four = 4

abbrev pub width : Format → ℕ
width f = bytes_of f.offsets

abbrev pub largest : Offsets → ℕ
largest Two = 65535
largest Four = 4294967295

abbrev pub most_bytes : Format → ℕ
most_bytes f = min f.bytes (largest f.offsets)

-- R155: the messages back to back, a table with the first byte of each, the trailer
abbrev pub join : List (List ℕ) → List ℕ
join [] = []
join (x ∷ xs) = x ++ join xs

abbrev pub offsets : ℕ → ℕ → List (List ℕ) → List ℕ
offsets w at [] = []
offsets w at (x ∷ xs) = be w at ++ offsets w (at + length x) xs

abbrev pub trailer : Format → ℕ → ℕ → List ℕ
trailer f n start = f.version ∷ 0 ∷ (be 2 n ++ be 4 start)

unfoldable pub file_of : Format → List (List ℕ) → List ℕ
file_of f xs = join xs ++ (offsets (width f) 0 xs ++ trailer f (length xs) (length (join xs)))

-- what the trailer of a file says, and where message k stands by its table
abbrev pub count_in : List ℕ → ℕ
count_in b = load_at 2 b (length b - 6)

abbrev pub start_in : List ℕ → ℕ
start_in b = load_at 4 b (length b - 4)

unfoldable pub offset_in : Format → List ℕ → ℕ → ℕ
offset_in f b k = load_at (width f) b (start_in b + width f * k)

unfoldable pub end_in : Format → List ℕ → ℕ → ℕ
end_in f b k = cond (ltb (k + 1) (count_in b)) (offset_in f b (k + 1)) (start_in b)

unfoldable pub message_in : Format → List ℕ → ℕ → List ℕ
message_in f b k = part b (offset_in f b k) (end_in f b k)

-- the same where there may be none
abbrev pub in_file : List ℕ → ℕ → Bool
in_file b k = leb 8 (length b) && leb k 65535

unfoldable pub first_at : Format → List ℕ → ℕ → ℕ
first_at f b k = cond (in_file b k) (offset_in f b k) 0

unfoldable pub message_at : Format → List ℕ → ℕ → List ℕ
message_at f b k = cond (in_file b k) (message_in f b k) []

-- n messages from k on
abbrev pub messages_from : Format → List ℕ → ℕ → ℕ → List (List ℕ)
messages_from f b k zero = []
messages_from f b k (suc n) = message_in f b k ∷ messages_from f b (suc k) n

abbrev pub messages_in : Format → List ℕ → List (List ℕ)
messages_in f b = messages_from f b 0 (count_in b)

-- R156: the trailer; without one the file is refused by 20
unfoldable pub trailer_stands : Format → List ℕ → Bool
trailer_stands f b =
    within 8 (most_bytes f) (length b) && (eqb (get_or b (length b - 8) 0) f.version && (eqb (get_or b (length b - 7) 0) 0
    && (eqb (start_in b + (width f * count_in b + 8)) (length b) && (not (eqb (count_in b) 0) || eqb (start_in b) 0))))

-- R157: entry k of the table; the first that does not stand is refused by 21
unfoldable pub entry_stands : Format → List ℕ → ℕ → Bool
entry_stands f b k = cond (eqb k 0) (eqb (offset_in f b 0) 0) (ltb (offset_in f b (k - 1)) (offset_in f b k)) && ltb (offset_in f b k) (start_in b)

-- R158: message k; the first that is refused is refused by 22
abbrev pub is_accepted : Answer → Bool
is_accepted (accept n) = true
is_accepted (refuse r p) = false

unfoldable pub message_stands : Format → Limits → List ℕ → ℕ → Bool
message_stands f m b k = is_accepted (read m Message (message_in f b k))

-- the first of n from i on for which a test fails, or the end
abbrev pub first_not : (ℕ → Bool) → ℕ → ℕ → ℕ
first_not p i zero = i
first_not p i (suc n) = cond (p i) (first_not p (suc i) n) i

abbrev pub unless_all : ℕ → (ℕ → Bool) → ℕ → Result ℕ Refusal → Result ℕ Refusal
unless_all r p n x = cond (ltb (first_not p 0 n) n) (refused r (first_not p 0 n)) x

-- 20, 21, 22, or the number of messages
unfoldable pub check_day : Format → Limits → List ℕ → Result ℕ Refusal
check_day f m b =
    cond (trailer_stands f b) (unless_all 21 (entry_stands f b) (count_in b) (unless_all 22 (message_stands f m b) (count_in b) (Ok (count_in b)))) (refused 20 0)

-- the same before any message is looked at: 20, 21, or the number of messages
unfoldable pub outline_day : Format → List ℕ → Result ℕ Refusal
outline_day f b = cond (trailer_stands f b) (unless_all 21 (entry_stands f b) (count_in b) (Ok (count_in b))) (refused 20 0)

-- private to src/: what a file that passes has
abbrev pub Sized : Format → List ℕ → Result ℕ Refusal → Type 0
Sized f b (Err e) = Unit {0}
Sized f b (Ok n) = (trailer_stands f b ≡ true) × (n ≡ count_in b) × (n < 65536)

-- R159: message k by number; 17 with the count where there is none
abbrev pub found_in : Result ℕ Refusal → Format → List ℕ → ℕ → Result Found Refusal
found_in (Err e) f b k = Err e
found_in (Ok n) f b k = cond (ltb k n) (Ok (record { from = offset_in f b k; to = end_in f b k })) (refused 17 n)

unfoldable pub find_day : Format → Limits → List ℕ → ℕ → Result Found Refusal
find_day f m b k = found_in (check_day f m b) f b k

-- that part of the file
abbrev pub part_of : List ℕ → Result Found Refusal → List ℕ
part_of b (Ok x) = part b x.from x.to
part_of b (Err e) = []

-- R160: one message more
unfoldable pub with_message : Format → List ℕ → List ℕ → List ℕ
with_message f b x = file_of f (messages_in f b ++ (x ∷ []))

abbrev pub new_length : Format → List ℕ → List ℕ → ℕ
new_length f b x = length b + (length x + width f)

-- 23: it, with its entry in the table, would pass the limit, or the count would pass its two bytes
unfoldable pub is_full : Format → List ℕ → List ℕ → Bool
is_full f b x = ltb (most_bytes f) (new_length f b x) || eqb (count_in b) 65535

-- private to src/: its bytes, by the parts of the old file
unfoldable pub grown : Format → List ℕ → ℕ → List ℕ → List ℕ
grown f b n x = ((part b 0 (start_in b) ++ x) ++ (part b (start_in b) (start_in b + width f * n) ++ be (width f) (start_in b))) ++ trailer f (n + 1) (start_in b + length x)

-- R161: the file's refusals, the message's, 23, then 16
unfoldable pub full_or : Format → List ℕ → List ℕ → ℕ → Result Added Refusal
full_or f b x room =
    cond (is_full f b x) (refused 23 0)
    (cond (ltb room (new_length f b x)) (refused 16 (new_length f b x)) (Ok (record { messages = count_in b + 1; bytes = new_length f b x })))

abbrev pub added_by : Result ℕ Refusal → Answer → Format → List ℕ → List ℕ → ℕ → Result Added Refusal
added_by (Err e) a f b x room = Err e
added_by (Ok n) (refuse r p) f b x room = refused r p
added_by (Ok n) (accept k) f b x room = full_or f b x room

unfoldable pub add_day : Format → Limits → List ℕ → List ℕ → ℕ → Result Added Refusal
add_day f m b x room = added_by (check_day f m b) (read m Message x) f b x room

-- the room holds the new file at its front, and is as it was where there is none
abbrev pub room_after : Result Added Refusal → List ℕ → List ℕ → List ℕ
room_after (Err e) new out = out
room_after (Ok a) new out = new ++ drop a.bytes out
