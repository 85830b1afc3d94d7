-- Answers as one number: R114 to R119; of the day file, R154 to R164; of a name, R142; of two ARIs, R188; of two messages, R200; of a struck message, R207; of a month, R216. Interface: all of it.
use Rattle.std.specs.declared.option.Option.{Option}
use Rattle.std.specs.declared.option.Option.TheVariants.{Some, None}
use Rattle.std.specs.Prelude.{ℕ, Bool, cond, ◌+◌, ◌-◌, ◌*◌, ◌^◌, min, ◌≡◌, List}
use Rattle.std.specs.declared.result.Result.{Result}
use Rattle.std.specs.declared.result.Result.TheVariants.{Ok, Err}
use Rattle.ari.specs.declared.Limits.{Limits}
use Rattle.ari.specs.declared.Refusal.{Refusal}
use Rattle.ari.specs.Refusals.{number_of}
use Rattle.grants.specs.Grants.{Check, passes}
use Rattle.release.specs.Release.{Release, yes, no}
use Rattle.listing.specs.declared.Listed.{Listed}
use Rattle.comparison.specs.declared.Compared.{Compared}
use Rattle.strike.specs.declared.Struck.{Struck}
use Rattle.month_figures.specs.Figures.{Source}
use Rattle.month_figures.specs.State.{Shows}
use Rattle.month_figures.specs.State as months
use Rattle.month.specs.Adding.{Adds}
use Rattle.names.specs.declared.Names.{Names}
use Rattle.names.specs.declared.Names.TheVariants.{Passes}
use Rattle.names.specs.declared.Names.TheVariants as names
use Rattle.day_file.specs.declared.Found.{Found}
use Rattle.day_file.specs.declared.Added.{Added}
use Rattle.stream.specs.Calls.{Fed, Opens, Feeds, Closes}
use Rattle.why_held.specs.declared.Outcome.{Outcome}
use Rattle.why_held.specs.declared.Outcome.TheVariants as outcomes
use Rattle.text_write.specs.declared.Written.{Written}

-- the number in the top byte, and 56 bits; what they have no room for is the greatest that they hold
abbrev pub refusal_code : ℕ → ℕ → ℕ
refusal_code r low = r * 2 ^ 56 + min low (2 ^ 56 - 1)

abbrev pub code_of : Refusal → ℕ
code_of e = refusal_code (number_of e.fault) e.place

-- an item count in bits 32 to 55, and 32 bits below it. No limits of the gate allow more than these hold
abbrev pub count_code : ℕ → ℕ → ℕ
count_code n low = min n (2 ^ 24 - 1) * 2 ^ 32 + min low (2 ^ 32 - 1)

abbrev pub check_code : Result ℕ Refusal → ℕ
check_code (Err e) = code_of e
check_code (Ok n) = count_code n 0

-- the item count and the entries listed
abbrev pub list_code : Result Listed Refusal → ℕ
list_code (Err e) = code_of e
list_code (Ok l) = count_code l.count l.listed

-- 0 to go on with the next fragment
abbrev pub fed_code : Fed → ℕ
fed_code (Ok u) = 0
fed_code (Err e) = code_of e

-- the numbers of the answers that `stream` promises
pub record OpensAs (ws : List ℕ) (r : ℕ) (ws' : List ℕ) : Type 0 where
  pub answer : Fed
  pub code : r ≡ fed_code answer
  pub opens : Opens ws answer ws'

pub record FeedsAs (m : Limits) (ws room f : List ℕ) (r : ℕ) (ws' room' : List ℕ) : Type 0 where
  pub answer : Fed
  pub code : r ≡ fed_code answer
  pub feeds : Feeds m ws room f answer ws' room'

pub record ClosesAs (m : Limits) (ws room out : List ℕ) (r : ℕ) (ws' out' : List ℕ) : Type 0 where
  pub answer : Result Listed Refusal
  pub code : r ≡ list_code answer
  pub closes : Closes m ws room out answer ws' out'

-- R188: 1 if two ARIs are the same
abbrev pub same_code : Result Bool Refusal → ℕ
same_code (Ok is) = count_code 0 (cond is 1 0)
same_code (Err e) = code_of e

-- R200: the entries that are not 'same', and all entries
abbrev pub compare_code : Result Compared Refusal → ℕ
compare_code (Ok x) = count_code x.different x.entries
compare_code (Err e) = refusal_code (number_of e.fault) e.place

-- 19 with the first byte of the first wrong line
abbrev pub names_code : Names → ℕ
names_code Passes = 0
names_code (names.Refused p) = refusal_code 19 p

-- R142: 1 if a name stands for a number; a lent number is then that number, and as it was if not
abbrev pub number_code : Option ℕ → ℕ
number_code (Some w) = count_code 0 1
number_code None = 0

abbrev pub number_after : Option ℕ → ℕ → ℕ
number_after (Some w) was = w
number_after None was = was

abbrev pub table_code : Check → ℕ
table_code passes = 0
table_code (Check.refused r i) = refusal_code r i

-- 255 for a no
abbrev pub release_code : Release → ℕ
release_code yes = 0
release_code (no k) = refusal_code 255 k
release_code (Release.refused r p) = refusal_code r p

-- 255 for a message that is held: the reason, the links, the entry, each as far as its bits go
unfoldable pub held_code : ℕ → ℕ → ℕ → ℕ
held_code entry reason links = 255 * 2 ^ 56 + min reason 255 * 2 ^ 48 + min links 65535 * 2 ^ 32 + min entry 4294967295

abbrev pub why_code : Result Outcome Refusal → ℕ
why_code (Ok outcomes.Released) = 0
why_code (Ok (outcomes.Held k r n)) = held_code k r n
why_code (Err e) = code_of e

-- the item count and the bytes written
abbrev pub text_code : Result Written Refusal → ℕ
text_code (Err e) = code_of e
text_code (Ok w) = count_code w.count w.length

-- R156 to R158: the number of messages
abbrev pub day_code : Result ℕ Refusal → ℕ
day_code (Err e) = code_of e
day_code (Ok n) = count_code 0 n

-- R159: the message's bytes and its first byte
abbrev pub find_code : Result Found Refusal → ℕ
find_code (Err e) = code_of e
find_code (Ok x) = count_code (x.to - x.from) x.from

-- R164: the entries found
abbrev pub search_code : Result ℕ Refusal → ℕ
search_code (Err e) = code_of e
search_code (Ok k) = count_code 0 k

-- R160: the new file's messages and bytes
abbrev pub add_code : Result Added Refusal → ℕ
add_code (Err e) = code_of e
add_code (Ok a) = count_code a.messages a.bytes

-- R207: the shorter message's items and bytes
abbrev pub strike_code : Result Struck Refusal → ℕ
strike_code (Ok x) = count_code x.items x.bytes
strike_code (Err e) = code_of e

-- R216: a month's calls: 0 where one is done; the namespaces that were written
abbrev pub month_code : Result (Unit {0}) Refusal → ℕ
month_code (Ok u) = 0
month_code (Err e) = code_of e

abbrev pub shown_code : Result ℕ Refusal → ℕ
shown_code (Ok n) = count_code 0 n
shown_code (Err e) = code_of e

-- the numbers of the answers that `month_figures` and `month` promise
pub record MonthOpensAs (ws : List ℕ) (r : ℕ) (ws' : List ℕ) : Type 0 where
  pub answer : Result (Unit {0}) Refusal
  pub code : r ≡ month_code answer
  pub opens : months.Opens ws answer ws'

pub record AddsAs (m : Limits) (ws : List ℕ) (s : Source) (r : ℕ) (ws' : List ℕ) : Type 0 where
  pub answer : Result (Unit {0}) Refusal
  pub code : r ≡ month_code answer
  pub adds : Adds m ws s answer ws'

pub record ShowsAs (ws out : List ℕ) (r : ℕ) (out' : List ℕ) : Type 0 where
  pub answer : Result ℕ Refusal
  pub code : r ≡ shown_code answer
  pub shows : Shows ws out answer out'
