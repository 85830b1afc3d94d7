-- Refusals: the numbers of the rules, and what the code gives for them. Interface: all of it.
use Rattle.std.specs.Prelude.{ℕ, List, [], ◌∷◌, get_or, ◌-◌}
use Rattle.ari.specs.declared.Fault.{Fault}
use Rattle.ari.specs.declared.Fault.TheVariants.{TooLong, Truncated, UnusedHead, LongFloat, TooManyItems, TooDeep, Misplaced, WrongVersion, StringCut, Misspelt, KeyOrder, NoParameters, BytesBehind, NoText, NoAri, NoRoom, NoSuchNumber, Clash, BadLine, BadTrailer, BadOffset, BadMessage, DayFull, BadText, MonthFull, TotalTooLarge, NoSuchTarget}
use Rattle.ari.specs.declared.Refusal.{Refusal}
use Rattle.std.specs.declared.result.Result.{Result}
use Rattle.std.specs.declared.result.Result.TheVariants.{Err}

abbrev pub number_of : Fault → ℕ
number_of TooLong = 1
number_of Truncated = 2
number_of UnusedHead = 3
number_of LongFloat = 4
number_of TooManyItems = 5
number_of TooDeep = 6
number_of Misplaced = 7
number_of WrongVersion = 8
number_of StringCut = 9
number_of Misspelt = 10
number_of KeyOrder = 11
number_of NoParameters = 12
number_of BytesBehind = 13
number_of NoText = 14
number_of NoAri = 15
number_of NoRoom = 16
number_of NoSuchNumber = 17
number_of Clash = 18
number_of BadLine = 19
number_of BadTrailer = 20
number_of BadOffset = 21
number_of BadMessage = 22
number_of DayFull = 23
number_of BadText = 24
number_of MonthFull = 25
number_of TotalTooLarge = 26
number_of NoSuchTarget = 27

-- the faults in the order of their numbers, from 1
abbrev pub faults : List Fault
faults = TooLong ∷ Truncated ∷ UnusedHead ∷ LongFloat ∷ TooManyItems ∷ TooDeep ∷ Misplaced ∷ WrongVersion ∷ StringCut ∷ Misspelt ∷ KeyOrder ∷ NoParameters ∷ BytesBehind ∷ NoText ∷ NoAri ∷ NoRoom ∷ NoSuchNumber ∷ Clash ∷ BadLine ∷ BadTrailer ∷ BadOffset ∷ BadMessage ∷ DayFull ∷ BadText ∷ MonthFull ∷ TotalTooLarge ∷ NoSuchTarget ∷ []

abbrev pub fault_of : ℕ → Fault
fault_of n = get_or faults (n - 1) NoSuchTarget

abbrev pub refusal_of : ℕ → ℕ → Refusal
refusal_of n p = record { fault = fault_of n; place = p }

-- an answer that is a refusal
abbrev pub refused : {A : Type 0} → ℕ → ℕ → Result A Refusal
refused n p = Err (refusal_of n p)
