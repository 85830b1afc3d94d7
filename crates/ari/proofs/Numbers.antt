-- The numbers of answers: a refusal's is one of 1 to 13, an item count at most the limit. So a refusal in the code has the number of the rules.
use Prim.Native.Nat.{ℕ, zero, suc, ◌+◌, ◌-◌, ◌/◌, ◌%◌, ◌<◌, ◌≤◌}
use mathlib.Core.Path.{◌≡◌, refl, sym, ◌∙◌, ap}
use mathlib.Core.Bool.{Bool, true, false, not, ◌&&◌, cond}
use mathlib.Core.List.{List, [], ◌∷◌}
use native.Mathlib.Omega.{arith}
use lib.ListN.{length, get_or, take, drop}
use lib.Dec.{ltb, eqb}
use borrow.Author.Tests.{ne_eqb}
use Rattle.cbor.specs.Head.{text, Lead, size, Got, bad, got, get_head, get_from, width, unused, bad_float, kind_of, argument, string_size, is_container}
use Rattle.ari.specs.Table.{Slot, ari, message, rule, fits}
use Rattle.ari.specs.declared.Limits.{Limits}
use Rattle.ari.specs.declared.Input.{Input}
use Rattle.ari.specs.declared.Fault.{Fault}
use Rattle.ari.specs.declared.Fault.TheVariants.{TooLong, Truncated, UnusedHead, LongFloat, TooManyItems, TooDeep, Misplaced, WrongVersion, StringCut, Misspelt, KeyOrder, NoParameters, BytesBehind, NoText, NoAri, NoRoom, NoSuchNumber, Clash, BadLine, BadTrailer, BadOffset, BadMessage, DayFull, BadText, MonthFull, TotalTooLarge, NoSuchTarget}
use Rattle.ari.specs.Refusals.{number_of, faults, fault_of}
use Rattle.cbor.specs.Head.{key_bytes}
use Rattle.ari.specs.Reader.{Dues, end, sets, frame, wrong_version, not_greater, is_empty, Step, no, yes, judge, judge_content, judge_got, Answer, refuse, accept, Go, take_step, visit, run, counted, first_slot, bottom, read}

-- one of a test's two ways
either : {A : Type 0} (P : A → Type 0) (t : Bool) {x y : A} → P x → P y → P (cond t x y)
either P true p q = p
either P false p q = q

abbrev SmallGot : Got → Type 0
SmallGot (bad r) = (0 < r) × (r ≤ 13)
SmallGot (got l) = Unit {0}

abbrev SmallStep : Step → Type 0
SmallStep (no r) = (0 < r) × (r ≤ 13)
SmallStep (yes l str) = Unit {0}

abbrev SmallAnswer : Answer → Type 0
SmallAnswer (refuse r p) = (0 < r) × (r ≤ 13)
SmallAnswer (accept n) = Unit {0}

-- as records, so that a test's two ways can be told from the whole
record Got13 (x : Got) : Type 0 where
  small : SmallGot x

record Step13 (x : Step) : Type 0 where
  small : SmallStep x

bad_13 : (r : ℕ) → 0 < r → r ≤ 13 → Got13 (bad r)
bad_13 r g h = record { small = (g, h) }

no_13 : (r : ℕ) → 0 < r → r ≤ 13 → Step13 (no r)
no_13 r g h = record { small = (g, h) }

small_head : (b : List ℕ) → Got13 (get_head b)
unfolding get_head get_from
small_head [] = bad_13 2 (omega arith) (omega arith)
small_head (x ∷ b) =
    let i : ℕ = x % 32 in
    either Got13 (ltb (length b) (width i)) (bad_13 2 (omega arith) (omega arith))
    (either Got13 (unused (x / 32) i) (bad_13 3 (omega arith) (omega arith))
    (either Got13 (bad_float (kind_of (x / 32) i) (argument i b)) (bad_13 4 (omega arith) (omega arith)) (record { small = tt })))

small_judge : (left d : ℕ) (s : Slot) (prev : List ℕ) (l : Lead) (r : List ℕ) → Step13 (judge left d s prev l r)
unfolding judge judge_content
small_judge left d s prev l r =
    let str : List ℕ = take (string_size l) r in
    either Step13 (eqb left 0) (no_13 5 (omega arith) (omega arith))
    (either Step13 (is_container l.kind && eqb d 0) (no_13 6 (omega arith) (omega arith))
    (either Step13 (not (fits l.kind l.arg (rule s).rows)) (no_13 7 (omega arith) (omega arith))
    (either Step13 (wrong_version (rule s).extra l.arg) (no_13 8 (omega arith) (omega arith))
    (either Step13 (ltb (length r) (string_size l)) (no_13 9 (omega arith) (omega arith))
    (either Step13 (eqb l.kind text && not ((rule s).spelling str)) (no_13 10 (omega arith) (omega arith))
    (either Step13 (not_greater (rule s).extra prev (key_bytes l str)) (no_13 11 (omega arith) (omega arith))
    (either Step13 (is_empty (rule s).extra l.arg) (no_13 12 (omega arith) (omega arith)) (record { small = tt }))))))))

small_got : (left d : ℕ) (s : Slot) (prev : List ℕ) (x : Got) (b : List ℕ) → SmallGot x → SmallStep (judge_got left d s prev x b)
unfolding judge_got
small_got left d s prev (bad r) b h = h
small_got left d s prev (got l) b h = (small_judge left d s prev l (drop (size l) b)).small

small_step : (go : Go) → ((ds : Dues) (p : ℕ) (b : List ℕ) → SmallAnswer (go ds p b)) → (s : Slot) (n : ℕ) (prev : List ℕ) (d : ℕ) (ds : Dues) (p : ℕ) (b : List ℕ)
    (y : Step) → SmallStep y → SmallAnswer (take_step go s n prev d ds p b y)
unfolding take_step
small_step go h s n prev d ds p b (no r) e = e
small_step go h s n prev d ds p b (yes l str) e = h _ _ _

small_visit : (left : ℕ) (go : Go) → ((ds : Dues) (p : ℕ) (b : List ℕ) → SmallAnswer (go ds p b)) → (ds : Dues) (p : ℕ) (b : List ℕ) → SmallAnswer (visit left go ds p b)
unfolding visit
small_visit left go h end p [] = tt
small_visit left go h end p (x ∷ b) = (omega arith, omega arith)
small_visit left go h (sets d) p [] = tt
small_visit left go h (sets d) p (x ∷ b) =
    small_step go h (ari message) 0 [] d (sets d) p (x ∷ b) _ (small_got left d (ari message) [] (get_head (x ∷ b)) (x ∷ b) (small_head (x ∷ b)).small)
small_visit left go h (frame s n prev d ds) p b =
    small_step go h s n prev d ds p b _ (small_got left d s prev (get_head b) b (small_head b).small)

small_run : (left : ℕ) (ds : Dues) (p : ℕ) (b : List ℕ) → SmallAnswer (run left ds p b)
unfolding run
small_run zero = small_visit zero (λ ds p b. refuse 5 p) (λ ds p b. (omega arith, omega arith))
small_run (suc left) = small_visit (suc left) (run left) (small_run left)

-- an answer in its bounds
abbrev pub NumberedBy : Limits → Answer → Type 0
NumberedBy m (refuse r p) = (0 < r) × (r ≤ 13)
NumberedBy m (accept n) = n ≤ m.items

pub record Numbered (m : Limits) (x : Answer) : Type 0 where
  pub bounds : NumberedBy m x

numbered_count : (m : Limits) (x : Answer) → SmallAnswer x → Numbered m (counted m.items x)
numbered_count m (refuse r p) h = record { bounds = h }
numbered_count m (accept left) h = record { bounds = omega arith }

pub numbered : (m : Limits) (i : Input) (b : List ℕ) → Numbered m (read m i b)
unfolding read
numbered m i b = either (Numbered m) (ltb m.bytes (length b)) (record { bounds = (omega arith, omega arith) }) (numbered_count m (run m.items start 0 b) (small_run m.items start 0 b))
  where
    start : Dues
    start = frame (first_slot i) 0 [] m.containers (bottom i m.containers)

-- The faults stand in the order of their numbers, from n on.
abbrev Rise : ℕ → List Fault → Type 0
Rise n [] = Unit {0}
Rise n (f ∷ fs) = (number_of f ≡ n) × Rise (suc n) fs

rising_at : (n : ℕ) (fs : List Fault) → Rise n fs → (k : ℕ) (d : Fault) → k < length fs → number_of (get_or fs k d) ≡ n + k
rising_at n [] h k d l = absurd (omega arith)
rising_at n (f ∷ fs) h zero d l = omega (arith, h.0)
rising_at n (f ∷ fs) h (suc k) d l = let e = rising_at (suc n) fs h.1 k d (omega arith) in omega arith

-- a fault by its number, and its number again
pub number_back : (r : ℕ) → 0 < r → r ≤ 27 → number_of (fault_of r) ≡ r
number_back r g h = rising_at 1 faults ((refl, (refl, (refl, (refl, (refl, (refl, (refl, (refl, (refl, (refl, (refl, (refl, (refl, (refl, (refl, (refl, (refl, (refl, (refl, (refl, (refl, (refl, (refl, (refl, (refl, (refl, (refl, tt)))))))))))))))))))))))))))) (r - 1) NoSuchTarget (omega arith) ∙ omega arith

pub fault_back : (f : Fault) → fault_of (number_of f) ≡ f
fault_back TooLong = refl
fault_back Truncated = refl
fault_back UnusedHead = refl
fault_back LongFloat = refl
fault_back TooManyItems = refl
fault_back TooDeep = refl
fault_back Misplaced = refl
fault_back WrongVersion = refl
fault_back StringCut = refl
fault_back Misspelt = refl
fault_back KeyOrder = refl
fault_back NoParameters = refl
fault_back BytesBehind = refl
fault_back NoText = refl
fault_back NoAri = refl
fault_back NoRoom = refl
fault_back NoSuchNumber = refl
fault_back Clash = refl
fault_back BadLine = refl
fault_back BadTrailer = refl
fault_back BadOffset = refl
fault_back BadMessage = refl
fault_back DayFull = refl
fault_back BadText = refl
fault_back MonthFull = refl
fault_back TotalTooLarge = refl
fault_back NoSuchTarget = refl

pub number_most : (f : Fault) → number_of f ≤ 27
number_most TooLong = omega arith
number_most Truncated = omega arith
number_most UnusedHead = omega arith
number_most LongFloat = omega arith
number_most TooManyItems = omega arith
number_most TooDeep = omega arith
number_most Misplaced = omega arith
number_most WrongVersion = omega arith
number_most StringCut = omega arith
number_most Misspelt = omega arith
number_most KeyOrder = omega arith
number_most NoParameters = omega arith
number_most BytesBehind = omega arith
number_most NoText = omega arith
number_most NoAri = omega arith
number_most NoRoom = omega arith
number_most NoSuchNumber = omega arith
number_most Clash = omega arith
number_most BadLine = omega arith
number_most BadTrailer = omega arith
number_most BadOffset = omega arith
number_most BadMessage = omega arith
number_most DayFull = omega arith
number_most BadText = omega arith
number_most MonthFull = omega arith
number_most TotalTooLarge = omega arith
number_most NoSuchTarget = omega arith

pub answer_number : (m : Limits) (x : Answer) → Numbered m x → {r p : ℕ} → x ≡ refuse r p → number_of (fault_of r) ≡ r
answer_number m x h {r} e = let b = rw e at h.bounds in number_back r b.0 (omega (arith, b.1))

pub read_number : (m : Limits) (i : Input) (b : List ℕ) {r p : ℕ} → read m i b ≡ refuse r p → number_of (fault_of r) ≡ r
read_number m i b e = answer_number m (read m i b) (numbered m i b) e

-- a fault that is another has another number
pub other_number : (f : Fault) (r : ℕ) → (f ≡ fault_of r → ⊥) → eqb (number_of f) r ≡ false
other_number f r n = ne_eqb (number_of f) r (λ q. n (sym (fault_back f) ∙ ap fault_of q))
