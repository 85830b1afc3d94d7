-- An answer is known by the check that it stands for.
use Rattle.std.proofs.Common.{◌≡◌, ℕ, refl, sym, ap, ◌∙◌, arith}
use Rattle.std.specs.declared.result.Result.{Result}
use Rattle.std.specs.declared.result.Result.TheVariants.{Ok, Err}
use Rattle.ari.specs.declared.Refusal.{Refusal}
use Rattle.ari.specs.declared.Fault.{Fault}
use Rattle.ari.specs.declared.Fault.TheVariants.{TooLong, Truncated, UnusedHead, LongFloat, TooManyItems, TooDeep, Misplaced, WrongVersion, StringCut, Misspelt, KeyOrder, NoParameters, BytesBehind, NoText, NoAri, NoRoom, NoSuchNumber, Clash, BadLine, BadTrailer, BadOffset, BadMessage, DayFull, BadText, MonthFull, TotalTooLarge, NoSuchTarget}
use Rattle.ari.specs.Refusals.{number_of, fault_of}
use Rattle.grants.specs.Verdict.{check_of}

own_number : (f : Fault) → fault_of (number_of f) ≡ f
own_number TooLong = refl
own_number Truncated = refl
own_number UnusedHead = refl
own_number LongFloat = refl
own_number TooManyItems = refl
own_number TooDeep = refl
own_number Misplaced = refl
own_number WrongVersion = refl
own_number StringCut = refl
own_number Misspelt = refl
own_number KeyOrder = refl
own_number NoParameters = refl
own_number BytesBehind = refl
own_number NoText = refl
own_number NoAri = refl
own_number NoRoom = refl
own_number NoSuchNumber = refl
own_number Clash = refl
own_number BadLine = refl
own_number BadTrailer = refl
own_number BadOffset = refl
own_number BadMessage = refl
own_number DayFull = refl
own_number BadText = refl
own_number MonthFull = refl
own_number TotalTooLarge = refl
own_number NoSuchTarget = refl

pub same_fault : (f g : Fault) → number_of f ≡ number_of g → f ≡ g
same_fault f g e = sym (own_number f) ∙ ap fault_of e ∙ own_number g

pub same_refusal : (e f : Refusal) → number_of e.fault ≡ number_of f.fault → e.place ≡ f.place → e ≡ f
same_refusal e f n p = ap (λ (x : Fault). made x e.place) (same_fault e.fault f.fault n) ∙ ap (made f.fault) p
  where
    made : Fault → ℕ → Refusal
    made x y = record { fault = x; place = y }

pub same_answer : (r r' : Result (Unit {0}) Refusal) → check_of r ≡ check_of r' → r ≡ r'
same_answer (Ok u) (Ok v) q = refl
same_answer (Ok u) (Err f) q = absurd (let z : ◌≡◌ {A = ℕ} 0 1 = cc in omega arith)
same_answer (Err e) (Ok v) q = absurd (let z : ◌≡◌ {A = ℕ} 0 1 = cc in omega arith)
same_answer (Err e) (Err f) q = ap Err (same_refusal e f (let n : number_of e.fault ≡ number_of f.fault = cc in n) (let p : e.place ≡ f.place = cc in p))
