-- Numbers in plain decimal: no leading zero, plus sign or -0. Interface: decimal, unsigned_of, signed_of; the others serve these and private functions.
use Rattle.std.specs.Prelude.{ℕ, zero, suc, ◌+◌, ◌-◌, ◌*◌, ◌/◌, ◌%◌, ◌&&◌, ◌||◌, cond, List, [], ◌∷◌, ◌++◌, length, get_or, ltb, leb, eqb}
use Prim.Native.Char.{code}
use Rattle.buffer.specs.Bytes.{within}
use Rattle.std.specs.declared.option.Option.{Option}
use Rattle.std.specs.declared.option.Option.TheVariants.{Some, None}
use Rattle.std.specs.Option.{option_and_then}

-- a digit
abbrev pub digit_of : ℕ → ℕ
digit_of d = code "0" + d

-- the digits of n, at most f and one
unfoldable pub digits : ℕ → ℕ → List ℕ
digits zero n = digit_of n ∷ []
digits (suc f) n = let r = digits f (n / 10) in cond (ltb n 10) (digit_of n ∷ []) (r ++ (digit_of (n % 10) ∷ []))

-- 20 digits hold every number of 64 bits
unfoldable pub decimal : ℕ → List ℕ
decimal = digits 19

-- one digit more, below 2^64
unfoldable pub push_of : ℕ → ℕ → Option ℕ
push_of n x = cond (within (code "0") (code "9") x && leb (n * 10 + (x - code "0")) 18446744073709551615) (Some (n * 10 + (x - code "0"))) None

-- the number that n and further digits are
unfoldable pub digitsOf : ℕ → List ℕ → Option ℕ
digitsOf n [] = Some n
digitsOf n (x ∷ t) = option_and_then (λ m. digitsOf m t) (push_of n x)

-- 0 to 2^64 - 1
unfoldable pub unsigned_of : List ℕ → Option ℕ
unsigned_of t = cond (eqb (length t) 0 || (leb 2 (length t) && eqb (get_or t 0 0) (code "0"))) None (digitsOf 0 t)

-- two's complement: 0 to 2^63 - 1 stand for themselves, 2^64 - n for -n from -1 to -2^63
abbrev pub positive_of : Option ℕ → Option ℕ
positive_of (Some n) = cond (ltb n 9223372036854775808) (Some n) None
positive_of None = None

abbrev pub negative_of : Option ℕ → Option ℕ
negative_of (Some n) = cond (eqb n 0) None (cond (leb n 9223372036854775808) (Some (18446744073709551616 - n)) None)
negative_of None = None

-- -2^63 to 2^63 - 1
abbrev pub signed_of : List ℕ → Option ℕ
signed_of [] = None
signed_of (x ∷ t) = cond (eqb x (code "-")) (negative_of (unsigned_of t)) (positive_of (unsigned_of (x ∷ t)))
