-- Big-endian numbers as they are put, stored and loaded: the bytes that the language makes of a number, and the number that it makes of bytes.
use Prim.Native.Nat.{ℕ, zero, suc, ◌+◌, ◌-◌, ◌*◌, ◌/◌, ◌%◌, ◌^◌, ◌<◌, ◌≤◌}
use mathlib.Core.Path.{◌≡◌, refl, sym, ◌∙◌, ap}
use mathlib.Core.List.{List, [], ◌∷◌, ◌++◌}
use native.Mathlib.Omega.{arith}
use native.Mathlib.Nat.{mod-lt, mod-eq_of_lt, pow-suc, mul_comm, add_assoc}
use mathlib.Core.Bool.{Bool, true, false, cond}
use lib.ListN.{length, take, drop, get_or, length-drop}
use lib.Dec.{leb}
use lib.Seq.{sets, drop-cons, length-take-le}
use lib.Arith.{digits_div, digits_mod, mod-mul}
use borrow.Author.Tests.{le-leb, leb-true}
use Rattle.std.specs.Prelude.{Some, None, MatchOption}
use Rattle.std.specs.Int.{byte_at, byte_worth, bytes_high_first, sum_through}
use Rattle.buffer.specs.Put.{Put}
use Rattle.buffer.specs.Bytes.{be, value, load_at, store_at}
use Rattle.buffer.proofs.Putting.{sets_append}
use Rattle.buffer.proofs.ByteLaws.{length_be, pow_pos}

byte_is : (k n : ℕ) → byte_at k n ≡ n / 256 ^ k % 256
byte_is zero n = omega arith
byte_is (suc k) n = refl

high_first : (k n : ℕ) → bytes_high_first k n ≡ be k (n % 256 ^ k)
high_first zero n = refl
high_first (suc k) n =
    let r : n % 256 ^ k < 256 ^ k = mod-lt n (pow_pos k) in
    let d : n % 256 ^ suc k ≡ (n / 256 ^ k % 256) * 256 ^ k + n % 256 ^ k = rw (pow-suc, mul_comm (256 ^ k) 256) (mod-mul n (omega arith) (pow_pos k)) in
    rw (byte_is k n, d, digits_div (n / 256 ^ k % 256) r, digits_mod (n / 256 ^ k % 256) r, high_first k n)

-- the bytes that `to_be_bytes` gives
pub bytes_of : (k n : ℕ) → n < 256 ^ k → bytes_high_first k n ≡ be k n
bytes_of k n h = high_first k n ∙ ap (be k) (mod-eq_of_lt h)

worth : (i b : ℕ) → byte_worth i b ≡ b * 256 ^ i
worth zero b = omega arith
worth (suc i) b = refl

sum_same : (f g : ℕ → ℕ) (k : ℕ) → ((i : ℕ) → f i ≡ g i) → sum_through f k ≡ sum_through g k
sum_same f g zero e = e 0
sum_same f g (suc k) e = rw (sum_same f g k e, e (suc k))

sum_front : (f : ℕ → ℕ) (k : ℕ) → sum_through f (suc k) ≡ f 0 + sum_through (λ i. f (suc i)) k
sum_front f zero = refl
sum_front f (suc k) = rw (sum_front f k) (add_assoc (f 0) (sum_through (λ i. f (suc i)) k) (f (suc (suc k))))

-- the number that `from_be_bytes` gives
pub number_of : (n : ℕ) (b : List ℕ) → length b ≡ suc n → sum_through (λ i. byte_worth (n - i) (get_or b i 0)) n ≡ value b
number_of n [] h = absurd (omega arith)
number_of zero (x ∷ []) h = omega arith
number_of zero (x ∷ y ∷ b) h = absurd (omega arith)
number_of (suc n) (x ∷ b) h =
    let l : length b ≡ suc n = omega arith in
    let e : suc n - 0 ≡ length b = omega arith in
    let f : (i : ℕ) → byte_worth (suc n - suc i) (get_or b i 0) ≡ byte_worth (n - i) (get_or b i 0) =
    λ i. let z : suc n - suc i ≡ n - i = omega arith in ap (λ (k : ℕ). byte_worth k (get_or b i 0)) z in
    sum_front (λ i. byte_worth (suc n - i) (get_or (x ∷ b) i 0)) n
    ∙ rw (worth (suc n - 0) x, e, sum_same (λ i. byte_worth (suc n - suc i) (get_or b i 0)) (λ i. byte_worth (n - i) (get_or b i 0)) n f, number_of n b l)

-- a number that is read of the bytes at a place, by what reads of so many bytes
pub loaded : (n : ℕ) (s : List ℕ) (at r : ℕ)
    → MatchOption (cond (leb (at + suc n) (length s)) (Some (take (suc n) (drop at s))) None) (r ≡ 0) (λ b. r ≡ sum_through (λ i. byte_worth (n - i) (get_or b i 0)) n)
    → r ≡ load_at (suc n) s at
unfolding load_at
loaded n s at r m = go (leb (at + suc n) (length s)) refl m
  where
    go : (t : Bool) → leb (at + suc n) (length s) ≡ t
        → MatchOption (cond t (Some (take (suc n) (drop at s))) None) (r ≡ 0) (λ b. r ≡ sum_through (λ i. byte_worth (n - i) (get_or b i 0)) n)
        → r ≡ cond t (value (take (suc n) (drop at s))) 0
    go true e m =
        let l : length (take (suc n) (drop at s)) ≡ suc n = length-take-le (suc n) (drop at s) (rw length-drop (omega (arith, leb-true (at + suc n) (length s) e))) in
        m ∙ number_of n (take (suc n) (drop at s)) l
    go false e m = m

pub one_put : {a b : List ℕ} {at r : ℕ} (x : ℕ) → Put a b at r (x ∷ []) → Put a b at r (be 1 x)
one_put x p = let e : x / 1 ≡ x = omega arith in rw e p

pub joined : (o : List ℕ) (at w x : ℕ) (ys : List ℕ) → sets (sets o at (be w x)) (at + w) ys ≡ sets o at (be w x ++ ys)
joined o at w x ys = ap (λ (n : ℕ). sets (sets o at (be w x)) (at + n) ys) (sym (length_be w x)) ∙ sym (sets_append o at (be w x) ys)

-- where there is room
pub store_room : (w : ℕ) (o : List ℕ) (at x : ℕ) → at + w ≤ length o → store_at w o at x ≡ sets o at (be w x)
unfolding store_at
store_room w o at x h = rw (le-leb (at + w) (length o) h)

pub one_byte : (s : List ℕ) (at : ℕ) → at < length s → get_or s at 0 ≡ value (take 1 (drop at s))
one_byte s at h = rw (drop-cons s at 0) (omega arith)

-- where the bytes are there
pub load_there : (w : ℕ) (b : List ℕ) (at : ℕ) → at + w ≤ length b → load_at w b at ≡ value (take w (drop at b))
unfolding load_at
load_there w b at h = rw (le-leb (at + w) (length b) h)
