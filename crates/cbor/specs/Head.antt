-- Item heads: R9 to R19, and the tests 2, 3 and 4 (R52 to R54). Interface: the kinds, Lead, size, lead_bytes, short_bytes, head_bytes, key_bytes, key_of, get_head, Sound,
-- string_size, is_container, arity; the others are the parts of these.
use Rattle.std.specs.Prelude.{ℕ, suc, ◌+◌, ◌-◌, ◌*◌, ◌/◌, ◌%◌, ◌^◌, ◌<◌, ◌≤◌, ◌≡◌, Bool, false, not, ◌&&◌, ◌||◌, cond, List, [], ◌∷◌, ◌++◌, length, take, drop, ltb, leb, eqb}
use Rattle.buffer.specs.Bytes.{be, value, within}

-- The kinds of items: the major types 0 to 5, the simple values, and the floats f9, fa and fb.
abbrev pub unsigned : ℕ
unsigned = 0

abbrev pub negative : ℕ
negative = 1

abbrev pub bytes : ℕ
bytes = 2

abbrev pub text : ℕ
text = 3

abbrev pub array : ℕ
array = 4

abbrev pub map : ℕ
map = 5

abbrev pub simple : ℕ
simple = 6

abbrev pub half : ℕ
half = 7

abbrev pub single : ℕ
single = 8

abbrev pub double : ℕ
double = 9

-- A head: its kind, its argument (a number, a length, a simple value, a float's bits) and its info, the low five bits of its first byte,
-- which say how many bytes the argument was given: a head that is longer than it had to be keeps its own.
pub record Lead : Type 0 where
  pub info : ℕ
  pub kind : ℕ
  pub arg : ℕ

-- the bytes of the argument that an info asks for
unfoldable pub width : ℕ → ℕ
width i = cond (eqb i 24) 1 (cond (eqb i 25) 2 (cond (eqb i 26) 4 (cond (eqb i 27) 8 0)))

-- R9, R180: an info carries an argument: itself below 24, or in the bytes behind it, as many as there had to be or more
pub data Carries (i a : ℕ) : Type 0 where
  itself : i < 24 → a ≡ i → Carries i a
  after : 24 ≤ i → i ≤ 27 → a < 256 ^ width i → Carries i a

-- R13: the info of the shortest head
unfoldable pub shortest : ℕ → ℕ
shortest a = cond (ltb a 24) a (cond (ltb a 256) 24 (cond (ltb a 65536) 25 (cond (ltb a 4294967296) 26 27)))

unfoldable pub major_of : ℕ → ℕ
major_of k = cond (leb k map) k 7

unfoldable pub kind_of : ℕ → ℕ → ℕ
kind_of m i = cond (leb m 5) m (cond (ltb i 24) simple (i - 18))

unfoldable pub argument : ℕ → List ℕ → ℕ
argument i bs = cond (ltb i 24) i (value (take (width i) bs))

-- the bytes of a head, and how many they are
unfoldable pub lead_bytes : Lead → List ℕ
lead_bytes l = (major_of l.kind * 32 + l.info) ∷ be (width l.info) l.arg

abbrev pub size : Lead → ℕ
size l = suc (width l.info)

-- the shortest bytes of a number or length: by these map keys are ordered
unfoldable pub short_bytes : ℕ → ℕ → List ℕ
short_bytes k a = (major_of k * 32 + shortest a) ∷ be (width (shortest a)) a

-- the head of a number, a length or a simple value in its shortest form
unfoldable pub lead_of : ℕ → ℕ → Lead
lead_of k a = record { info = cond (leb k map) (shortest a) a; kind = k; arg = a }

-- its bytes; none for a float, or a simple value past 23
unfoldable pub head_bytes : ℕ → ℕ → List ℕ
head_bytes k a = cond (leb k map || (eqb k simple && ltb a 24)) (lead_bytes (lead_of k a)) []

-- the bytes by which map keys are ordered, of a key's head and its string
abbrev pub key_bytes : Lead → List ℕ → List ℕ
key_bytes l str = short_bytes l.kind l.arg ++ str

-- 2^p divides m
abbrev pub divides : ℕ → ℕ → Bool
divides p m = eqb (m % 2 ^ p) 0

-- R16, of exponent e and fraction m: a zero; exponent top, an infinity or another NaN; or a number that the next shorter size holds, which has normal
-- numbers for the exponents from normal to high, subnormal ones from low on, and spare bits less
unfoldable pub too_long : ℕ → ℕ → ℕ → ℕ → ℕ → ℕ → ℕ → Bool
too_long top low normal high spare e m =
    (eqb e 0 && eqb m 0)
    || (eqb e top || ((within normal high e && divides spare m) || (within low (normal - 1) e && divides (normal + spare - e) m)))

-- R18: 2^13, and from 103 to 112 on 2^(126 - e)
unfoldable pub bad_single : ℕ → ℕ → Bool
bad_single = too_long 255 103 113 142 13

-- R19: 2^29, and from 874 to 896 on 2^(926 - e)
unfoldable pub bad_double : ℕ → ℕ → Bool
bad_double = too_long 2047 874 897 1150 29

-- R17
unfoldable pub bad_half : ℕ → Bool
bad_half a = eqb (a / 2 ^ 10 % 32) 31 && (not (eqb (a % 2 ^ 10) 0) && not (eqb a 0x7e00))

-- R16: not the shortest of its sizes, or another NaN
unfoldable pub bad_float : ℕ → ℕ → Bool
bad_float k a =
    (eqb k half && bad_half a)
    || ((eqb k single && bad_single (a / 2 ^ 23 % 256) (a % 2 ^ 23)) || (eqb k double && bad_double (a / 2 ^ 52 % 2048) (a % 2 ^ 52)))

-- test 3: R53
unfoldable pub unused : ℕ → ℕ → Bool
unused m i = leb 28 i || (eqb m 6 || (leb 8 m || (eqb m 7 && (ltb i 20 || eqb i 24))))

pub data Got : Type 0 where
  bad : ℕ → Got
  got : Lead → Got

-- the tests 2, 3 and 4, of a first byte with major type m and info i before bs; 4 is for floats alone (R54)
unfoldable pub get_from : ℕ → ℕ → List ℕ → Got
get_from m i bs =
    cond (ltb (length bs) (width i)) (bad 2)
    (cond (unused m i) (bad 3)
    (cond (bad_float (kind_of m i) (argument i bs)) (bad 4)
    (got (record { info = i; kind = kind_of m i; arg = argument i bs }))))

-- test 2: R52
unfoldable pub get_head : List ℕ → Got
get_head [] = bad 2
get_head (b ∷ bs) = get_from (b / 32) (b % 32) bs

-- the bytes by which a key is ordered, of its own bytes; what starts with no head of a number, a string or a container comes before all keys
abbrev pub key_by : Got → List ℕ → List ℕ
key_by (got l) b = cond (leb l.kind map) (key_bytes l (drop (size l) b)) []
key_by (bad r) b = []

unfoldable pub key_of : List ℕ → List ℕ
key_of b = key_by (get_head b) b

-- the heads that may be written: R9 to R19, with no reading in it
pub data Sound (l : Lead) : Type 0 where
  -- R10, R14, R180; the range of negative numbers is test 7's
  counted : l.kind ≤ map → Carries l.info l.arg → Sound l
  -- R11
  a_simple : l.kind ≡ simple → 20 ≤ l.arg → l.arg ≤ 23 → l.info ≡ l.arg → Sound l
  -- R12, R16
  a_float : half ≤ l.kind → l.kind ≤ double → l.info ≡ l.kind + 18 → l.arg < 256 ^ width l.info → bad_float l.kind l.arg ≡ false → Sound l

-- the bytes that follow a head as its string
unfoldable pub string_size : Lead → ℕ
string_size l = cond (within bytes text l.kind) l.arg 0

-- arrays and maps
unfoldable pub is_container : ℕ → Bool
is_container k = within array map k

-- the members that a head announces
unfoldable pub arity : Lead → ℕ
arity l = cond (eqb l.kind array) l.arg (cond (eqb l.kind map) (l.arg + l.arg) 0)
