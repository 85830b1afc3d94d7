-- Which ARIs have a text form, found out from the heads alone: R64, R98. Private to src/: set_by, outer_as, member_by, outer_by, outer_of, is_whole, Laid, float_of,
-- FloatAt.
use Rattle.std.specs.Prelude.{ℕ, ◌/◌, ◌%◌, ◌≤◌, ◌≡◌, Bool, false, not, ◌&&◌, ◌||◌, cond, List, [], ◌∷◌, ◌++◌, length, drop, ltb, eqb}
use Rattle.std.specs.Prelude.{Option, Some, None}
use Rattle.buffer.specs.Bytes.{within}
use Rattle.cbor.specs.Head.{array, simple, Sound, lead_bytes, string_size}
use Rattle.cbor.specs.Answer.{head_at}
use Rattle.cbor.specs.declared.Head.{Head}
use Rattle.cbor.specs.declared.Head.TheVariants.{Bad, Good}
use Rattle.ari.specs.Items.{Spot, inside_at}
use Rattle.text.specs.Text.{Form, spelled, none_at, float_in}
use Rattle.text_write.specs.declared.Outer.{Outer}
use Rattle.text_write.specs.declared.Outer.TheVariants.{Set, Relative, Other}

-- by the length of an array and its first member's argument: an EXECSET (type 20) or an RPTSET (type 21)
unfoldable pub set_by : ℕ → ℕ → Bool
set_by n a = eqb n 2 && (eqb a 20 || eqb a 21)

-- a set, a relative reference: by the length of an array and its first member's head
abbrev pub outer_as : Bool → Bool → Outer
outer_as set relative = cond set Set (cond relative Relative Other)

abbrev pub member_by : ℕ → Head → Outer
member_by n (Bad r) = Other
member_by n (Good k a q) = outer_as (set_by n a) (eqb k simple)

abbrev pub outer_by : List ℕ → Head → Outer
outer_by b (Bad r) = Other
outer_by b (Good k a q) = cond (eqb k array) (member_by a (head_at b q)) Other

unfoldable pub outer_of : List ℕ → Outer
outer_of b = outer_by b (head_at b 0)

-- a byte that is a whole item, and no float: a head that carries its argument and has no string
unfoldable pub is_whole : ℕ → Bool
is_whole x = ltb (x % 32) 24 && not (within 2 3 (x / 32))

-- the items of an input, one head with its string behind the other
abbrev pub Laid : List ℕ → ℕ → List Spot → Type 0
Laid b p [] = length b ≤ p
Laid b p (x ∷ xs) =
    (x.first ≡ p) × Sound x.lead × (length x.str ≡ string_size x.lead)
    × (drop p b ≡ lead_bytes x.lead ++ (x.str ++ drop (inside_at p x.lead x.str) b)) × Laid b (inside_at p x.lead x.str) xs

abbrev pub float_of : Form → Option ℕ
float_of spelled = None
float_of (none_at p) = Some p

-- the first float from p on
pub record FloatAt (b : List ℕ) (p : ℕ) (r : Option ℕ) : Type 0 where
  pub first_of : (xs : List Spot) → Laid b p xs → r ≡ float_of (float_in xs)
