-- UTF-8 as RFC 3629, section 4, has it: the table of well-formed byte sequences. Interface: utf8. Private to src/: is_ascii, AsciiTo.
use Rattle.std.specs.Prelude.{ℕ, zero, suc, ◌≤◌, ◌≡◌, Bool, true, false, ◌&&◌, ◌||◌, List, [], ◌∷◌, length, ltb, eqb}
use Rattle.buffer.specs.Bytes.{all, part, within}

-- n continuation bytes are due, the next of them from lo to hi
unfoldable pub utf8_from : ℕ → ℕ → ℕ → List ℕ → Bool
utf8_from zero lo hi [] = true
utf8_from zero lo hi (b ∷ bs) =
    (ltb b 128 && utf8_from 0 128 191 bs)
    || ((within 194 223 b && utf8_from 1 128 191 bs)
    || ((eqb b 224 && utf8_from 2 160 191 bs)
    || (((within 225 236 b || within 238 239 b) && utf8_from 2 128 191 bs)
    || ((eqb b 237 && utf8_from 2 128 159 bs)
    || ((eqb b 240 && utf8_from 3 144 191 bs)
    || ((within 241 243 b && utf8_from 3 128 191 bs)
    || (eqb b 244 && utf8_from 3 128 143 bs)))))))
utf8_from (suc n) lo hi [] = false
utf8_from (suc n) lo hi (b ∷ bs) = within lo hi b && utf8_from n 128 191 bs

abbrev pub utf8 : List ℕ → Bool
utf8 = utf8_from 0 128 191

-- a byte that is a sequence by itself
abbrev pub is_ascii : ℕ → Bool
is_ascii x = ltb x 128

-- from a place to another there are only such
pub record AsciiTo (t : List ℕ) (a i : ℕ) : Type 0 where
  pub on : a ≤ i
  pub inside : i ≤ length t
  pub ascii : all is_ascii (part t a i) ≡ true
