-- Namespace numbers in 64 bits, as tables and listings have them: two's complement (R93, R94). Interface: word, signed.
use Rattle.std.specs.Prelude.{ℕ, ◌-◌, cond, ℤ, pos, negsuc, leb}
use Rattle.ari.specs.Table.{max63, max64}

-- two's complement in 8 bytes, and back
abbrev pub word : ℤ → ℕ
word (pos a) = a
word (negsuc a) = max64 - a

unfoldable pub signed : ℕ → ℤ
signed n = cond (leb n max63) (pos n) (negsuc (max64 - n))
