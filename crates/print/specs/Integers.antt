-- Words of 64 bits, written in decimal. Interface: all of it.
use Rattle.std.specs.Prelude.{ℕ, ◌-◌, cond, List, ltb}
use Rattle.buffer.specs.Decimal.{decimal}
use Rattle.print.specs.Texts.{negative_of}

-- a two's complement in decimal
unfoldable pub integer_of : ℕ → List ℕ
integer_of w = cond (ltb w 9223372036854775808) (decimal w) (negative_of (18446744073709551615 - w))
