-- Private to src/: an entry's numbers as the code has them.
use Rattle.std.specs.Prelude.{ℕ, ◌+◌, ◌*◌, List, ◌++◌}
use Rattle.buffer.specs.Bytes.{be}
use Rattle.listing.specs.declared.Namespace.{Namespace}
use Rattle.listing.specs.declared.Namespace.TheVariants.{Number, Name, Relative}

abbrev pub kind_code : Namespace → ℕ
kind_code (Number w) = 0
kind_code (Name p n) = 1
kind_code Relative = 2

abbrev pub word_code : Namespace → ℕ
word_code (Number w) = w
word_code (Name p n) = p
word_code Relative = 0

-- its two ends are one number
abbrev pub entry_code : ℕ → ℕ → Namespace → List ℕ
entry_code first after n = be 8 (first * 4294967296 + after) ++ (be 8 (kind_code n) ++ be 8 (word_code n))
