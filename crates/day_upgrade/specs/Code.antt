-- Private to src/: the new file by the parts of the old one.
use Rattle.std.specs.Prelude.{ℕ, zero, suc, List, [], ◌++◌}
use Rattle.buffer.specs.Bytes.{be, part}
use Rattle.day_file.specs.Day.{trailer, first_at}
use Rattle.day_file.specs.Versions.{version1, version2}

-- the offsets of the first n messages, in 4 bytes each
abbrev pub wide_offsets : List ℕ → ℕ → List ℕ
wide_offsets b zero = []
wide_offsets b (suc k) = wide_offsets b k ++ be 4 (first_at version1 b k)

unfoldable pub rewritten : List ℕ → ℕ → ℕ → List ℕ
rewritten b n start = (part b 0 start ++ wide_offsets b n) ++ trailer version2 n start
