-- The versions of the day file, each with the limits that its messages keep: R154, R191, R192. Interface: all of it.
use Rattle.std.specs.Prelude.{ℕ, ◌-◌, Bool, ◌&&◌, cond, List, length, get_or, eqb, leb}
use Rattle.ari.specs.declared.Limits.{Limits}
use Rattle.ari.specs.Limits.{gate_limits, first_limits}
use Rattle.day_file.specs.declared.Format.{Format}
use Rattle.day_file.specs.declared.Offsets.TheVariants.{Two, Four}

abbrev pub version1 : Format
version1 = record { version = 1; offsets = Two; bytes = 65535 }

-- R191: offsets of 4 bytes, and 1 MiB
abbrev pub version2 : Format
version2 = record { version = 2; offsets = Four; bytes = 1048576 }

-- R192: a file is read by the version that its trailer names; what names neither is none of version 1
unfoldable pub is_second : List ℕ → Bool
is_second b = leb 8 (length b) && eqb (get_or b (length b - 8) 0) 2

abbrev pub format_of : List ℕ → Format
format_of b = cond (is_second b) version2 version1

abbrev pub limits_of : List ℕ → Limits
limits_of b = cond (is_second b) gate_limits first_limits
