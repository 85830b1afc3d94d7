-- A day file of version 1 as one of version 2: R193. Interface: all of it.
use Rattle.std.specs.Prelude.{ℕ, ◌+◌, ◌*◌, cond, List, length, ltb}
use Rattle.std.specs.declared.result.Result.{Result}
use Rattle.std.specs.declared.result.Result.TheVariants.{Ok, Err}
use Rattle.ari.specs.declared.Refusal.{Refusal}
use Rattle.ari.specs.Refusals.{refused}
use Rattle.ari.specs.Limits.{first_limits}
use Rattle.day_file.specs.declared.Added.{Added}
use Rattle.day_file.specs.Day.{file_of, messages_in, check_day}
use Rattle.day_file.specs.Versions.{version1, version2}

-- the file of the same messages
unfoldable pub upgraded : List ℕ → List ℕ
upgraded b = file_of version2 (messages_in version1 b)

-- an offset has two bytes more
abbrev pub upgraded_length : List ℕ → ℕ → ℕ
upgraded_length b n = length b + 2 * n

-- the file's refusals, then 16; a file of version 2 has another version than 1, so it is refused by 20
abbrev pub upgraded_by : Result ℕ Refusal → List ℕ → ℕ → Result Added Refusal
upgraded_by (Err e) b room = Err e
upgraded_by (Ok n) b room = cond (ltb room (upgraded_length b n)) (refused 16 (upgraded_length b n)) (Ok (record { messages = n; bytes = upgraded_length b n }))

unfoldable pub upgrade_day : List ℕ → ℕ → Result Added Refusal
upgrade_day b room = upgraded_by (check_day version1 first_limits b) b room
