-- What is found, and the messages from k on, are all.
use Prim.Native.Nat.{◌*◌, ◌≤◌}
use mathlib.Core.Path.{◌≡◌}
use lib.ListN.{length}
use Rattle.day_search.proofs.Finding.{Passing}
use Rattle.day_search.proofs.find_day.Given as goal

abbrev pub invariant-loop-k : goal.invariant-loop-k
invariant-loop-k l = (l.found ≤ 4096 * l.k) × Passing l.format l.limits l.file l.published l.own l.word l.count l.k l.initial.out l.out l.found
