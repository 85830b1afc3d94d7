-- What is found, and the entries from item k on, are all.
use Prim.Native.Nat.{◌+◌, ◌≤◌}
use Rattle.day_search.proofs.Finding.{Finding}
use Rattle.day_search.proofs.find_table.Given as goal

abbrev pub invariant-loop-k : goal.invariant-loop-k
invariant-loop-k l = (l.found ≤ l.before + l.k) × Finding l.s l.published l.own l.word l.message l.base l.k l.initial.out l.out l.before l.found
