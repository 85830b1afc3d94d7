-- All before it stand.
use Rattle.day_file.specs.Day.{entry_stands}
use Rattle.day_file.proofs.Ways.{Passing}
use Rattle.day_file.proofs.outline.Given as goal

abbrev pub invariant-loop-entry : goal.invariant-loop-entry
invariant-loop-entry l = Passing (entry_stands l.format l.file) l.count l.entry
