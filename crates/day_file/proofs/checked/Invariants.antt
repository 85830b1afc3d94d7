-- All before it stand.
use Rattle.day_file.specs.Day.{message_stands}
use Rattle.day_file.proofs.Ways.{Passing}
use Rattle.day_file.proofs.checked.Given as goal

abbrev pub invariant-loop-message : goal.invariant-loop-message
invariant-loop-message l = Passing (message_stands l.format l.limits l.file) l.count l.message
