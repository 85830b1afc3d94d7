-- By the size of the argument.
use Rattle.std.proofs.Common.{rules}
use Rattle.strike.proofs.Ways.{sizes}
use Rattle.strike.proofs.head_size.Goals as goal

pub returns-in-0-to-23 : goal.returns-in-0-to-23
returns-in-0-to-23 c = search (sizes, rules)

pub returns-in-24-to-255 : goal.returns-in-24-to-255
returns-in-24-to-255 c = search (sizes, rules)

pub returns-in-256-to-65535 : goal.returns-in-256-to-65535
returns-in-256-to-65535 c = search (sizes, rules)

pub returns-in-65536-to-4294967295 : goal.returns-in-65536-to-4294967295
returns-in-65536-to-4294967295 c = search (sizes, rules)

pub returns-in_default : goal.returns-in_default
returns-in_default c = search (sizes, rules)
