-- What the functions answer, in the rules' numbers. Interface: check_of.
use Rattle.std.specs.declared.result.Result.{Result}
use Rattle.std.specs.declared.result.Result.TheVariants.{Ok, Err}
use Rattle.ari.specs.declared.Refusal.{Refusal}
use Rattle.ari.specs.Refusals.{number_of}
use Rattle.grants.specs.Grants.{Check, passes, refused}

-- the table passes, or is refused with a row
abbrev pub check_of : Result (Unit {0}) Refusal → Check
check_of (Ok u) = passes
check_of (Err e) = refused (number_of e.fault) e.place
