-- What is held, with the messages from message k on, gives the whole.
use Rattle.month.proofs.Walking.{Filing}
use Rattle.month.proofs.count_file.Given as goal

abbrev pub invariant-loop-k : goal.invariant-loop-k
invariant-loop-k l = Filing l.format l.limits l.file l.published l.own l.count l.initial.tally l.initial.places l.initial.amounts l.k l.tally l.places l.amounts
