-- The entries before that of the word stand in front of `at`, and nothing else has changed.
use Rattle.listing.proofs.Written.{Written}
use Rattle.listing.proofs.write_entries.Given as goal

abbrev pub invariant-loop-word : goal.invariant-loop-word
invariant-loop-word l = Written l.s l.fn.out l.word-index l.at l.out
