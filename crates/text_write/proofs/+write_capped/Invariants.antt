-- The measure is the input's length.
use lib.ListN.{length}
use Rattle.text_write.proofs.+write_capped.Given as goal

abbrev pub decreases-write_capped : goal.decreases-write_capped
decreases-write_capped l = length l.s.now
