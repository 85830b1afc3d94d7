-- The measure is the text's length.
use lib.ListN.{length}
use Rattle.text_read.proofs.+read_capped.Given as goal

abbrev pub decreases-read_capped : goal.decreases-read_capped
decreases-read_capped l = length l.t.now
