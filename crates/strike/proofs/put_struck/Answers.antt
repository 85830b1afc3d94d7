-- Three copies around the struck part, and one head.
use Rattle.std.proofs.Common.{refl}
use Rattle.strike.proofs.Ways.{copied_put, first_part}
use Rattle.strike.proofs.put_struck.Goals as goal

pub returns : goal.returns
returns c =
    copied_put _ _ _ _ _ _ (first_part c.args.s.now c.args.found.inner) refl refl
    c.put_block-a.ensures c.put_head-b.ensures c.put_block-c.ensures c.put_block.ensures
