-- Three numbers.
use Rattle.comparison.proofs.Going.{put_three}
use Rattle.comparison.proofs.put_entry.Goals as goal

pub returns : goal.returns
returns c = put_three c.args.e c.put8-p.ensures c.put8-q.ensures c.put8.ensures
