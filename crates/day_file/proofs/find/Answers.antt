use Rattle.day_file.proofs.Ways.{find_none, find_there}
use Rattle.day_file.proofs.find.Goals as goal

pub returns-then-count-k : goal.returns-then-count-k
returns-then-count-k c = find_none _ _ _ _ c.checked.ensures.value c.in_ok-count.was c.if-count-k.true

pub returns : goal.returns
returns c = find_there _ _ _ _ c.checked.ensures.value c.in_ok-count.was c.if-count-k.false c.offset_in.ensures.value c.end_in.ensures
