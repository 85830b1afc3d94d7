use Rattle.buffer.proofs.Numbers.{loaded}
use Rattle.buffer.proofs.load2.Goals as goal

pub returns : goal.returns
returns c = loaded 1 c.args.s.now c.args.at c.map_or.result (rw c.bytes_at.ensures at c.map_or.ensures)
