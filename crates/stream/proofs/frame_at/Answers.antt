-- Five words.
use Rattle.stream.proofs.Words.{frame_read}
use Rattle.stream.proofs.frame_at.Goals as goal

pub returns : goal.returns
returns c = frame_read c.args.state.now c.args.k
