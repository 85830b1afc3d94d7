-- Five words.
use Rattle.stream.proofs.Words.{frame_stored}
use Rattle.stream.proofs.store_frame.Goals as goal

pub returns : goal.returns
returns c = frame_stored c.args.state.now c.args.k c.args.f
