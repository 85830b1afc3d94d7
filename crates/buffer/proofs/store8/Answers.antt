use Rattle.std.proofs.Common.{◌≡◌, ◌∙◌}
use Rattle.buffer.specs.Bytes.{be, store_at}
use Rattle.buffer.proofs.Numbers.{bytes_of}
use Rattle.buffer.proofs.store8.Goals as goal

pub returns : goal.returns
unfolding store_at
returns c = let e : c.to_be_bytes.result ≡ be 8 c.args.x = c.to_be_bytes.ensures ∙ bytes_of 8 c.args.x c.ranges.x.fits in rw e at c.store.ensures
