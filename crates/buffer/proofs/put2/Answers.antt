use Rattle.std.proofs.Common.{◌≡◌, ◌∙◌}
use Rattle.buffer.specs.Bytes.{be}
use Rattle.buffer.proofs.Numbers.{bytes_of}
use Rattle.buffer.proofs.put2.Goals as goal

pub returns : goal.returns
returns c = let e : c.to_be_bytes.result ≡ be 2 c.args.x = c.to_be_bytes.ensures ∙ bytes_of 2 c.args.x c.ranges.x.fits in rw e at c.put_all.ensures
