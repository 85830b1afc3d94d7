use Rattle.std.proofs.Common.{arith}
use Rattle.print.proofs.Numerals.{put_hex}
use Rattle.print.proofs.hex.Goals as goal

pub returns : goal.returns
returns c =
    put_hex c.args.width c.args.n c.hex-k.result c.hex-k.new.out (omega arith) c.put_all.ensures c.hex-k.ensures.len c.hex-k.ensures.digits
