use Rattle.std.proofs.Common.{◌+◌, ◌-◌, ◌≤◌, length, arith, refl}
use borrow.Author.Tests.{le-leb}
use Rattle.buffer.proofs.Putting.{copied}
use Rattle.buffer.proofs.store.Goals as goal

pub returns-then-bytes-out : goal.returns-then-bytes-out
returns-then-bytes-out c =
    let at = c.args.at in
    let n = length c.args.bytes.now in
    let h : at + n ≤ length c.args.out.now = omega arith in
    rw (c.copy_from_slice.ensures.after, le-leb (at + n) (length c.args.out.now) h) (copied at (at + n - at) n c.args.out.now c.args.bytes.now (omega arith) refl h)
