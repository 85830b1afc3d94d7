-- The slots of names are one run of numbers.
use Rattle.std.proofs.Common.{◌≡◌}
use borrow.Author.Tests.{le-leb}
use Rattle.buffer.specs.Bytes.{within}
use Rattle.sameness.specs.Code.{takes_name_by}
use Rattle.sameness.proofs.Items.{name_slot}
use Rattle.sameness.proofs.takes_name.Goals as goal

pub returns-then-slot-ge-NAMESPACE : goal.returns-then-slot-ge-NAMESPACE
returns-then-slot-ge-NAMESPACE c =
    let e : within 9 15 c.args.slot ≡ takes_name_by c.args.slot = name_slot c.args.slot in
    rw (le-leb 9 c.args.slot c.if-slot-ge-NAMESPACE.true) at e
