-- `print::items`: the lines of the first k items are put, and their targets passed.
use Rattle.std.proofs.Common.{length, ◌≡◌}
use Rattle.item_records.specs.Numbered.{targets_to}
use Rattle.print.specs.Items.{Listed}
use Rattle.print.proofs.items.Given as goal

abbrev pub invariant-loop-k : goal.invariant-loop-k
invariant-loop-k l =
    (length l.out ≡ length l.fn.out) × (l.targets ≡ targets_to l.entries l.k) × Listed l.s l.entries l.indent l.fn.out l.at l.k l.out l.p
