-- `item_records::targets_to`: the first items are passed.
use Rattle.std.proofs.Common.{◌≡◌}
use Rattle.item_records.specs.Numbered.{targets_to}
use Rattle.item_records.proofs.targets_to.Given as goal

abbrev pub invariant-loop-entry : goal.invariant-loop-entry
invariant-loop-entry l = l.targets ≡ targets_to l.entries l.entry-index
