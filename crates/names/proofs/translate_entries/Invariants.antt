-- The entries that are left give the whole.
use Rattle.std.proofs.Common.{◌/◌, min, length}
use Rattle.names.proofs.Translation.{Going}
use Rattle.names.proofs.translate_entries.Given as goal

abbrev pub invariant-loop-i : goal.invariant-loop-i
invariant-loop-i l = Going l.published l.own l.message l.initial.room (min l.many (length l.initial.room / 24)) l.i l.room
