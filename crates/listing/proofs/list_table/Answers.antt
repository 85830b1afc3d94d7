-- By the room.
use Rattle.std.proofs.Common.{refl, length}
use Rattle.listing.proofs.Outcome.{room_short, room_enough, room_for}
use Rattle.listing.proofs.list_table.Goals as goal

pub returns-then-out-listed-clause-value : goal.returns-then-out-listed-clause-value
returns-then-out-listed-clause-value c = room_short (length c.args.out.now) c.requires refl c.if-out-listed.true

pub write_entries-requires-clause-s_in_bounds : goal.write_entries-requires-clause-s_in_bounds
write_entries-requires-clause-s_in_bounds c = room_for (length c.args.out.now) c.requires refl c.if-out-listed.false

pub returns-clause-value : goal.returns-clause-value
returns-clause-value c = room_enough (length c.args.out.now) c.requires refl c.if-out-listed.false
