-- A level that is opened is below the limit.
use Rattle.std.proofs.Common.{rules}
use Rattle.stream.proofs.Words.{level_free}
use Rattle.stream.proofs.enter.Goals as goal

pub store_frame-requires : goal.store_frame-requires
store_frame-requires c = search (level_free, rules)
