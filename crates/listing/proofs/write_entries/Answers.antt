-- By what stands where the entry goes.
use Rattle.std.proofs.Common.{arith}
use Rattle.listing.proofs.Written.{written_end, namespace_inside, entry_fits, written_one}
use Rattle.listing.proofs.write_entries.Goals as goal

pub overflow_add-x : goal.overflow_add-x
overflow_add-x c =
    let h = namespace_inside c.requires.referenced c.loop-word.invariant c.loop-word-test.true c.item_of-x.ensures c.head_of-size.ensures in
    omega arith

pub put_entry-requires : goal.put_entry-requires
put_entry-requires c =
    entry_fits c.requires.referenced c.loop-word.invariant c.loop-word-test.true c.item_of-x.ensures c.head_of-size.ensures c.namespace_at-namespace.ensures

pub loop-word-preserved : goal.loop-word-preserved
loop-word-preserved c =
    written_one c.requires.referenced c.loop-word.invariant c.loop-word-test.true c.item_of-x.ensures c.head_of-size.ensures c.namespace_at-namespace.ensures c.put_entry.ensures

pub returns : goal.returns
returns c = written_end c.requires.referenced c.loop-word.invariant c.loop-word-test.false c.loop-word.auto.word-index-end
