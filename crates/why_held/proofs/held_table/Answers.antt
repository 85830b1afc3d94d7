-- `why_held::held_table` meets its contract: the entry's place, and the chain down to it.
use Rattle.why_held.proofs.Answered.{its_ends}
use Rattle.why_held.proofs.held_table.Goals as goal

pub chain_to-c-requires-clause-listed : goal.chain_to-c-requires-clause-listed
chain_to-c-requires-clause-listed c = its_ends c.args.s.now c.args.published.now c.args.own.now c.args.entry c.requires.in_bounds c.find-at.ensures
