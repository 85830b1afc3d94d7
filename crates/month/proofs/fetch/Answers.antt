use Rattle.month.proofs.Keeping.{copied_front, fetched}
use Rattle.month.proofs.fetch.Goals as goal

pub returns : goal.returns
returns c =
    fetched _ _ _ c.requires.0 c.requires.1 c.requires.2 c.load-t.ensures.value
    (copied_front c.args.places.now c.args.state.now 6 c.load-t.result.lines c.copy_from_slice.ensures.after)
    (copied_front c.args.amounts.now c.args.state.now 262 c.load-t.result.lines c.copy_from_slice-2.ensures.after)
