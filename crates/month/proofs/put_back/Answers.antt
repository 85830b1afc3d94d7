use native.Mathlib.Omega.{arith}
use Rattle.month.proofs.Keeping.{copied_into, put_back_is}
use Rattle.month.proofs.put_back.Goals as goal

pub returns : goal.returns
returns c =
    put_back_is _ _ _ _ c.store.ensures (copied_into _ _ 6 _ c.copy_from_slice.ensures.after (omega arith)) (copied_into _ _ 262 _ c.copy_from_slice-2.ensures.after (omega arith))
