use native.Mathlib.Omega.{arith}
use Rattle.month.proofs.Walking.{filing_all, filing_refused, filing_next}
use Rattle.month.proofs.Adding.{counted_on}
use Rattle.month.proofs.count_file.Goals as goal

pub returns-in_default : goal.returns-in_default
returns-in_default c =
    counted_on _ _ _ _ _ _ _ c.fetch-tally.ensures
    (filing_refused _ _ _ _ _ _ _ _ _ c.loop-k.invariant c.loop-k-test.true c.requires.limits_le_gate_limits.4 c.requires.limits_le_gate_limits.5 c.message_at-s.ensures c.count_message.ensures c.in_default.is)

pub loop-k-preserved : goal.loop-k-preserved
loop-k-preserved c =
    filing_next _ _ _ _ _ _ _ _ _ c.loop-k.invariant c.loop-k-test.true c.requires.limits_le_gate_limits.4 c.requires.limits_le_gate_limits.5 c.message_at-s.ensures c.count_message.ensures c.in-Ok.is

pub returns : goal.returns
returns c = counted_on _ _ _ _ _ _ _ c.fetch-tally.ensures (filing_all _ _ _ _ _ _ _ _ _ c.loop-k.invariant c.loop-k-test.false (omega arith))
