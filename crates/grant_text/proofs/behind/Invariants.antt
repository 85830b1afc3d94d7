-- A run, byte by byte.
use Rattle.buffer.proofs.RunLaws.{Ahead}
use Rattle.grant_text.specs.Rows.{is_of}
use Rattle.grant_text.proofs.behind.Given as goal

abbrev pub invariant-loop-i : goal.invariant-loop-i
invariant-loop-i l = Ahead (is_of l.class) l.t l.fn.from l.i
