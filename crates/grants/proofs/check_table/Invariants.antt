-- What the rows from here on answer, behind those before.
use Rattle.std.proofs.Common.{◌≡◌, ◌*◌, take, drop}
use Rattle.grants.specs.Grants.{check_from, check}
use Rattle.grants.specs.Bytes.{rows}
use Rattle.grants.proofs.check_table.Given as goal

abbrev pub invariant-loop-row : goal.invariant-loop-row
invariant-loop-row l = check (rows l.t) ≡ check_from (rows (take (16 * l.row) l.t)) l.row (rows (drop (16 * l.row) l.t))
