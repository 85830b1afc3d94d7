-- `grant_structs::granted` meets its contract: a row before the end. The machine reads the namespace back from its bits.
use mathlib.Core.Path.{◌≡◌}
use lib.IntN.{ℤ}
use mir.Syntax.{w64}
use mir.Val.{to_z, of_z, SFits}
use mir.ValLaws.{to_z-of_z}
use Rattle.grants.specs.Grants.{holds}
use Rattle.grant_structs.proofs.Searched.{row_of_all}
use Rattle.grant_structs.proofs.granted.Goals as goal

pub returns : goal.returns
returns c =
    let back : to_z w64 (of_z w64 c.args.namespace) ≡ c.args.namespace = to_z-of_z w64 c.args.namespace (record { sfits = c.ranges.namespace.sfits }) in
    row_of_all (holds c.args.subscriber c.args.namespace) c.args.t.now (rw back at c.first_row.ensures)
