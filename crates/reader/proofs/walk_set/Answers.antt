-- The set of a message: by the walk, or at once behind the byte 82.
use mathlib.Core.Path.{◌≡◌, ap}
use mathlib.Core.Bool.{not}
use borrow.Author.Rules.{rules}
use Rattle.std.specs.declared.result.Result.TheVariants.{Err}
use Rattle.reader.proofs.Fixed.{set_stopped, set_read}
use Rattle.reader.proofs.walk_set.Goals as goal

pub returns-in_err-next : goal.returns-in_err-next
returns-in_err-next c =
    let e : c.from_residual.result ≡ Err c.in_err-next.field-0.0 = search rules in
    rw e (set_stopped _ (search rules) _ _ _ _ c.stands.ensures (ap not c.if-not-stands.false) (search rules) _ _ c.walk_level-2.ensures c.in_err-next.was)

pub returns : goal.returns
returns c = set_read _ (search rules) _ _ _ _ c.stands.ensures (ap not c.if-not-stands.false) (search rules) _ _ c.walk_level-2.ensures c.in_ok-next.was c.put_plain.ensures
