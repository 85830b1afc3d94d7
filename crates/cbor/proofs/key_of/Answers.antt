use Rattle.std.proofs.Common.{arith}
use Rattle.cbor.proofs.OrderWays.{no_head, no_count, key_at_lem}
use Rattle.cbor.proofs.key_of.Goals as goal

pub returns-in-Good : goal.returns-in-Good
returns-in-Good c =
    key_at_lem c.args.s.now c.key_head.ensures.value c.in-Good.is c.if-kind-le-MAP.true (omega arith) (omega (arith, c.in-Good.ensures.passed))

pub returns-in_default : goal.returns-in_default
returns-in_default c = no_count c.args.s.now c.key_head.ensures.value c.in-Good.is c.if-kind-le-MAP.false

pub returns-in_default-2 : goal.returns-in_default-2
returns-in_default-2 c = no_head c.args.s.now c.key_head.ensures.value c.in_default.is
