use Rattle.cbor.specs.Head.{key_of}
use Rattle.cbor.proofs.OrderWays.{second_none, first_none, kinds_differ, arguments_differ, strings_decide}
use Rattle.cbor.proofs.is_key_below.Goals as goal

pub returns-in_default : goal.returns-in_default
returns-in_default c = second_none (key_of c.args.a.now) (key_of c.args.b.now) c.in_default.ensures

pub returns-in_default-key_of : goal.returns-in_default-key_of
returns-in_default-key_of c = first_none c.args.a.now c.args.b.now c.in-Some.ensures c.in_default-key_of.ensures

pub returns-then-x-y : goal.returns-then-x-y
returns-then-x-y c = kinds_differ c.args.a.now c.args.b.now c.in-Some.ensures c.in-Some-key_of.ensures c.if-x-y.true

pub returns-then-x-y-2 : goal.returns-then-x-y-2
returns-then-x-y-2 c = arguments_differ c.args.a.now c.args.b.now c.in-Some.ensures c.in-Some-key_of.ensures c.if-x-y.false c.if-x-y-2.true

pub returns : goal.returns
returns c = strings_decide c.args.a.now c.args.b.now c.in-Some.ensures c.in-Some-key_of.ensures c.if-x-y.false c.if-x-y-2.false c.is_below-2.ensures
