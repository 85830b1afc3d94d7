-- By the first that is short.
use Rattle.stream.proofs.Calling.{lent_few, lent_little, lent_enough}
use Rattle.stream.proofs.lent.Goals as goal

pub returns-then-state-lt-WORDS : goal.returns-then-state-lt-WORDS
returns-then-state-lt-WORDS c = lent_few c.args.state c.args.room c.args.most c.if-state-lt-WORDS.true

pub returns-then-room-most : goal.returns-then-room-most
returns-then-room-most c = lent_little c.args.state c.args.room c.args.most c.if-state-lt-WORDS.false c.if-room-most.true

pub returns : goal.returns
returns c = lent_enough c.args.state c.args.room c.args.most c.if-state-lt-WORDS.false c.if-room-most.false
