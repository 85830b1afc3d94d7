-- Those so far and those that are left are all.
use Rattle.composer.proofs.Going.{going, count_fits}
use borrow.Author.Rules.{rules}
use Rattle.composer.proofs.put_targets.Goals as goal

pub loop-p-init : goal.loop-p-init
loop-p-init c = search (going, rules)

pub returns-then-e-texts : goal.returns-then-e-texts
returns-then-e-texts c = search (going, rules)

pub overflow_add-n : goal.overflow_add-n
overflow_add-n c = search count_fits

pub returns-in-Err-Other : goal.returns-in-Err-Other
returns-in-Err-Other c = search (going, rules)

pub returns-in-Err-TooLong : goal.returns-in-Err-TooLong
returns-in-Err-TooLong c = search (going, rules)

pub loop-p-preserved : goal.loop-p-preserved
loop-p-preserved c = search (going, rules)

pub returns : goal.returns
returns c = search (going, rules)
