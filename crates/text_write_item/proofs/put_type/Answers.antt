use Rattle.text_write_item.proofs.Puts.{puts, typed}
use Rattle.text.specs.Text.{names, type_name}
use borrow.Author.Rules.{rules}
use Rattle.text_write_item.proofs.put_type.Goals as goal

pub returns-in-0 : goal.returns-in-0
unfolding type_name names
returns-in-0 c = search (typed, puts, rules)

pub returns-in-1 : goal.returns-in-1
unfolding type_name names
returns-in-1 c = search (typed, puts, rules)

pub returns-in-2 : goal.returns-in-2
unfolding type_name names
returns-in-2 c = search (typed, puts, rules)

pub returns-in-4 : goal.returns-in-4
unfolding type_name names
returns-in-4 c = search (typed, puts, rules)

pub returns-in-5 : goal.returns-in-5
unfolding type_name names
returns-in-5 c = search (typed, puts, rules)

pub returns-in-6 : goal.returns-in-6
unfolding type_name names
returns-in-6 c = search (typed, puts, rules)

pub returns-in-7 : goal.returns-in-7
unfolding type_name names
returns-in-7 c = search (typed, puts, rules)

pub returns-in-8 : goal.returns-in-8
unfolding type_name names
returns-in-8 c = search (typed, puts, rules)

pub returns-in-9 : goal.returns-in-9
unfolding type_name names
returns-in-9 c = search (typed, puts, rules)

pub returns-in-10 : goal.returns-in-10
unfolding type_name names
returns-in-10 c = search (typed, puts, rules)

pub returns-in-11 : goal.returns-in-11
unfolding type_name names
returns-in-11 c = search (typed, puts, rules)

pub returns-in-12 : goal.returns-in-12
unfolding type_name names
returns-in-12 c = search (typed, puts, rules)

pub returns-in-13 : goal.returns-in-13
unfolding type_name names
returns-in-13 c = search (typed, puts, rules)

pub returns-in-14 : goal.returns-in-14
unfolding type_name names
returns-in-14 c = search (typed, puts, rules)

pub returns-in-15 : goal.returns-in-15
unfolding type_name names
returns-in-15 c = search (typed, puts, rules)

pub returns-in-17 : goal.returns-in-17
unfolding type_name names
returns-in-17 c = search (typed, puts, rules)

pub returns-in-18 : goal.returns-in-18
unfolding type_name names
returns-in-18 c = search (typed, puts, rules)

pub returns-in-20 : goal.returns-in-20
unfolding type_name names
returns-in-20 c = search (typed, puts, rules)

pub returns-in-21 : goal.returns-in-21
unfolding type_name names
returns-in-21 c = search (typed, puts, rules)

pub returns-in_default : goal.returns-in_default
unfolding type_name names
returns-in_default c = search (typed, puts, rules)
