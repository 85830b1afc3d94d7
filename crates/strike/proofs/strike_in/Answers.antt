-- The message's refusal, or what its table gives.
use Rattle.std.proofs.Common.{rules}
use Rattle.ari.specs.declared.Input.TheVariants.{Message}
use Rattle.reader.proofs.Results.{tabled}
use Rattle.strike.proofs.Ways.{this_one, outcomes}
use Rattle.strike.proofs.strike_in.Goals as goal

pub returns-in_err-count-clause-value : goal.returns-in_err-count-clause-value
returns-in_err-count-clause-value c = search (outcomes, rules)

pub find-requires : goal.find-requires
find-requires c =
    tabled c.args.limits Message c.args.s.now c.keep.ensures.value c.keep.ensures.kept c.keep.auto.entries c.type_inv.s c.requires c.in_ok-count.was

pub returns-in_err-found-clause-value : goal.returns-in_err-found-clause-value
returns-in_err-found-clause-value c =
    let t = tabled c.args.limits Message c.args.s.now c.keep.ensures.value c.keep.ensures.kept c.keep.auto.entries c.type_inv.s c.requires c.in_ok-count.was in
    search (outcomes, rules)

pub strike_found-requires : goal.strike_found-requires
strike_found-requires c =
    this_one
    (tabled c.args.limits Message c.args.s.now c.keep.ensures.value c.keep.ensures.kept c.keep.auto.entries c.type_inv.s c.requires c.in_ok-count.was)
    c.args.number 0 c.find.ensures c.in_ok-found.was

pub returns-clause-value : goal.returns-clause-value
returns-clause-value c = search (outcomes, rules)
