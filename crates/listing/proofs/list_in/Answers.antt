-- The message's refusal, or the table's listing.
use Rattle.std.proofs.lemmas.Result.{err_from_is_err_and}
use Rattle.reader.proofs.Results.{referenced}
use Rattle.listing.proofs.Outcome.{list_refused, none_written, list_accepted, list_written}
use Rattle.listing.proofs.list_in.Goals as goal

pub returns-in_err-count-clause-value : goal.returns-in_err-count-clause-value
returns-in_err-count-clause-value c =
    let p = err_from_is_err_and c.from_residual.result c.from_residual.ensures.1 in
    rw (p.1, p.2) (list_refused c.args.limits c.args.s.now c.args.out.now c.keep_references.ensures.value c.in_err-count.was)

pub returns-in_err-count-clause-out_after : goal.returns-in_err-count-clause-out_after
returns-in_err-count-clause-out_after c = none_written c.args.limits c.args.s.now c.args.out.now c.keep_references.ensures.value c.in_err-count.was

pub list_table-requires : goal.list_table-requires
list_table-requires c =
    referenced c.args.limits c.args.s.now c.keep_references.ensures.value c.args.references.now c.keep_references.ensures.noted c.type_inv.s c.requires c.in_ok-count.was

pub returns-clause-value : goal.returns-clause-value
returns-clause-value c = list_accepted c.args.limits c.args.s.now c.args.out.now c.keep_references.ensures.value c.in_ok-count.was c.list_table.ensures.value

pub returns-clause-out_after : goal.returns-clause-out_after
returns-clause-out_after c =
    list_written c.args.limits c.args.s.now c.args.out.now c.keep_references.ensures.value c.in_ok-count.was c.list_table.ensures.value c.list_table.ensures.out_after
