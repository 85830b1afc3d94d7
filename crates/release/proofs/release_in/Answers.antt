-- `release::release_in` meets its contract: the message's refusal, 19, 18, or what the search says.
use borrow.Author.Rules.{rules}
use Rattle.std.proofs.lemmas.Result.{err_from_is_err_and}
use Rattle.reader.proofs.Results.{tabled}
use Rattle.release.proofs.Search.{release_refused, outcomes}
use Rattle.release.proofs.release_in.Goals as goal

pub returns-in_err-count : goal.returns-in_err-count
returns-in_err-count c =
    let a = c.args in
    let p = err_from_is_err_and c.from_residual.result c.from_residual.ensures.1 in
    rw (p.1, p.2) (release_refused a.limits a.s.now a.grants.now a.published.now a.own.now a.subscriber c.keep.ensures.value c.in_err-count.was)

pub returns-in-Refused : goal.returns-in-Refused
returns-in-Refused c = search (outcomes, rules)

pub release_table-requires : goal.release_table-requires
release_table-requires c = tabled _ _ _ c.keep.ensures.value c.keep.ensures.kept c.keep.auto.entries c.type_inv.s c.requires c.in_ok-count.was

pub returns : goal.returns
returns c = search (outcomes, rules)
