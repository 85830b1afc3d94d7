-- The message's refusal, 19, or the whole listing, translated, whose bytes decide.
use Rattle.std.proofs.lemmas.Result.{err_from_is_err_and}
use Rattle.grant_structs.proofs.Deciding.{message_refused, list_refused, entries_translated_lem}
use Rattle.grant_structs.proofs.listed_in.Goals as goal

pub returns-in_err-listed : goal.returns-in_err-listed
returns-in_err-listed c =
    let p = err_from_is_err_and c.from_residual.result c.from_residual.ensures.1 in
    let a = c.args in
    let l = c.list_within.ensures in
    rw (p.1, p.2)
    (message_refused a.limits a.message.now c.type_inv.message a.room.now c.requires l.value l.out_after a.published.now a.own.now c.in_err-listed.was)

pub returns-in-Refused : goal.returns-in-Refused
returns-in-Refused c =
    let a = c.args in
    let l = c.list_within.ensures in
    list_refused a.limits a.message.now c.type_inv.message a.room.now c.requires l.value l.out_after a.published.now a.own.now c.in_ok-listed.was c.check_names.ensures
    c.in-Refused.is

pub returns-in-Passes : goal.returns-in-Passes
returns-in-Passes c =
    let a = c.args in
    let l = c.list_within.ensures in
    entries_translated_lem a.limits a.message.now c.type_inv.message a.room.now c.requires l.value l.out_after a.published.now a.own.now c.in_ok-listed.was
    c.check_names.ensures c.in-Passes.is c.translate_entries.ensures
