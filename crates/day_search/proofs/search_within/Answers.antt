use Rattle.day_search.proofs.Searching.{search_done, search_room}
use Rattle.day_search.proofs.search_within.Goals as goal

pub returns-in-Passes-clause-value : goal.returns-in-Passes-clause-value
returns-in-Passes-clause-value c =
    search_done _ _ _ _ _ _ _ c.check.ensures c.in_ok-count.was c.check_names.ensures c.in-Passes.is c.type_inv.file c.search_messages.ensures.value

pub returns-in-Passes-clause-out_after : goal.returns-in-Passes-clause-out_after
returns-in-Passes-clause-out_after c =
    search_room _ _ _ _ _ _ 0 c.check.ensures c.in_ok-count.was c.type_inv.file c.search_messages.result c.args.out.now c.search_messages.ensures.out_after
