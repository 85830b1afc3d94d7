-- `surfbodkin::surfbodkin_day_search` meets its contract: the answer's code, and the room.
use Rattle.surfbodkin.proofs.Searched.{search_code_lem, search_room}
use borrow.Author.Rules.{rules}
use Rattle.surfbodkin.proofs.surfbodkin_day_search.Statement.{statement}
use Rattle.surfbodkin.proofs.surfbodkin_day_search.Tie as tie

pub surfbodkin_day_search_spec : {M : Type 1} → statement M
surfbodkin_day_search_spec = tie.close (tie.spec (λ c κs. search rules) (λ c κs. search rules) (λ c κs. search rules) (λ c κs. search rules)
    (λ c. search rules) (λ c. (search (search_code_lem, rules), search (search_room, rules))))
