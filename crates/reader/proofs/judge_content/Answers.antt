-- `reader::judge_content` meets its contract: a law for each test.
use borrow.Author.Rules.{rules}
use mathlib.Core.Path.{refl}
use Rattle.reader.proofs.Heads.{content_ways, fits_slot, is_short, is_misspelt, is_plain, is_versioned, is_unordered, is_blank, is_taken}
use Rattle.reader.proofs.judge_content.Goals as goal

pub returns-in_default-clause-value : goal.returns-in_default-clause-value
returns-in_default-clause-value c = search (is_short, fits_slot, rules)

pub is_misspelt-requires : goal.is_misspelt-requires
is_misspelt-requires c = search (content_ways, rules)

pub returns-then-is_misspelt-clause-value : goal.returns-then-is_misspelt-clause-value
returns-then-is_misspelt-clause-value c = search (is_misspelt, fits_slot, rules)

pub returns-then-extra-eq0-clause-value : goal.returns-then-extra-eq0-clause-value
returns-then-extra-eq0-clause-value c = search (is_plain, fits_slot, rules)

pub returns-then-extra-eq0-clause-content_shown : goal.returns-then-extra-eq0-clause-content_shown
returns-then-extra-eq0-clause-content_shown c = (refl, refl, search (content_ways, rules), search (content_ways, rules))

pub returns-then-wrong_version-clause-value : goal.returns-then-wrong_version-clause-value
returns-then-wrong_version-clause-value c = search (is_versioned, rules)

pub is_unordered-requires : goal.is_unordered-requires
is_unordered-requires c = search (content_ways, rules)

pub returns-then-is_unordered-clause-value : goal.returns-then-is_unordered-clause-value
returns-then-is_unordered-clause-value c =
    is_unordered _ _ _ _ (search rules) (search rules) c.string_end.ensures c.in-Some.is c.is_misspelt.ensures c.if-is_misspelt.false (search rules)
    (search (fits_slot, rules)) c.wrong_version.ensures c.if-wrong_version.false c.is_unordered.ensures c.if-is_unordered.true

pub returns-then-is_empty-clause-value : goal.returns-then-is_empty-clause-value
returns-then-is_empty-clause-value c =
    is_blank _ _ _ _ (search rules) (search rules) c.string_end.ensures c.in-Some.is c.is_misspelt.ensures c.if-is_misspelt.false (search rules)
    (search (fits_slot, rules)) c.wrong_version.ensures c.if-wrong_version.false c.is_unordered.ensures c.if-is_unordered.false c.is_empty.ensures
    c.if-is_empty.true

pub returns-clause-value : goal.returns-clause-value
returns-clause-value c =
    is_taken _ _ _ _ (search rules) (search rules) c.string_end.ensures c.in-Some.is c.is_misspelt.ensures c.if-is_misspelt.false (search rules)
    (search (fits_slot, rules)) c.wrong_version.ensures c.if-wrong_version.false c.is_unordered.ensures c.if-is_unordered.false c.is_empty.ensures
    c.if-is_empty.false

pub returns-clause-content_shown : goal.returns-clause-content_shown
returns-clause-content_shown c = (refl, refl, search (content_ways, rules), search (content_ways, rules))
