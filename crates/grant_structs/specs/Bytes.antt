-- Grant structs as bytes: R93. Interface: table_bytes.
use Rattle.std.specs.Prelude.{ℕ, List, [], ◌∷◌, ◌++◌}
use Rattle.buffer.specs.Bytes.{be}
use Rattle.ari.specs.Signed.{word}
use Rattle.grant_structs.specs.declared.Grant.{Grant as Row}

abbrev pub table_bytes : List Row → List ℕ
table_bytes [] = []
table_bytes (r ∷ rs) = be 8 r.subscriber ++ (be 8 (word r.namespace) ++ table_bytes rs)
