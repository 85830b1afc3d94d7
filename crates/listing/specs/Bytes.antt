-- The listing as bytes: R94. Interface: kind_of, word_of, entry_bytes, listing_bytes.
use Rattle.std.specs.Prelude.{ℕ, List, [], ◌∷◌, ◌++◌}
use Rattle.buffer.specs.Bytes.{be}
use Rattle.ari.specs.Signed.{word}
use Rattle.ari.specs.Listing.{Space, number, name, relative, Entry}

-- R94: the kind and the number of a namespace, and an entry's 24 bytes
abbrev pub kind_of : Space → ℕ
kind_of (number z) = 0
kind_of (name p s) = 1
kind_of relative = 2

abbrev pub word_of : Space → ℕ
word_of (number z) = word z
word_of (name p s) = p
word_of relative = 0

abbrev pub space_bytes : Space → List ℕ
space_bytes x = be 8 (kind_of x) ++ be 8 (word_of x)

abbrev pub entry_bytes : Entry → List ℕ
entry_bytes e = be 4 e.first ++ (be 4 e.after ++ space_bytes e.space)

-- entries one behind the other
abbrev pub listing_bytes : List Entry → List ℕ
listing_bytes [] = []
listing_bytes (e ∷ es) = entry_bytes e ++ listing_bytes es
