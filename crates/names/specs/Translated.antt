-- What a listed namespace stands for under two lists: R146. Interface: stands_for, translate, translated. Private to src/: the others.
use Rattle.std.specs.Prelude.{ℕ, zero, suc, ◌+◌, ◌*◌, cond, List, map, eqb}
use Rattle.buffer.specs.Bytes.{load_at, store_at}
use Rattle.std.specs.declared.option.Option.{Option}
use Rattle.std.specs.declared.option.Option.TheVariants.{Some, None}
use Rattle.ari.specs.Signed.{signed}
use Rattle.ari.specs.Listing.{Space, number, name, relative, Entry, listing}
use Rattle.listing.specs.declared.Namespace.{Namespace}
use Rattle.listing.specs.declared.Namespace.TheVariants as code
use Rattle.listing.specs.Entries.{string_in}
use Rattle.names.specs.Names.{number_for}

-- R146: a number stands for itself, a name for the number of its line; a name that has none, and a relative namespace, for no number
abbrev pub numbered : Option ℕ → Space → Space
numbered (Some w) x = number (signed w)
numbered None x = x

abbrev pub stands_for : List ℕ → List ℕ → Space → Space
stands_for published own (number z) = number z
stands_for published own (name p n) = numbered (number_for published own n) (name p n)
stands_for published own relative = relative

abbrev pub translate : List ℕ → List ℕ → Entry → Entry
translate published own e = record { first = e.first; after = e.after; space = stands_for published own e.space }

-- the listing with what its namespaces stand for
abbrev pub translated : List ℕ → List ℕ → List ℕ → List Entry
translated published own b = map (translate published own) (listing b)

-- a namespace as the code has it, its name in the message b
abbrev pub numbered_code : Option ℕ → Namespace → Namespace
numbered_code (Some w) n = code.Number w
numbered_code None n = n

abbrev pub stands_by : List ℕ → List ℕ → List ℕ → Namespace → Namespace
stands_by published own b (code.Number w) = code.Number w
stands_by published own b (code.Name p n) = numbered_code (number_for published own (string_in b p)) (code.Name p n)
stands_by published own b code.Relative = code.Relative

-- n entries of a listing as bytes (R94) from entry i on, each with what its namespace stands for
abbrev pub name_kind : ℕ
name_kind = 1

abbrev pub renumbered : Option ℕ → List ℕ → ℕ → List ℕ
renumbered (Some w) x at = store_at 8 (store_at 8 x (at + 8) 0) (at + 16) w
renumbered None x at = x

unfoldable pub entry_translated : List ℕ → List ℕ → List ℕ → List ℕ → ℕ → List ℕ
entry_translated published own b x at = cond (eqb (load_at 8 x (at + 8)) name_kind) (renumbered (number_for published own (string_in b (load_at 8 x (at + 16)))) x at) x

abbrev pub entries_translated : List ℕ → List ℕ → List ℕ → ℕ → ℕ → List ℕ → List ℕ
entries_translated published own b i zero x = x
entries_translated published own b i (suc n) x = entries_translated published own b (suc i) n (entry_translated published own b x (24 * i))
