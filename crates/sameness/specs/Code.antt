-- Two items by their words of the item table. Interface: alike_by. Private to src/: the others.
use Rattle.std.specs.Prelude.{ℕ, Bool, false, not, ◌&&◌, ◌||◌, cond, List, eqb}
use Rattle.std.specs.List.{list_all, zip}
use Rattle.buffer.specs.Bytes.{within, same}
use Rattle.cbor.specs.Head.{bytes, text}
use Rattle.cbor.specs.declared.Head.{Head}
use Rattle.cbor.specs.declared.Head.TheVariants.{Good, Bad}
use Rattle.cbor.specs.Answer.{head_at}
use Rattle.ari.specs.Name.{same_name}
use Rattle.ari.specs.Same.{takes_name}
use Rattle.grammar.specs.Code.{slot_of}
use Rattle.item_table.specs.Entries.{item_of}
use Rattle.listing.specs.Entries.{string_in}

abbrev pub takes_name_by : ℕ → Bool
takes_name_by slot = takes_name (slot_of slot)

-- heads of one kind and argument
abbrev pub same_head : Head → Head → Bool
same_head (Bad r) h = false
same_head (Good k a p) (Bad r) = false
same_head (Good k a p) (Good k' a' p') = eqb k k' && eqb a a'

abbrev pub has_string : Head → Bool
has_string (Bad r) = false
has_string (Good k a p) = within bytes text k

-- strings at a slot
unfoldable pub same_string : ℕ → List ℕ → List ℕ → Bool
same_string slot u v = cond (takes_name_by slot) (same_name u v) (same u v)

abbrev pub alike_at : ℕ → List ℕ → ℕ → List ℕ → ℕ → Bool
alike_at slot a p b q = same_head (head_at a p) (head_at b q) && (not (has_string (head_at a p)) || same_string slot (string_in a p) (string_in b q))

-- their heads, and their strings as the first's slot has them
unfoldable pub alike_by : List ℕ → ℕ → List ℕ → ℕ → Bool
alike_by a x b y = alike_at (item_of x).slot a (item_of x).first b (item_of y).first

-- at the same slot
unfoldable pub same_item_by : List ℕ → ℕ → List ℕ → ℕ → Bool
same_item_by a x b y = eqb (item_of x).slot (item_of y).slot && alike_by a x b y

-- the items of two tables, place by place
abbrev pub all_same_by : List ℕ → List ℕ → List ℕ → List ℕ → Bool
all_same_by a b xs ys = list_all (λ (p : ℕ × ℕ). same_item_by a p.0 b p.1) (zip xs ys)
