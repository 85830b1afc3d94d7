-- Item records: R72 to R75, and R67. Interface: literal_of, kind_of, record_of, found_of, item_of, record_from. Private to src/: kind_at, record_by.
use Rattle.std.specs.Prelude.{ℕ, Bool, true, false, cond, List, [], ◌∷◌, get_or, ltb, eqb}
use Rattle.cbor.specs.declared.Head.{Head}
use Rattle.cbor.specs.declared.Head.TheVariants.{Bad, Good}
use Rattle.cbor.specs.Answer.{head_at}
use Rattle.ari.specs.Table.{is_reference}
use Rattle.ari.specs.declared.Limits.{Limits}
use Rattle.ari.specs.declared.Input.{Input}
use Rattle.ari.specs.Reader.{refuse, accept, read}
use Rattle.ari.specs.Reader as reader
use Rattle.ari.specs.Items.{Spot, spots_of}
use Rattle.ari.specs.Decode.{decode}
use Rattle.ari.specs.Targets.{target_of}
use Rattle.item_table.specs.declared.Item.{Item}
use Rattle.item_table.specs.Entries as items
use Rattle.item_table.specs.Entries.{reference_by, spot_number}
use Rattle.std.specs.declared.result.Result.{Result}
use Rattle.std.specs.declared.result.Result.TheVariants.{Ok}
use Rattle.ari.specs.declared.Refusal.{Refusal}
use Rattle.ari.specs.Refusals.{refused}
use Rattle.item_records.specs.declared.Literal.{Literal}
use Rattle.item_records.specs.declared.Literal.TheVariants.{Unsigned, Negative, Bytes, Text, Simple, Half, Single, Double}
use Rattle.item_records.specs.declared.Container.{Container}
use Rattle.item_records.specs.declared.Container.TheVariants.{Array, Map}
use Rattle.item_records.specs.declared.Kind.{Kind}
use Rattle.item_records.specs.declared.Kind.TheVariants as kinds
use Rattle.item_records.specs.declared.Record.{Record}
use Rattle.item_records.specs.declared.Found.{Found}
use Rattle.item_records.specs.declared.Targets.{Targets}
use Rattle.item_records.specs.Numbered.{target_by}

-- R73: what each case means is in Values
abbrev pub literal_of : ℕ → ℕ → Literal
literal_of k a =
    get_or (Unsigned a ∷ Negative a ∷ Bytes a ∷ Text a ∷ Simple a ∷ Simple a ∷ Simple a ∷ Half a ∷ Single a ∷ Double a ∷ []) k (Simple a)

unfoldable pub kind_of : Bool → ℕ → ℕ → Kind
kind_of true k a = kinds.Reference a
kind_of false k a = cond (eqb k 4) (kinds.Container (Array a)) (cond (eqb k 5) (kinds.Container (Map a)) (kinds.Literal (literal_of k a)))

-- R72, R170: an item among all of its input
abbrev pub record_of : List Spot → Spot → Record
record_of xs x = record {
  first = x.first;
  after = x.after;
  around = x.around;
  target = target_of xs x;
  kind = kind_of (is_reference x.slot x.lead) x.lead.kind x.lead.arg;
}

-- the same from an item's word and the targets up to it: the bytes still have its head
abbrev pub kind_at : ℕ → Head → Kind
kind_at i (Good k a q) = kind_of (reference_by i k a) k a
kind_at i (Bad r) = kinds.Literal (Simple 0)

abbrev pub record_by : List ℕ → Targets → Item → Record
record_by b t x = record {
  first = x.first;
  after = x.after;
  around = x.around;
  target = target_by t x.first;
  kind = kind_at x.slot (head_at b x.first);
}

unfoldable pub record_from : List ℕ → Targets → ℕ → Record
record_from b t e = record_by b t (items.item_of e)

-- R75, R67
abbrev pub found_of : Input → List ℕ → ℕ → reader.Answer → Result Found Refusal
found_of i b k (refuse r p) = refused r p
found_of i b k (accept n) = cond (ltb k n) (Ok (record { item = record_of (spots_of i (decode b)) (spot_number i b k); count = n })) (refused 17 n)

unfoldable pub item_of : Limits → Input → List ℕ → ℕ → Result Found Refusal
item_of m i b k = found_of i b k (read m i b)
