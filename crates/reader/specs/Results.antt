-- What the reading answers. Interface: result_of, Keeps, Notes.
use Rattle.std.specs.Prelude.{ℕ, ◌≡◌, List, map, length}
use Rattle.std.specs.declared.result.Result.{Result}
use Rattle.std.specs.declared.result.Result.TheVariants.{Ok, Err}
use Rattle.std.proofs.lemmas.List.Edits.{sets}
use Rattle.ari.specs.declared.Input.{Input}
use Rattle.ari.specs.declared.Refusal.{Refusal}
use Rattle.ari.specs.Refusals.{refused}
use Rattle.ari.specs.Reader.{refuse, accept}
use Rattle.ari.specs.Reader as reader
use Rattle.ari.specs.Items.{spots_of}
use Rattle.ari.specs.Listing.{referring}
use Rattle.ari.specs.Decode.{decode}
use Rattle.item_table.specs.Entries.{entry_of}
use Rattle.item_table.specs.References.{noted}

-- an acceptance with the item count, a refusal with its number and place
abbrev pub result_of : reader.Answer → Result ℕ Refusal
result_of (refuse r p) = refused r p
result_of (accept n) = Ok n

-- the table of an accepted input: an entry for each item, as many as there is room for. Of a refused one it is working memory, and keeps its length
abbrev pub KeepsBy : Input → List ℕ → Result ℕ Refusal → List ℕ → List ℕ → Type 0
KeepsBy i b (Ok n) t t' = t' ≡ sets t 0 (map entry_of (spots_of i (decode b)))
KeepsBy i b (Err e) t t' = length t' ≡ length t

pub record Keeps (i : Input) (b : List ℕ) (r : Result ℕ Refusal) (t t' : List ℕ) : Type 0 where
  pub kept : KeepsBy i b r t t'

-- the table of references alone, in the same way
abbrev pub NotesBy : Input → List ℕ → Result ℕ Refusal → List ℕ → List ℕ → Type 0
NotesBy i b (Ok n) t t' = t' ≡ noted t (map entry_of (referring (spots_of i (decode b))))
NotesBy i b (Err e) t t' = length t' ≡ length t

pub record Notes (i : Input) (b : List ℕ) (r : Result ℕ Refusal) (t t' : List ℕ) : Type 0 where
  pub noted : NotesBy i b r t t'
