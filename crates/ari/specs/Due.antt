-- Items that are due, in the reader's own terms. Private to the walks: the contracts of reader and text_write cite them; what a reader must
-- believe is in Rules.
use Rattle.std.specs.Prelude.{ℕ, pred, ◌≡◌, true, false, not, ◌&&◌, List, [], length, eqb}
use Rattle.cbor.specs.Head.{text, Lead, Sound, string_size, is_container}
use Rattle.ari.specs.Table.{message, Slot, ari, rule, fits, members}
use Rattle.cbor.specs.Head.{key_bytes}
use Rattle.ari.specs.Reader.{Dues, end, sets, frame, push, wrong_version, not_greater, is_empty, behind}
use Rattle.ari.specs.Items.{Items, none, item}

-- a head with its string may stand at a slot after a key before
pub record Good (s : Slot) (prev : List ℕ) (l : Lead) (str : List ℕ) : Type 0 where
  pub head : Sound l
  pub fitting : fits l.kind l.arg (rule s).rows ≡ true
  pub versioned : wrong_version (rule s).extra l.arg ≡ false
  pub sized : length str ≡ string_size l
  pub spelled : (eqb l.kind text && not ((rule s).spelling str)) ≡ false
  pub rising : not_greater (rule s).extra prev (key_bytes l str) ≡ false
  pub filled : is_empty (rule s).extra l.arg ≡ false

-- the items are what is due, and open no more containers than it may still open
abbrev pub Due : Items → Dues → Type 0
Due none end = Unit {0}
Due none (sets d) = Unit {0}
Due none (frame s n prev d ds) = ⊥
Due (item l str ms rs) end = ⊥
Due (item l str ms rs) (sets d) =
    Good (ari message) [] l str × ((is_container l.kind && eqb d 0) ≡ false)
    × Due ms (push (members (ari message) l) [] (pred d) end) × Due rs (behind (ari message) l str 0 [] d (sets d))
Due (item l str ms rs) (frame s n prev d ds) =
    Good s prev l str × ((is_container l.kind && eqb d 0) ≡ false) × Due ms (push (members s l) [] (pred d) end) × Due rs (behind s l str n prev d ds)
