-- What may stand as an ARI (R21 to R46), row by row, over trees and with no reader in it. An item is its head, its string and its members. Interface: all
-- of it.
use Rattle.std.specs.Prelude.{ℕ, suc, ◌≤◌, ◌≡◌, Bool, true, false, not, ◌&&◌, List, [], ◌∷◌, ◌++◌, length, eqb}
use Rattle.cbor.specs.Byte.{below}
use Rattle.cbor.specs.Head.{unsigned, text, array, map, Lead, Sound, string_size, is_container}
use Rattle.cbor.specs.Utf8.{utf8}
use Rattle.ari.specs.Name.{identifier, namespace_name}
use Rattle.ari.specs.Table.{Place, alone, message, inside, param, inner, anywhere, Row, row, vast, literals, namespaces, object_namespaces, object_types, object_ids, keys, nonces, types, type_rows, value_rows, value_spelling, fits}
use Rattle.ari.specs.declared.Limits.{Limits}
use Rattle.ari.specs.declared.Input.{Input}
use Rattle.ari.specs.declared.Input.TheVariants.{Single, Message}
use Rattle.cbor.specs.Head.{key_bytes}
use Rattle.ari.specs.Items.{Items, none, item, encode, heads, depth}

-- an item with no members, of one of these kinds and ranges; a text string is spelled so
pub record Plain (rs : List Row) (spelled : List ℕ → Bool) (l : Lead) (s : List ℕ) (ms : Items) : Type 0 where
  pub head : Sound l
  pub fitting : fits l.kind l.arg rs ≡ true
  pub sized : length s ≡ string_size l
  pub spelling : (eqb l.kind text && not (spelled s)) ≡ false
  pub bare : ms ≡ none

-- the head of an array or a map with so many members or pairs
pub record Holds (k n : ℕ) (l : Lead) (s : List ℕ) : Type 0 where
  pub head : Sound l
  pub kind_is : l.kind ≡ k
  pub arg_is : l.arg ≡ n
  pub bare : s ≡ []

abbrev pub Literal : Lead → List ℕ → Items → Type 0
Literal = Plain literals utf8

abbrev pub Namespace : Lead → List ℕ → Items → Type 0
Namespace = Plain namespaces namespace_name

abbrev pub NamespaceOrNull : Lead → List ℕ → Items → Type 0
NamespaceOrNull = Plain object_namespaces namespace_name

abbrev pub ObjectType : Lead → List ℕ → Items → Type 0
ObjectType = Plain object_types identifier

abbrev pub ObjectId : Lead → List ℕ → Items → Type 0
ObjectId = Plain object_ids identifier

abbrev pub Key : Lead → List ℕ → Items → Type 0
Key = Plain keys utf8

abbrev pub Nonce : Lead → List ℕ → Items → Type 0
Nonce = Plain nonces utf8

abbrev pub Vast : Lead → List ℕ → Items → Type 0
Vast = Plain vast utf8

-- a type's number
abbrev pub TypeAt : Place → Lead → List ℕ → Items → Type 0
TypeAt w = Plain (type_rows w types) utf8

mutual
  -- an ARI at a place
  pub data Ari : Place → Lead → List ℕ → Items → Type 0 where
    literal : {w : Place} {l : Lead} {s : List ℕ} {ms : Items} → anywhere w ≡ true → Literal l s ms → Ari w l s ms
    namespace_ref : {w : Place} {l l₁ : Lead} {s s₁ : List ℕ} {m₁ : Items} → anywhere w ≡ true → Holds array 1 l s → Namespace l₁ s₁ m₁
        → Ari w l s (item l₁ s₁ m₁ none)
    typed : {w : Place} {l l₁ l₂ : Lead} {s s₁ s₂ : List ℕ} {m₁ m₂ : Items} → Holds array 2 l s → TypeAt w l₁ s₁ m₁
        → Value l₁.arg (inner w) l₂ s₂ m₂ → Ari w l s (item l₁ s₁ m₁ (item l₂ s₂ m₂ none))
    object_ref : {w : Place} {l : Lead} {s : List ℕ} {ms : Items} → anywhere w ≡ true → Object l s ms → Ari w l s ms

  pub data Object : Lead → List ℕ → Items → Type 0 where
    plain : {l l₁ l₂ l₃ : Lead} {s s₁ s₂ s₃ : List ℕ} {m₁ m₂ m₃ : Items} → Holds array 3 l s → NamespaceOrNull l₁ s₁ m₁ → ObjectType l₂ s₂ m₂
        → ObjectId l₃ s₃ m₃ → Object l s (item l₁ s₁ m₁ (item l₂ s₂ m₂ (item l₃ s₃ m₃ none)))
    with_params : {l l₁ l₂ l₃ l₄ : Lead} {s s₁ s₂ s₃ s₄ : List ℕ} {m₁ m₂ m₃ m₄ : Items} → Holds array 4 l s → NamespaceOrNull l₁ s₁ m₁
        → ObjectType l₂ s₂ m₂ → ObjectId l₃ s₃ m₃ → Params l₄ s₄ m₄
        → Object l s (item l₁ s₁ m₁ (item l₂ s₂ m₂ (item l₃ s₃ m₃ (item l₄ s₄ m₄ none))))

  pub data Params : Lead → List ℕ → Items → Type 0 where
    list : {n : ℕ} {l : Lead} {s : List ℕ} {ms : Items} → Holds array (suc n) l s → Aris param (suc n) ms → Params l s ms
    table : {n : ℕ} {l : Lead} {s : List ℕ} {ms : Items} → Holds map (suc n) l s → Pairs [] param (suc n) ms → Params l s ms

  -- the value of a type; the place of what it holds
  pub data Value : ℕ → Place → Lead → List ℕ → Items → Type 0 where
    simple_value : {t : ℕ} {w : Place} {l : Lead} {s : List ℕ} {ms : Items} → is_container l.kind ≡ false
        → Plain (value_rows t types) (value_spelling t) l s ms → Value t w l s ms
    ac : {w : Place} {n : ℕ} {l : Lead} {s : List ℕ} {ms : Items} → Holds array n l s → Aris w n ms → Value 17 w l s ms
    am : {w : Place} {n : ℕ} {l : Lead} {s : List ℕ} {ms : Items} → Holds map n l s → Pairs [] w n ms → Value 18 w l s ms
    execset : {w : Place} {n : ℕ} {l l₁ : Lead} {s s₁ : List ℕ} {m₁ rs : Items} → Holds array (suc n) l s → Nonce l₁ s₁ m₁ → Targets n rs
        → Value 20 w l s (item l₁ s₁ m₁ rs)
    rptset : {w : Place} {n : ℕ} {l l₁ l₂ : Lead} {s s₁ s₂ : List ℕ} {m₁ m₂ rs : Items} → Holds array (suc (suc n)) l s → Nonce l₁ s₁ m₁
        → Vast l₂ s₂ m₂ → Reports n rs → Value 21 w l s (item l₁ s₁ m₁ (item l₂ s₂ m₂ rs))

  -- so many ARIs
  pub data Aris : Place → ℕ → Items → Type 0 where
    no_aris : {w : Place} → Aris w 0 none
    aris : {w : Place} {n : ℕ} {l : Lead} {s : List ℕ} {ms rs : Items} → Ari w l s ms → Aris w n rs → Aris w (suc n) (item l s ms rs)

  -- so many pairs, each key above the one before: R32
  pub data Pairs : List ℕ → Place → ℕ → Items → Type 0 where
    no_pairs : {prev : List ℕ} {w : Place} → Pairs prev w 0 none
    pairs : {prev : List ℕ} {w : Place} {n : ℕ} {l l₁ : Lead} {s s₁ : List ℕ} {ms m₁ rs : Items} → Key l s ms → below prev (key_bytes l s) ≡ true
        → Ari w l₁ s₁ m₁ → Pairs (key_bytes l s) w n rs → Pairs prev w (suc n) (item l s ms (item l₁ s₁ m₁ rs))

  -- R39: so many targets
  pub data Targets : ℕ → Items → Type 0 where
    no_targets : Targets 0 none
    targets : {n : ℕ} {l : Lead} {s : List ℕ} {ms rs : Items} → Object l s ms → Targets n rs → Targets (suc n) (item l s ms rs)

  -- R42: so many reports
  pub data Reports : ℕ → Items → Type 0 where
    no_reports : Reports 0 none
    reports : {n m : ℕ} {l l₁ l₂ : Lead} {s s₁ s₂ : List ℕ} {m₁ m₂ r rs : Items} → Holds array (suc (suc n)) l s → Vast l₁ s₁ m₁ → Object l₂ s₂ m₂
        → Aris inside n r → Reports m rs → Reports (suc m) (item l s (item l₁ s₁ m₁ (item l₂ s₂ m₂ r)) rs)

-- R45, R46: a message
pub data Sets : Items → Type 0 where
  no_more : Sets none
  set : {l : Lead} {s : List ℕ} {ms rs : Items} → Ari message l s ms → Sets rs → Sets (item l s ms rs)

pub data Stands : Input → Items → Type 0 where
  single_ari : {l : Lead} {s : List ℕ} {ms : Items} → Ari alone l s ms → Stands Single (item l s ms none)
  a_message : {l : Lead} {s : List ℕ} {ms rs : Items} → Plain (row unsigned 1 1 ∷ []) utf8 l s ms → Sets rs → Stands Message (item l s ms rs)

-- R47: an input is one, in these bytes, with this count of heads, within the limits.
pub record Is (m : Limits) (i : Input) (b : List ℕ) (g : Items) (n : ℕ) : Type 0 where
  pub stands : Stands i g
  pub bytes : encode g ≡ b
  pub count : heads g ≡ n
  pub short : length b ≤ m.bytes
  pub few : n ≤ m.items
  pub shallow : depth g ≤ m.containers
