-- The order of the tests: R50 to R63. The reader takes heads from the front, one a step. Interface: Answer, read; Step, Dues, judge and run serve the
-- contracts of the walk.
use Rattle.std.specs.Prelude.{ℕ, zero, suc, pred, ◌+◌, ◌-◌, Bool, true, false, not, ◌&&◌, ◌||◌, cond, List, [], ◌∷◌, ◌++◌, length, take, drop, ltb, eqb}
use Rattle.cbor.specs.Byte.{below}
use Rattle.cbor.specs.Head.{text, Lead, size, Got, bad, got, get_head, key_bytes, string_size, is_container}
use Rattle.ari.specs.declared.Limits.{Limits}
use Rattle.ari.specs.declared.Input.{Input}
use Rattle.ari.specs.declared.Input.TheVariants.{Single, Message}
use Rattle.ari.specs.Table.{alone, message, Slot, version, ari, ExtraTest, none, one, rising, filled, Level, done, due, rule, fits, members}

-- What is due from here: a slot, how often again, the key before on its level, the containers that it may still open, and what is due behind
-- its level. At the bottom nothing more (a single ARI) or more sets (a message).
pub data Dues : Type 0 where
  end : Dues
  sets : ℕ → Dues
  frame : Slot → ℕ → List ℕ → ℕ → Dues → Dues

abbrev pub push : Level → List ℕ → ℕ → Dues → Dues
push done prev d ds = ds
push (due s n) prev d ds = frame s n prev d ds

-- test 8
abbrev pub wrong_version : ExtraTest → ℕ → Bool
wrong_version none a = false
wrong_version one a = not (eqb a 1)
wrong_version rising a = false
wrong_version filled a = false

-- test 11
abbrev pub not_greater : ExtraTest → List ℕ → List ℕ → Bool
not_greater none prev kb = false
not_greater one prev kb = false
not_greater rising prev kb = not (below prev kb)
not_greater filled prev kb = false

-- test 12
abbrev pub is_empty : ExtraTest → ℕ → Bool
is_empty none a = false
is_empty one a = false
is_empty rising a = false
is_empty filled a = eqb a 0

-- the key before, for what is due next on the level
abbrev pub key_after : ExtraTest → List ℕ → List ℕ → List ℕ
key_after none prev kb = prev
key_after one prev kb = prev
key_after rising prev kb = kb
key_after filled prev kb = prev

pub data Step : Type 0 where
  no : ℕ → Step
  yes : Lead → List ℕ → Step  -- the head, the string's bytes

-- the tests 9 to 12, of a head before r: the slot, the key before
unfoldable pub judge_content : Slot → List ℕ → Lead → List ℕ → Step
judge_content s prev l r =
    let str = take (string_size l) r in
    cond (ltb (length r) (string_size l)) (no 9)
    (cond (eqb l.kind text && not ((rule s).spelling str)) (no 10)
    (cond (not_greater (rule s).extra prev (key_bytes l str)) (no 11)
    (cond (is_empty (rule s).extra l.arg) (no 12)
    (yes l str))))

-- the tests 5 to 12: items that may still come, containers that may still be opened
unfoldable pub judge : ℕ → ℕ → Slot → List ℕ → Lead → List ℕ → Step
judge left d s prev l r =
    cond (eqb left 0) (no 5)
    (cond (is_container l.kind && eqb d 0) (no 6)
    (cond (not (fits l.kind l.arg (rule s).rows)) (no 7)
    (cond (wrong_version (rule s).extra l.arg) (no 8) (judge_content s prev l r))))

unfoldable pub judge_got : ℕ → ℕ → Slot → List ℕ → Got → List ℕ → Step
judge_got left d s prev (bad r) b = no r
judge_got left d s prev (got l) b = judge left d s prev l (drop (size l) b)

-- what is due behind an item's members
abbrev pub behind : Slot → Lead → List ℕ → ℕ → List ℕ → ℕ → Dues → Dues
behind s l str n prev d ds = push ((rule s).next l.arg n) (key_after (rule s).extra prev (key_bytes l str)) d ds

pub data Answer : Type 0 where
  refuse : ℕ → ℕ → Answer  -- number, place
  accept : ℕ → Answer  -- items (of run: items to spare)

abbrev pub Go : Type 0
Go = Dues → ℕ → List ℕ → Answer

-- R50: the first test that applies answers, at the head's first byte
unfoldable pub take_step : Go → Slot → ℕ → List ℕ → ℕ → Dues → ℕ → List ℕ → Step → Answer
take_step go s n prev d ds p b (no r) = refuse r p
take_step go s n prev d ds p b (yes l str) =
    go (push (members s l) [] (pred d) (behind s l str n prev d ds)) (p + (size l + length str)) (drop (size l + length str) b)

abbrev pub visit_frame : ℕ → Go → Slot → ℕ → List ℕ → ℕ → Dues → ℕ → List ℕ → Answer
visit_frame left go s n prev d ds p b = take_step go s n prev d ds p b (judge_got left d s prev (get_head b) b)

-- R63: bytes after a single ARI are 13; R45: a message may end here
unfoldable pub visit : ℕ → Go → Dues → ℕ → List ℕ → Answer
visit left go end p [] = accept left
visit left go end p (x ∷ b) = refuse 13 p
visit left go (sets d) p [] = accept left
visit left go (sets d) p (x ∷ b) = visit_frame left go (ari message) 0 [] d (sets d) p (x ∷ b)
visit left go (frame s n prev d ds) p b = visit_frame left go s n prev d ds p b

-- so many items may still come; the place of b's first byte is p
unfoldable pub run : ℕ → Dues → ℕ → List ℕ → Answer
run zero = visit zero (λ ds p b. refuse 5 p)
run (suc k) = visit (suc k) (run k)

abbrev pub counted : ℕ → Answer → Answer
counted n (refuse r p) = refuse r p
counted n (accept left) = accept (n - left)

-- what is due first, and behind it
abbrev pub first_slot : Input → Slot
first_slot Single = ari alone
first_slot Message = version

abbrev pub bottom : Input → ℕ → Dues
bottom Single d = end
bottom Message d = sets d

-- R51 before all others
unfoldable pub read : Limits → Input → List ℕ → Answer
read l i b =
    cond (ltb l.bytes (length b)) (refuse 1 0)
    (counted l.items (run l.items (frame (first_slot i) 0 [] l.containers (bottom i l.containers)) 0 b))
