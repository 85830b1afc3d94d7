-- Figures counted on by one reference or one message. The idea: a total as a word is the total up to one past the most, and stays so when more is added.
use Prim.Native.Nat.{ℕ, ◌+◌, ◌≤◌, min}
use mathlib.Core.Path.{◌≡◌, refl}
use mathlib.Core.List.{List}
use native.Mathlib.Omega.{arith}
use lib.ListN.{length}
use Rattle.listing.specs.declared.Namespace.{Namespace}
use Rattle.listing.specs.declared.Namespace.TheVariants as code
use Rattle.month_lines.specs.Lines.{Line, most_lines}
use Rattle.month_lines.specs.Code.{beyond, Lined, Counts}
use Rattle.month_figures.specs.Figures.{turned, Figures}
use Rattle.month.specs.declared.Tally.{Tally}
use Rattle.month.specs.Code.{with_counts, with_code, with_size, Held, Goes, sized}

more : (a d : ℕ) {v x : ℕ} → x ≡ min a beyond → v ≡ min (x + d) beyond → v ≡ min (a + d) beyond
more a d h e = omega arith

-- other counts of references, in words as in figures
held_with : {t : Tally} {ps cs : List ℕ} {f : Figures} → Held t ps cs f → {u r n : ℕ} {a b : ℕ} {ls : List Line} → u ≡ min a beyond → r ≡ min b beyond
    → {ps' cs' : List ℕ} → Lined ps' cs' n ls
    → Held (with_counts t u r n) ps' cs' (record { messages = f.messages; bytes = f.bytes; items = f.items; unknown = a; relative = b; lines = ls })
held_with h d e l = record { messages = h.messages; bytes = h.bytes; items = h.items; unknown = d; relative = e; lined = l }

module _ (t : Tally) (ps cs : List ℕ) where
  module _ {s : Namespace} where
    pub space_number : {w p n : ℕ} {ps' cs' : List ℕ} → s ≡ code.Number w → p ≡ turned w → Counts ps cs t.lines p n ps' cs' → most_lines ≤ length ps → most_lines ≤ length cs
        → {r : Tally} → r ≡ with_counts t t.unknown t.relative n → Goes t ps cs (with_code s) r ps' cs'
    space_number g e c a b q = rw (g, q) (record { on = λ f h. held_with h h.unknown h.relative (rw (← e) (c.counts a b f.lines h.lined)) })

    pub space_unknown : {p l x : ℕ} → s ≡ code.Name p l → x ≡ min (t.unknown + 1) beyond
        → {r : Tally} → r ≡ with_counts t x t.relative t.lines → Goes t ps cs (with_code s) r ps cs
    space_unknown g e q = rw (g, q) (record { on = λ f h. held_with h (more f.unknown 1 h.unknown e) h.relative h.lined })

    pub space_relative : {x : ℕ} → s ≡ code.Relative → x ≡ min (t.relative + 1) beyond
        → {r : Tally} → r ≡ with_counts t t.unknown x t.lines → Goes t ps cs (with_code s) r ps cs
    space_relative g e q = rw (g, q) (record { on = λ f h. held_with h h.unknown (more f.relative 1 h.relative e) h.lined })

  pub size_counted : (b i : ℕ) → Goes t ps cs (with_size b i) (sized t b i) ps cs
  size_counted b i = record {
    on = λ f h. record {
      messages = more f.messages 1 h.messages refl;
      bytes = more f.bytes b h.bytes refl;
      items = more f.items i h.items refl;
      unknown = h.unknown;
      relative = h.relative;
      lined = h.lined;
    };
  }

pub sized_is : (t : Tally) (b i : ℕ) {x y z : ℕ} → x ≡ min (t.messages + 1) beyond → y ≡ min (t.bytes + b) beyond → z ≡ min (t.items + i) beyond
    → record { messages = x; bytes = y; items = z; unknown = t.unknown; relative = t.relative; lines = t.lines } ≡ sized t b i
sized_is t b i e f g = rw (e, f, g)

pub ruleset counts = (space_number, space_unknown, space_relative, sized_is)
