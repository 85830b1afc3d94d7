-- Figures counted on message by message are the sums over all messages.
use Prim.Native.Nat.{ℕ, suc, ◌+◌}
use mathlib.Core.Path.{◌≡◌, refl, sym, ◌∙◌, ap}
use mathlib.Core.List.{List, [], ◌∷◌, ◌++◌}
use native.Mathlib.Omega.{arith}
use Rattle.ari.specs.Listing.{Space, number, name, relative}
use Rattle.month_figures.specs.Figures.{Message, total, one_each, bytes_in, items_in, many, is_unknown, is_relative, many_in, spaces_of, places, lines_from, Figures, figures}
use Rattle.month_figures.proofs.Figured.{total_append, spaces_append, places_append, lines_append, same}
use Rattle.month.specs.Code.{with_space, with_spaces, with_size, with_message, with_messages}

-- figures with more in them
abbrev plus : ℕ → ℕ → ℕ → ℕ → ℕ → List ℕ → Figures → Figures
plus a b c d e ps f = record {
  messages = f.messages + a;
  bytes = f.bytes + b;
  items = f.items + c;
  unknown = f.unknown + d;
  relative = f.relative + e;
  lines = lines_from f.lines ps;
}

spaces_plus : (xs : List Space) (f : Figures) → with_spaces xs f ≡ plus 0 0 0 (many is_unknown xs) (many is_relative xs) (places xs) f
spaces_plus [] f = same f (plus 0 0 0 0 0 [] f) (omega arith) (omega arith) (omega arith) (omega arith) (omega arith) refl
spaces_plus (x ∷ xs) f = spaces_plus xs (with_space x f) ∙ step x
  where
    step : (x : Space) → plus 0 0 0 (many is_unknown xs) (many is_relative xs) (places xs) (with_space x f) ≡ plus 0 0 0 (many is_unknown (x ∷ xs)) (many is_relative (x ∷ xs)) (places (x ∷ xs)) f
    step (number z) = same _ _ (omega arith) (omega arith) (omega arith) (omega arith) (omega arith) refl
    step (name p n) = same _ _ (omega arith) (omega arith) (omega arith) (omega arith) (omega arith) refl
    step relative = same _ _ (omega arith) (omega arith) (omega arith) (omega arith) (omega arith) refl

abbrev plus_all : List Message → Figures → Figures
plus_all xs f = plus (total one_each xs) (total bytes_in xs) (total items_in xs) (total (many_in is_unknown) xs) (total (many_in is_relative) xs) (places (spaces_of xs)) f

messages_plus : (xs : List Message) (f : Figures) → with_messages xs f ≡ plus_all xs f
messages_plus [] f = same f (plus_all [] f) (omega arith) (omega arith) (omega arith) (omega arith) (omega arith) refl
messages_plus (x ∷ xs) f =
    messages_plus xs (with_message x f) ∙ ap (plus_all xs) (spaces_plus x.spaces (with_size (bytes_in x) (items_in x) f))
    ∙ same _ _ (omega arith) (omega arith) (omega arith) (omega arith) (omega arith)
    (sym (ap (lines_from f.lines) (places_append x.spaces (spaces_of xs)) ∙ lines_append f.lines (places x.spaces) (places (spaces_of xs))))

pub figures_plus : (xs ys : List Message) → with_messages ys (figures xs) ≡ figures (xs ++ ys)
unfolding figures
figures_plus xs ys =
    messages_plus ys (figures xs)
    ∙ same _ _ (sym (total_append one_each xs ys)) (sym (total_append bytes_in xs ys)) (sym (total_append items_in xs ys)) (sym (total_append (many_in is_unknown) xs ys))
    (sym (total_append (many_in is_relative) xs ys))
    (sym (ap (lines_from []) (ap places (spaces_append xs ys) ∙ places_append (spaces_of xs) (spaces_of ys)) ∙ lines_append [] (places (spaces_of xs)) (places (spaces_of ys))))
