-- What is written of one place or more opens a block, and so does its first line. Assumes nothing.
use Prim.Native.Nat.{ℕ, ◌+◌, ◌≤◌}
use mathlib.Core.Path.{◌≡◌, refl, ap, ◌∙◌}
use mathlib.Core.Bool.{true}
use mathlib.Core.List.{List, [], ◌∷◌, ◌++◌, append_assoc}
use Rattle.std.specs.Prelude.{None}
use lib.ListN.{length}
use Rattle.laws.specs.Lists.{All, all_nil, all_cons}
use Rattle.lines.specs.Lines.{opens, Line, lines_at, lines_from, ends_line}
use Rattle.lines.specs.declared.End.{End}
use Rattle.calendar.specs.declared.Stamp.{Stamp}
use Rattle.codes.specs.Written.{Run, elements_of, purge_element, Wrapped, on_line, written_most, wrapped, wrap_from, in_order, rendered}
use Rattle.roundtrip.proofs.Split.{Word, ended_lines, body_joined, wrap_words, first_line, lines_rendered}
use Rattle.roundtrip.proofs.Said.{Fine, element_short, element_opens}
use Rattle.roundtrip.proofs.Runs.{words_spans}

-- a text that opens a block: its first line, which stands at its start, does
pub record Opening (at : ℕ) (text : List ℕ) : Type 0 where
  pub whole : opens text ≡ true
  pub line : Line
  pub lines : List Line
  pub are : lines_from at text ≡ line ∷ lines
  pub start : line.start ≡ at
  pub first : opens line.body ≡ true

module _ (end : End) (so : ends_line end ≡ true) (at : ℕ) (rest : List ℕ) where
  opening : {e : List ℕ} {es : List (List ℕ)} → length e ≤ written_most → All Word (e ∷ es) → ((t : List ℕ) → opens (e ++ t) ≡ true)
      → Opening at (rendered end (wrapped (e ∷ es)) ++ rest)
  unfolding lines_at ended_lines in_order rendered
  opening {e} {es} h ws f =
      let v : Wrapped = wrap_from (0 + length e) es in
      let q : wrap_from 0 (e ∷ es) ≡ on_line e v = first_line e es h in
      record {
        whole = ap (λ (x : Wrapped). opens (rendered end (x.line ∷ x.lines) ++ rest)) q ∙ simp append_assoc (f _);
        line = _;
        lines = _;
        are = lines_rendered end so at rest ws;
        start = refl;
        first = ap opens (body_joined end (wrap_words 0 ws).now) ∙ ap (λ (x : Wrapped). opens (in_order x.line)) q ∙ f (in_order v.line);
      }

  pub spans_open : (s : Stamp) {rs : List Run} → All Fine rs → (rs ≡ [] → ⊥) → Opening at (rendered end (wrapped (elements_of None rs ++ (purge_element s ∷ []))) ++ rest)
  unfolding elements_of
  spans_open s all_nil n = absurd (n refl)
  spans_open s (all_cons {x = r} {xs = rs} f fs) n = opening (element_short None r) (words_spans s None (r ∷ rs)) (element_opens r f)
