-- No line of what is written has more than 66 bytes. Assumes nothing.
use Prim.Native.Nat.{ℕ, ◌+◌, ◌/◌, ◌≤◌}
use native.Mathlib.Omega.{arith}
use mathlib.Core.Path.{◌≡◌, sym, ap, ◌∙◌}
use mathlib.Core.Bool.{true}
use mathlib.Core.List.{List, [], ◌∷◌, ◌++◌, append-nil}
use Rattle.std.specs.Prelude.{Option, Some}
use lib.ListN.{length, length-append}
use borrow.Author.Tests.{leb-true}
use Rattle.laws.proofs.Tests.{by}
use Rattle.laws.specs.Lists.{All, all_nil, all_cons}
use Rattle.lines.specs.Lines.{end_bytes, pieces, body_of, Line, lines_at, lines_from, ends_line}
use Rattle.lines.specs.declared.End.{End}
use Rattle.calendar.specs.declared.Stamp.{Stamp}
use Rattle.codes.specs.Written.{Run, elements_of, purge_element, written_most, fits, Wrapped, wrap_from, wrapped, in_order, rendered}
use Rattle.roundtrip.proofs.Split.{Word, ended_lines, body_joined, wrap_words, lines_rendered}
use Rattle.roundtrip.proofs.Said.{element_short, purge_short}

-- ---- the elements
abbrev Short : List ℕ → Type 0
Short e = length e ≤ written_most

pub short_spans : (s : Stamp) (last : Option ℕ) (rs : List Run) → All Short (elements_of last rs ++ (purge_element s ∷ []))
unfolding elements_of
short_spans s last [] = all_cons (purge_short s) all_nil
short_spans s last (r ∷ rs) = all_cons (element_short last r) (short_spans s (Some (r.first / 1000)) rs)

-- ---- the lines, by elements
abbrev Fit : List (List ℕ) → Type 0
Fit l = length (in_order l) ≤ written_most

record Fits (n : ℕ) (w : Wrapped) : Type 0 where
  now : n + length (in_order w.line) ≤ written_most
  later : All Fit w.lines

wrap_fits : (n : ℕ) {es : List (List ℕ)} → n ≤ written_most → All Short es → Fits n (wrap_from n es)
unfolding wrap_from in_order
wrap_fits n h all_nil = record { now = omega arith; later = all_nil }
wrap_fits n h (all_cons {x = e} {xs = es} k s) =
    by (fits n e)
    (λ q. let r = wrap_fits (n + length e) (leb-true _ _ q) s in
    rw q (record { now = omega (arith, r.now, length-append e (in_order (wrap_from (n + length e) es).line)); later = r.later }))
    λ q. let r = wrap_fits (length e) k s in
    let f : Fit (e ∷ (wrap_from (length e) es).line) = omega (arith, r.now, length-append e (in_order (wrap_from (length e) es).line)) in
    rw q (record { now = omega arith; later = all_cons f r.later })

-- ---- the lines of the text
abbrev pub FitLine : Line → Type 0
FitLine l = length l.body ≤ written_most

module _ (end : End) where
  ended_fit : (at : ℕ) {ls : List (List (List ℕ))} → All (All Word) ls → All Fit ls → All FitLine (lines_at at (ended_lines end ls))
  unfolding lines_at ended_lines
  ended_fit at all_nil all_nil = all_nil
  ended_fit at (all_cons {x = l} w ws) (all_cons f fs) =
      let g : length (body_of (in_order l ++ end_bytes end)) ≤ written_most = rw (body_joined end w) f in
      all_cons g (ended_fit (at + length (in_order l ++ end_bytes end)) ws fs)

  pub rendered_fit : ends_line end ≡ true → (at : ℕ) {es : List (List ℕ)} → All Word es → All Short es → All FitLine (lines_from at (rendered end (wrapped es)))
  unfolding pieces
  rendered_fit so at {es} ws ss =
      let v = wrap_words 0 ws in
      let r = wrap_fits 0 (omega arith) ss in
      let f : Fit (wrap_from 0 es).line = omega (arith, r.now) in
      let e : lines_from at (rendered end (wrapped es)) ≡ lines_at at (ended_lines end (wrapped es)) =
      ap (lines_from at) (sym (append-nil (rendered end (wrapped es)))) ∙ lines_rendered end so at [] ws ∙ ap (lines_at at) (append-nil (ended_lines end (wrapped es))) in
      rw e (ended_fit at (all_cons v.now v.later) (all_cons f r.later))
