-- The search over lines: the lines from the first that passes a test, seen from a place of the text. Assumes nothing.
use Rattle.std.specs.Prelude.{Option, None, Some}
use Prim.Native.Nat.{ℕ, ◌-◌, ◌≤◌, ◌<◌}
use native.Mathlib.Omega.{arith}
use mathlib.Core.Path.{◌≡◌, sym, ap, ◌∙◌}
use mathlib.Core.List.{List}
use mathlib.Core.Bool.{Bool, true, false, cond}
use lib.ListN.{length}
use Rattle.laws.proofs.Tests.{by_order}
use Rattle.lines.specs.Spans.{span_at, part}
use Rattle.lines.specs.declared.Span.{Span}
use Rattle.lines.proofs.Ends.{next_of, next_within, next_more, next_last, part_body, line_at, lines_step, lines_last, span_here, span_none, found_none, found_here, found_start, found_again, found_end, found_next, span_inside, span_next}
use Rattle.segments.specs.Search.{from_first, after_first}
use Rattle.segments.specs.Searching.{lines_on, found_lines, Inside, next_in}

-- the place after a line
pub next_is : (s : List ℕ) (at : ℕ) → next_in at (span_at s at) ≡ next_of s at
next_is s at = by_order at (length s) (λ h. rw (span_here s at h)) (λ h. rw (span_none s at h, next_last s at h))

-- the bytes of a line that was found
pub body_of : (s : List ℕ) (at : ℕ) (f : Option Span) → f ≡ span_at s at → (l : Span) → f ≡ Some l → (line : List ℕ) → line ≡ part s at l.end → line ≡ (line_at s at).body
body_of s at f e l p line q = q ∙ ap (part s at) (found_end s at f e l p) ∙ part_body s at

-- the lines from here on have the answer of the lines from the start on, for each test that is meant
pub record Seeks (T : (List ℕ → Bool) → Type 0) (s : List ℕ) (from at : ℕ) : Type 0 where
  pub low : from ≤ at
  pub same : (p : List ℕ → Bool) → T p → from_first p (lines_on s from) ≡ from_first p (lines_on s at)

module _ (T : (List ℕ → Bool) → Type 0) (s : List ℕ) (from at : ℕ) (v : Seeks T s from at) where
  pub seeks_none : (f : Option Span) → f ≡ span_at s at → f ≡ None → (r : Option Span) → r ≡ None → (p : List ℕ → Bool) → T p
      → found_lines s r ≡ from_first p (lines_on s from)
  unfolding from_first
  seeks_none f e q r z p k = rw z (sym (v.same p k ∙ ap (from_first p) (lines_last s at (found_none s at f e q))))

  module _ (f : Option Span) (e : f ≡ span_at s at) (l : Span) (z : f ≡ Some l) where
    h : at < length s
    h = found_here s at f e l z

    pub seeks_in : Inside s from (Some l)
    seeks_in = record { low = omega (arith, v.low, found_start s at f e l z); is = found_again s at f e l z }

    pub seeks_less : length s - l.next < length s - at
    seeks_less = omega (arith, found_next s at f e l z, next_more s at h, next_within s at (omega (arith, h)))

    module _ (line : List ℕ) (el : line ≡ part s at l.end) (t : Bool) (et : (p : List ℕ → Bool) → T p → t ≡ p line) where
      step : (p : List ℕ → Bool) → T p → from_first p (lines_on s at) ≡ cond t (lines_on s at) (from_first p (lines_on s l.next))
      unfolding from_first
      step p k =
          let q : p (line_at s at).body ≡ t = ap p (sym (body_of s at f e l z line el)) ∙ sym (et p k) in
          ap (from_first p) (lines_step s at h) ∙ rw (q, found_next s at f e l z, ← lines_step s at h)

      pub seeks_here : t ≡ true → (p : List ℕ → Bool) → T p → found_lines s (Some l) ≡ from_first p (lines_on s from)
      seeks_here y p k = ap (lines_on s) (found_start s at f e l z) ∙ sym (v.same p k ∙ step p k ∙ rw y)

      pub seeks_on : t ≡ false → Seeks T s from l.next
      seeks_on n = record { low = omega (arith, v.low, found_next s at f e l z, next_more s at h); same = λ p k. v.same p k ∙ step p k ∙ rw n }

-- ---- the lines after the first that is sought
pub after_found : (p : List ℕ → Bool) (s : List ℕ) (from : ℕ) (f : Option Span) → found_lines s f ≡ from_first p (lines_on s from) → Inside s from f
    → lines_on s (next_in (length s) f) ≡ after_first p (lines_on s from)
after_found p s from None ef i = lines_last s (length s) (omega arith) ∙ rw (← ef)
after_found p s from (Some l) ef i = rw (span_next s l i.is, ← ef, lines_step s l.start (span_inside s l i.is))
