-- The lines of a text from a place on. Assumes nothing.
use Prim.Native.Nat.{ℕ}
use mathlib.Core.Path.{◌≡◌, refl, sym, ap, ◌∙◌, subst}
use mathlib.Core.Bool.{Bool, true}
use mathlib.Core.List.{List, [], ◌∷◌}
use lib.ListN.{length}
use Rattle.laws.proofs.Tests.{by, by_order, apart, either_way}
use Rattle.lines.specs.Lines.{Line, lines_of}
use Rattle.lines.proofs.Ends.{next_of, line_at, lines_step, lines_last}
use Rattle.segments.specs.Search.{from_first, lines_after}
use Rattle.segments.specs.Searching.{lines_on}

-- ---- lines of a text
module _ (text : List ℕ) where
  -- these are the text's lines from some place on
  pub record From (ls : List Line) : Type 0 where
    pub at : ℕ
    pub are : ls ≡ lines_on text at

  -- a line and those after it are the text's lines from its start on, and so are those after it from some place on
  pub record Step (l : Line) (ls : List Line) : Type 0 where
    pub here : lines_on text l.start ≡ l ∷ ls
    pub rest : From ls

  pub from_all : From (lines_of text)
  from_all = record { at = 0; are = refl }

  pub from_step : (l : Line) (ls : List Line) → From (l ∷ ls) → Step l ls
  from_step l ls f =
      by_order f.at (length text)
      (λ h.
      let e : l ∷ ls ≡ line_at text f.at ∷ lines_on text (next_of text f.at) = f.are ∙ lines_step text f.at h in
      let first : l ≡ line_at text f.at = cc in
      let after : ls ≡ lines_on text (next_of text f.at) = cc in
      let start : l.start ≡ f.at = λ i. (first i).start in
      record { here = ap (lines_on text) start ∙ sym f.are; rest = record { at = next_of text f.at; are = after } })
      (λ h. let e : l ∷ ls ≡ [] = f.are ∙ lines_last text f.at h in apart cc)

  pub from_later : (ls : List Line) → From ls → From (lines_after ls)
  from_later [] f = f
  from_later (l ∷ ls) f = (from_step l ls f).rest

  pub from_first_lem : (p : List ℕ → Bool) (ls : List Line) → From ls → From (from_first p ls)
  unfolding from_first
  from_first_lem p [] f = f
  from_first_lem p (l ∷ ls) f = either_way From (p l.body) f (from_first_lem p ls (from_step l ls f).rest)

-- what comes first from the first line that passes a test on passes it
pub first_passes : (p : List ℕ → Bool) (ls : List Line) (l : Line) (rest : List Line) → from_first p ls ≡ l ∷ rest → p l.body ≡ true
unfolding from_first
first_passes p [] l rest e = apart cc
first_passes p (x ∷ ls) l rest e =
    by (p x.body)
    (λ t.
    let f : x ∷ ls ≡ l ∷ rest = rw t at e in
    let same : x ≡ l = cc in
    subst (λ (y : Line). p y.body ≡ true) same t)
    (λ t. first_passes p ls l rest (rw t at e))
