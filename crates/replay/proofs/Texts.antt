-- A text that takes the place of a case's own: `% n`. Assumes nothing.
use Prim.Native.Nat.{ℕ, zero, suc, ◌+◌, ◌-◌, ◌≤◌, ◌<◌}
use native.Mathlib.Omega.{arith}
use mathlib.Core.Path.{◌≡◌, refl, sym, ◌∙◌}
use mathlib.Core.List.{List, [], ◌∷◌}
use mathlib.Core.Bool.{true, false, cond, ◌&&◌}
use Rattle.std.specs.Prelude.{Option, None, Some, option_map}
use lib.ListN.{length, get_or, take, drop, length-drop, drop_of_length-le}
use lib.Seq.{drop-drop}
use lib.Dec.{eqb}
use borrow.Author.Tests.{ne_eqb, le-leb, lt-leb}
use Rattle.std.specs.Prelude.{IfOk}
use Rattle.std.specs.declared.result.Result.{Result}
use Rattle.std.specs.declared.result.Result.TheVariants.{Ok, Err}
use Rattle.laws.proofs.Tests.{by, impossible}
use Rattle.replay.specs.Lines.{CallLine, Standing, only_one, percent, text_asked, following, replaced, after_line, paper_line, paper_progress}
use Rattle.replay.specs.declared.Line.{Line}
use Rattle.replay.specs.declared.Progress.{Progress}

-- ---- which lines are `% n`
only_is : (ns : List ℕ) (k : ℕ) → 2 ≤ length ns → only_one (take k ns) ≡ cond (eqb k 1) (Some (get_or ns 0 0)) None
only_is [] k h = impossible (omega arith)
only_is (n ∷ []) k h = impossible (omega arith)
only_is (n ∷ (m ∷ ns)) zero h = refl
only_is (n ∷ (m ∷ ns)) (suc zero) h = refl
only_is (n ∷ (m ∷ ns)) (suc (suc k)) h = rw (ne_eqb (suc (suc k)) 1 (λ e. omega arith))

asked_is : (l : Line) → length l.numbers ≡ 5 → text_asked (Some (paper_line l)) ≡ cond (eqb l.kind percent && eqb l.count 1) (Some (get_or l.numbers 0 0)) None
unfolding text_asked
asked_is l e = by (eqb l.kind percent) (λ p. rw p (only_is l.numbers l.count (omega arith))) (λ p. rw p)

module _ (l : Line) (e : length l.numbers ≡ 5) where
  pub text_named : (eqb l.kind percent && eqb l.count 1) ≡ true → Some (get_or l.numbers 0 0) ≡ text_asked (Some (paper_line l))
  text_named t = sym (asked_is l e ∙ rw t)

  pub text_unnamed : (eqb l.kind percent && eqb l.count 1) ≡ false → None ≡ text_asked (Some (paper_line l))
  text_unnamed t = sym (asked_is l e ∙ rw t)

module _ (l : Option CallLine) (c : Standing) where
  line_other : text_asked l ≡ None → c ≡ after_line l c
  unfolding after_line
  line_other e = rw e

  line_text : (n : ℕ) → text_asked l ≡ Some n → (r : Standing) → r ≡ replaced n c → r ≡ after_line l c
  unfolding after_line
  line_text n e r q = rw e q

  -- the same of an answer that may be an error
  line_answer : {E : Type 0} (s : List ℕ) (n : ℕ) → text_asked l ≡ Some n → (r : Result Progress E)
      → IfOk r (λ after. paper_progress s after ≡ replaced n c) → IfOk r (λ after. paper_progress s after ≡ after_line l c)
  line_answer s n e (Ok after) q = line_text n e (paper_progress s after) q
  line_answer s n e (Err x) q = tt

-- by what was spelled: a line of another form, a line that asks for no text, and one that does
module _ (o : Option Line) (c : Standing) where
  pub line_unknown : o ≡ None → c ≡ after_line (option_map paper_line o) c
  unfolding after_line text_asked
  line_unknown e = rw e

  module _ (l : Line) (e : o ≡ Some l) (a : Option ℕ) (ea : a ≡ text_asked (Some (paper_line l))) where
    told : text_asked (option_map paper_line o) ≡ a
    told = rw e (sym ea)

    pub line_quiet : a ≡ None → c ≡ after_line (option_map paper_line o) c
    line_quiet q = line_other (option_map paper_line o) c (told ∙ q)

    pub line_asks : {E : Type 0} (s : List ℕ) (n : ℕ) → a ≡ Some n → (r : Result Progress E)
        → IfOk r (λ after. paper_progress s after ≡ replaced n c) → IfOk r (λ after. paper_progress s after ≡ after_line (option_map paper_line o) c)
    line_asks s n q = line_answer (option_map paper_line o) c s n (told ∙ q)

-- ---- what is taken of the input
module _ (s : List ℕ) (p : Progress) (n : ℕ) where
  pub text_over : 99999 < n → paper_progress s p ≡ replaced n (paper_progress s p)
  unfolding replaced following
  text_over h = rw (lt-leb n 99999 h)

  module _ (few : n ≤ 99999) where
    pub text_short : length s - p.next < n
        → paper_progress s (record { start = p.start; end = p.end; next = length s; lent = p.lent }) ≡ replaced n (paper_progress s p)
    unfolding replaced following
    text_short h = rw (le-leb n 99999 few, length-drop p.next s, lt-leb n (length s - p.next) h, gone)
      where
        gone : drop (length s) s ≡ []
        gone = drop_of_length-le s {i = length s} (omega arith)

    pub text_taken : n ≤ length s - p.next
        → paper_progress s (record { start = p.next; end = p.next + n; next = p.next + n; lent = p.lent }) ≡ replaced n (paper_progress s p)
    unfolding replaced following
    text_taken h = rw (le-leb n 99999 few, length-drop p.next s, le-leb n (length s - p.next) h, drop-drop n p.next s, o)
      where
        o : p.next + n - p.next ≡ n
        o = omega arith
