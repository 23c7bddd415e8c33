-- A segment by its number. Assumes nothing.
use Prim.Native.Nat.{ℕ, zero, suc, ◌-◌, ◌≤◌, ◌<◌}
use native.Mathlib.Omega.{arith}
use mathlib.Core.Path.{◌≡◌, refl, sym, ap, ◌∙◌}
use mathlib.Core.List.{List, [], ◌∷◌}
use lib.ListN.{length, get_or}
use lib.Seq.{get_or-take, length-take-le}
use Rattle.laws.proofs.Tests.{impossible}
use Rattle.refusal.specs.declared.Reason.TheVariants.{NoSuchSegment}
use Rattle.std.specs.Prelude.{Result, Ok, Err, IfOk}
use Rattle.refusal.specs.Answer.{Answer, ok, no, refusal_for, and_then, answer_by, answer_of}
use Rattle.refusal.specs.declared.Refusal.{Refusal}
use Rattle.lines.specs.Spans.{part}
use Rattle.bulletin.specs.Bulletin.{read_bulletin}
use Rattle.segments.specs.Seen.{segments_held, Sized}
use Rattle.bulletin.specs.Report.{reported, report_said, Reads}
use Rattle.bulletin.specs.View.{numbered, view_of, accepted, part_viewed}
use Rattle.segments.specs.declared.Segment.{Segment}
use Rattle.bulletin.specs.declared.Bulletin.{Bulletin}

numbered_at : (d : Segment) (n : ℕ) (gs : List Segment) → n < length gs → numbered (suc n) gs ≡ ok (get_or gs n d)
unfolding numbered
numbered_at d n [] h = impossible (omega arith)
numbered_at d zero (g ∷ gs) h = refl
numbered_at d (suc n) (g ∷ gs) h = numbered_at d n gs (omega arith)

numbered_past : (n : ℕ) (gs : List Segment) → length gs ≤ n → numbered (suc n) gs ≡ no 15 0
unfolding numbered
numbered_past n [] h = refl
numbered_past zero (g ∷ gs) h = impossible (omega arith)
numbered_past (suc n) (g ∷ gs) h = numbered_past n gs (omega arith)

numbered_zero : (gs : List Segment) → numbered 0 gs ≡ no 15 0
unfolding numbered
numbered_zero [] = refl
numbered_zero (g ∷ gs) = refl

module _ (s : List ℕ) (year month n : ℕ) (r : Result Bulletin Refusal) (reads : Reads s year month r) where
  er : answer_by report_said r ≡ reported (read_bulletin s year month)
  er = reads.says

  pub view_refused : (w : Refusal) → r ≡ Err w → answer_of (Err w) ≡ view_of s year month n
  unfolding view_of and_then
  view_refused w q = rw (← er, q)

  module _ (b : Bulletin) (q : r ≡ Ok b) (z : IfOk r (λ b. Sized b.segments)) where
    sized : Sized b.segments
    sized = rw q at z

    view_is : view_of s year month n ≡ numbered n (segments_held b.segments)
    unfolding view_of and_then
    view_is = rw (← er, q)

    long : length (segments_held b.segments) ≡ b.segments.count
    long = length-take-le b.segments.count b.segments.held (omega (arith, sized.long, sized.few))

    pub view_one : 1 ≤ n → n ≤ b.segments.count → (d : Segment) → answer_of (Ok (get_or b.segments.held (n - 1) d)) ≡ view_of s year month n
    view_one low high d =
        let e : n ≡ suc (n - 1) = omega arith in
        sym (view_is ∙ ap (λ (k : ℕ). numbered k (segments_held b.segments)) e ∙ numbered_at d (n - 1) (segments_held b.segments) (omega (arith, long))
        ∙ ap ok (get_or-take b.segments.count b.segments.held (n - 1) d (omega arith)))

    pub view_low : n < 1 → (w : Refusal) → w ≡ refusal_for NoSuchSegment 0 → answer_of (Err w) ≡ view_of s year month n
    view_low k w ew =
        let e : n ≡ 0 = omega arith in
        rw ew (sym (view_is ∙ ap (λ (m : ℕ). numbered m (segments_held b.segments)) e ∙ numbered_zero (segments_held b.segments)))

    pub view_far : b.segments.count < n → (w : Refusal) → w ≡ refusal_for NoSuchSegment 0 → answer_of (Err w) ≡ view_of s year month n
    view_far k w ew =
        let e : n ≡ suc (n - 1) = omega arith in
        rw ew (sym (view_is ∙ ap (λ (m : ℕ). numbered m (segments_held b.segments)) e ∙ numbered_past (n - 1) (segments_held b.segments) (omega (arith, long))))

-- ---- the part, and the answer beside it
module _ (s : List ℕ) (o : Answer Segment) (v : Result Segment Refusal) (e : answer_of v ≡ o) where
  pub part_one : (g : Segment) → v ≡ Ok g → (p : List ℕ) → p ≡ part s g.start g.past → p ≡ part_viewed o s
  part_one g q p h = h ∙ rw (← e, q)

  pub part_no : (r : Refusal) → v ≡ Err r → (p : List ℕ) → p ≡ part s 0 0 → p ≡ part_viewed o s
  part_no r q p h = h ∙ rw (← e, q)

  pub accepted_one : (g : Segment) → v ≡ Ok g → answer_of (Ok tt) ≡ accepted o
  accepted_one g q = rw (← e, q)

  pub accepted_no : (r : Refusal) → v ≡ Err r → answer_of {A = Unit} (Err r) ≡ accepted o
  accepted_no r q = rw (← e, q)
