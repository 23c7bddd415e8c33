-- A text all of whose lines ended alike, edited: all lines of the new text end so too. Assumes nothing.
use Prim.Native.Nat.{ℕ, ◌+◌, ◌-◌}
use native.Mathlib.Nat.{add-zero, zero-add, add_assoc}
use native.Mathlib.Omega.{arith}
use mathlib.Core.Path.{◌≡◌, refl, sym, ap, ap₂, ◌∙◌, subst}
use mathlib.Core.Bool.{true}
use mathlib.Core.List.{List, [], ◌∷◌, ◌++◌}
use lib.ListN.{length, take, drop}
use lib.Seq.{drop-append-add, take-append-add}
use Rattle.laws.proofs.Lists.{all_append, all_map}
use Rattle.laws.specs.Lists.{All, all_nil, all_cons}
use Rattle.refusal.specs.Answer.{ok}
use Rattle.lines.specs.Bytes.{lf}
use Rattle.lines.specs.Lines.{pieces, ends_line, Line, lines_at, lines_of}
use Rattle.lines.specs.Spans.{part}
use Rattle.lines.specs.declared.End.{End}
use Rattle.codes.specs.Block.{Content}
use Rattle.codes.specs.Written.{in_order}
use Rattle.writing.specs.Write.{written_block}
use Rattle.segments.specs.Segments.{Segment}
use Rattle.bulletin.specs.Bulletin.{Bulletin, read_bulletin}
use Rattle.bulletin.proofs.Saying.{by_then, ok_one}
use Rattle.forms.specs.Edited.{edited_from, edited, ends_in, written_forms}
use Rattle.rereading.specs.Demand.{OnlyEnd, KeepsEnd}
use Rattle.rereading.proofs.WholeLines.{joined_pieces, joined_append, Whole, pieces_joined, EndsWith, pieces_lines, lines_pieces}
use Rattle.rereading.proofs.Fair.{wholes}
use Rattle.rereading.proofs.Spanned.{Spanned, read_spanned, read_ended, read_fair, read_ends}
use Rattle.rereading.proofs.WrittenBlock.{given_lines}

-- ---- places between lines
-- one of these lines starts here, counted from the first byte of the first, or the last one ends
data Between : List (List ℕ) → ℕ → Type 0 where
  front : {ps : List (List ℕ)} → Between ps 0
  behind : {p : List ℕ} {ps : List (List ℕ)} {k : ℕ} → Between ps k → Between (p ∷ ps) (length p + k)

-- every line starts and ends at such places
record Bounded (ps : List (List ℕ)) (l : Line) : Type 0 where
  start : Between ps l.start
  next : Between ps l.next

lines_bounded : (ps : List (List ℕ)) (at : ℕ) (qs : List (List ℕ)) → ((k : ℕ) → Between qs k → Between ps (at + k)) → All (Bounded ps) (lines_at at qs)
unfolding lines_at
lines_bounded ps at [] h = all_nil
lines_bounded ps at (q ∷ qs) h =
    let next : (k : ℕ) → Between qs k → Between ps (at + length q + k) =
    λ k b. subst (Between ps) (sym (add_assoc at (length q) k)) (h (length q + k) (behind b)) in
    all_cons
    (record { start = subst (Between ps) (add-zero at) (h 0 front); next = subst (Between ps) (add-zero (at + length q)) (next 0 front) })
    (lines_bounded ps (at + length q) qs next)

-- ---- bytes that are lines of one kind
module _ (P : List ℕ → Type 0) where
  record MadeOf (s : List ℕ) : Type 0 where
    lines : List (List ℕ)
    are : in_order lines ≡ s
    so : All P lines

  no_lines : MadeOf []
  unfolding in_order
  no_lines = record { lines = []; are = refl; so = all_nil }

  more_lines : {s t : List ℕ} → MadeOf s → MadeOf t → MadeOf (s ++ t)
  more_lines a b =
      record {
        lines = a.lines ++ b.lines;
        are = joined_append a.lines b.lines ∙ ap₂ (λ (x y : List ℕ). x ++ y) a.are b.are;
        so = all_append a.so b.so;
      }

  one_line : {p : List ℕ} → P p → {s : List ℕ} → MadeOf s → MadeOf (p ++ s)
  unfolding in_order
  one_line {p} h a = record { lines = p ∷ a.lines; are = ap (λ (x : List ℕ). p ++ x) a.are; so = all_cons h a.so }

  -- of such lines is what stands behind a place between two, up to it, and from one such place to another
  drop_lines : {ps : List (List ℕ)} → All P ps → {k : ℕ} → Between ps k → MadeOf (drop k (in_order ps))
  unfolding in_order
  drop_lines {ps} a front = record { lines = ps; are = refl; so = a }
  drop_lines (all_cons {x = p} {xs = ps} h hs) (behind {k} b) = subst MadeOf (sym (drop-append-add p (in_order ps) k)) (drop_lines hs b)

  take_lines : {ps : List (List ℕ)} → All P ps → {k : ℕ} → Between ps k → MadeOf (take k (in_order ps))
  unfolding in_order
  take_lines a front = no_lines
  take_lines (all_cons {x = p} {xs = ps} h hs) (behind {k} b) = subst MadeOf (sym (take-append-add p (in_order ps) k)) (one_line h (take_lines hs b))

  part_lines : {ps : List (List ℕ)} → All P ps → {j k : ℕ} → Between ps j → Between ps k → MadeOf (part (in_order ps) j k)
  unfolding in_order
  part_lines {ps} a {k} front b = let e : k ≡ k - 0 = omega arith in subst (λ (n : ℕ). MadeOf (take n (in_order ps))) e (take_lines a b)
  part_lines {ps} a {j} (behind b) front =
      let e : 0 ≡ 0 - j = omega arith in
      subst (λ (n : ℕ). MadeOf (take n (drop j (in_order ps)))) e no_lines
  part_lines (all_cons {x = p} {xs = ps} h hs) (behind {k = j} a) (behind {k} b) =
      let e : length p + k - (length p + j) ≡ k - j = omega arith in
      subst MadeOf (sym (ap₂ (λ (n : ℕ) (x : List ℕ). take n x) e (drop-append-add p (in_order ps) j))) (part_lines hs a b)

  -- and so the text with new blocks of such lines, where each old one stands between such places
  edited_lines : {ps : List (List ℕ)} → All P ps → {at : ℕ} → Between ps at → {gs : List Segment} → All (Spanned (Bounded ps)) gs
      → {blocks : List (List ℕ)} → All MadeOf blocks → MadeOf (edited_from at (in_order ps) gs blocks)
  unfolding edited_from
  edited_lines a b all_nil bs = drop_lines a b
  edited_lines a b (all_cons s ss) all_nil = drop_lines a b
  edited_lines {ps} a b (all_cons s ss) (all_cons m ms) =
      more_lines (part_lines a b (subst (Between ps) s.start s.first_so.start))
      (more_lines m (edited_lines a (subst (Between ps) s.block s.last_so.next) ss ms))

-- ---- whole lines that ended so
record WholeEnded (end : End) (p : List ℕ) : Type 0 where
  whole : Whole p
  ended : EndsWith end p

whole_ends_so : (end : End) {ps : List (List ℕ)} → All Whole ps → All (EndsWith end) ps → All (WholeEnded end) ps
whole_ends_so end all_nil all_nil = all_nil
whole_ends_so end (all_cons w ws) (all_cons e es) = all_cons (record { whole = w; ended = e }) (whole_ends_so end ws es)

-- written forms are
forms_lines : (end : End) {ends : List End} → All (λ (x : End). ends_line x ≡ true) ends → All (λ (x : End). x ≡ end) ends → (cs : List Content)
    (blocks : List (List ℕ)) → written_forms ends cs ≡ ok blocks → All (MadeOf (WholeEnded end)) blocks
unfolding written_forms
forms_lines end all_nil all_nil [] blocks e = subst (All (MadeOf (WholeEnded end))) (ok_one [] blocks e) all_nil
forms_lines end all_nil all_nil (c ∷ cs) blocks e = subst (All (MadeOf (WholeEnded end))) (ok_one [] blocks e) all_nil
forms_lines end (all_cons so sos) (all_cons is iss) [] blocks e = subst (All (MadeOf (WholeEnded end))) (ok_one [] blocks e) all_nil
forms_lines end (all_cons {x} so sos) (all_cons is iss) (c ∷ cs) blocks e =
    by_then (written_block x c.places c.purge) _ blocks
    (λ b f.
    by_then (written_forms _ cs) _ blocks λ bs g last.
    let l = given_lines x so c.places c.purge b f in
    subst (All (MadeOf (WholeEnded end))) (ok_one (b ∷ bs) blocks last)
    (all_cons
    (record { lines = l.lines; are = l.are; so = whole_ends_so end l.whole (all_map (λ p h. h ∙ is) l.ended) })
    (forms_lines end sos iss cs bs g)))
    e

-- and a text that is made of such lines has no others
made_only : (end : End) (text : List ℕ) → MadeOf (WholeEnded end) text → OnlyEnd end text
made_only end text m =
    let is : pieces lf text ≡ m.lines = ap (pieces lf) (sym m.are) ∙ pieces_joined (all_map (λ p w. w.whole) m.so) in
    subst (λ (ps : List (List ℕ)). All (λ (l : Line). l.ended ≡ end) (lines_at 0 ps)) (sym is)
    (pieces_lines (λ (x : End). x ≡ end) 0 (all_map (λ p w. w.ended) m.so))

-- ---- A text that reads and all of whose lines ended alike, with the written forms of any contents in place of its blocks: all lines end so.
pub edited_one_end : (text : List ℕ) (year month : ℕ) (r : Bulletin) → read_bulletin text year month ≡ ok r → (cs : List Content) (blocks : List (List ℕ))
    → written_forms (ends_in r.segments) cs ≡ ok blocks → KeepsEnd text (edited text r.segments blocks)
edited_one_end text year month r e cs blocks given end only =
    let ps : List (List ℕ) = pieces lf text in
    let kept : All (WholeEnded end) ps =
    whole_ends_so end (wholes (read_fair text year month r e)) (lines_pieces (λ (x : End). x ≡ end) 0 ps only) in
    let bounded : All (Bounded ps) (lines_of text) = lines_bounded ps 0 ps (λ k b. subst (Between ps) (sym (zero-add k)) b) in
    let new = forms_lines end (read_ends text year month r e) (read_ended text year month r e (λ (x : End). x ≡ end) only) cs blocks given in
    made_only end (edited text r.segments blocks)
    (subst (λ (x : List ℕ). MadeOf (WholeEnded end) (edited x r.segments blocks)) (joined_pieces lf text)
    (edited_lines (WholeEnded end) kept front (read_spanned text year month r e (Bounded ps) bounded) new))
