-- The first and the last line of a bulletin's blocks: what is known of all lines of the text is known of these. Assumes nothing.
use Prim.Native.Nat.{ℕ, zero, suc}
use mathlib.Core.Path.{◌≡◌, refl, ap, ◌∙◌, subst}
use mathlib.Core.Bool.{Bool, true}
use mathlib.Core.List.{List, [], ◌∷◌}
use lib.ListN.{length}
use lib.Dec.{ltb}
use Rattle.laws.proofs.Tests.{by, apart, either_way}
use Rattle.laws.proofs.Lists.{all_tail, all_map, all_each}
use Rattle.laws.specs.Lists.{All, all_nil, all_cons}
use Rattle.refusal.specs.declared.Reason.TheVariants.{WrongBlock}
use Rattle.refusal.specs.Answer.{Answer, ok, refused}
use Rattle.lines.specs.Bytes.{lf}
use Rattle.lines.specs.Lines.{pieces, ends_line, blank, opens, is_end, Line, lines_of}
use Rattle.lines.specs.declared.End.{End}
use Rattle.codes.specs.Block.{Content}
use Rattle.segments.specs.Search.{from_first, lines_after, after_first, closes}
use Rattle.segments.specs.Segments.{Segment, past_purge, runs_to, opened, ninth, segments_from, most}
use Rattle.bulletin.specs.Starts.{from_line3, first_lines, segments_of}
use Rattle.bulletin.specs.Bulletin.{Bulletin, read_bulletin}
use Rattle.bulletin.proofs.Saying.{by_then, ok_one}
use Rattle.making.proofs.Made.{some_same}
use Rattle.forms.specs.Edited.{ends_in}
use Rattle.rereading.proofs.WholeLines.{pieces_lines, whole_ended}
use Rattle.rereading.proofs.Fair.{Fair, wholes, check_fair}

-- lines of one kind
module _ (P : Line → Type 0) where
  -- a segment's block stands from the start of such a line to the end of such a line, and the first of them ended as the segment says
  pub record Spanned (g : Segment) : Type 0 where
    pub first : Line
    pub first_so : P first
    pub start : first.start ≡ g.start
    pub ended : first.ended ≡ g.ended
    pub last : Line
    pub last_so : P last
    pub block : last.next ≡ g.block

  -- ---- some of these lines
  all_from : (p : List ℕ → Bool) {ls : List Line} → All P ls → All P (from_first p ls)
  unfolding from_first
  all_from p all_nil = all_nil
  all_from p (all_cons {x = l} h hs) = either_way (All P) (p l.body) (all_cons h hs) (all_from p hs)

  all_after : {ls : List Line} → All P ls → All P (lines_after ls)
  all_after all_nil = all_nil
  all_after (all_cons h hs) = hs

  -- the line that has the purge
  record Past (k : ℕ) : Type 0 where
    line : Line
    so : P line
    is : line.next ≡ k

  past_line : (z : ℕ) (l : Line) {ls : List Line} → P l → All P ls → Past (past_purge z l ls)
  unfolding past_purge
  past_line z l h all_nil = record { line = l; so = h; is = refl }
  past_line z l h (all_cons {x = m} k ks) = either_way Past (ltb z l.next) (record { line = l; so = h; is = refl }) (past_line z m k ks)

  -- ---- the segments that start in these lines
  module _ (text : List ℕ) (issue : ℕ) where
    -- what the lines after a segment give
    abbrev Next : (List Line → Answer (List Segment)) → Type 0
    Next next = (ls : List Line) (gs : List Segment) → All P ls → next ls ≡ ok gs → All Spanned gs

    runs_spanned : (l : Line) → P l → (block : ℕ) → Past block → (c : Content) (next : List Line → Answer (List Segment)) → Next next
        → (ls : List Line) (gs : List Segment) → All P ls → runs_to l block c next ls ≡ ok gs → All Spanned gs
    runs_spanned l h block p c next go [] gs a e = apart cc
    runs_spanned l h block p c next go (d ∷ ls) gs a e =
        by_then (next ls) _ gs
        (λ hs f last.
        subst (All Spanned) (ok_one _ gs last)
        (all_cons
        (record { first = l; first_so = h; start = refl; ended = refl; last = p.line; last_so = p.so; block = p.is })
        (go ls hs (all_tail a) f)))
        e

    opened_spanned : (next : List Line → Answer (List Segment)) → Next next → Next (opened text issue next)
    opened_spanned next go [] gs a e = subst (All Spanned) (ok_one [] gs e) all_nil
    opened_spanned next go (l ∷ ls) gs (all_cons h hs) e =
        by_then _ _ gs
        (λ p f last.
        runs_spanned l h _ (past_line p.at l h hs) p.content next go (from_first is_end (l ∷ ls)) gs (all_from is_end (all_cons h hs)) last)
        e

    ninth_spanned : Next ninth
    ninth_spanned [] gs a e = subst (All Spanned) (ok_one [] gs e) all_nil
    ninth_spanned (l ∷ ls) gs a e = apart cc

    segments_spanned : (n : ℕ) → Next (segments_from n text issue)
    unfolding segments_from
    segments_spanned zero ls gs a e = ninth_spanned (from_first opens ls) gs (all_from opens a) e
    segments_spanned (suc n) ls gs a e = opened_spanned (segments_from n text issue) (segments_spanned n) (from_first opens ls) gs (all_from opens a) e

    -- from line 3 on, or behind the MND block
    all_third : (past : List Line) (stop : ℕ) (ls ms : List Line) → All P past → All P ls → from_line3 past stop ls ≡ ok ms → All P ms
    all_third past stop [] ms a b e = apart cc
    all_third past stop (l ∷ ls) ms a b e =
        by (blank l.body) (λ p. subst (All P) (ok_one past ms (rw p at e)) a)
        λ p. by (opens l.body) (λ q. subst (All P) (ok_one (l ∷ ls) ms (rw (p, q) at e)) b)
        λ q. let z : refused WrongBlock l.start ≡ ok ms = rw (p, q) at e in apart cc

    all_first : (stop : ℕ) (ls ms : List Line) → All P ls → first_lines stop ls ≡ ok ms → All P ms
    unfolding first_lines
    all_first stop ls ms a e =
        let b = all_after (all_after a) in
        all_third (after_first closes (after_first blank (lines_after (lines_after ls)))) stop (lines_after (lines_after ls)) ms
        (all_after (all_from closes (all_after (all_from blank b)))) b e

    all_spanned : (ls : List Line) (gs : List Segment) → All P ls → segments_of text issue ls ≡ ok gs → All Spanned gs
    unfolding segments_of
    all_spanned ls gs a e =
        by_then (first_lines (length text) ls) _ gs
        (λ ms f. by_then (segments_from most text issue ms) _ gs λ hs h s.
        segments_spanned most ms gs (all_first (length text) ls ms a f) (h ∙ ap ok (some_same (length text) hs gs s).same))
        e

-- ---- of a bulletin that is read
module _ (text : List ℕ) (year month : ℕ) (r : Bulletin) (e : read_bulletin text year month ≡ ok r) where
  -- Its blocks start and end with lines of the kind that all its lines are of.
  pub read_spanned : (P : Line → Type 0) → All P (lines_of text) → All (Spanned P) r.segments
  unfolding read_bulletin
  read_spanned P a =
      by_then _ _ r (λ _ _.
      by_then _ _ r λ _ _.
      by_then _ _ r λ _ _.
      by_then _ _ r λ _ _.
      by_then _ _ r λ _ _.
      by_then _ _ r λ issue _.
      by_then _ _ r λ _ _.
      by_then _ _ r λ gs listed last.
      subst (λ (x : Bulletin). All (Spanned P) x.segments) (ok_one _ r last) (all_spanned P text issue (lines_of text) gs a listed))
      e

  -- Their first lines ended as all its lines did.
  pub read_ended : (P : End → Type 0) → All (λ (l : Line). P l.ended) (lines_of text) → All P (ends_in r.segments)
  read_ended P a =
      all_each (λ (g : Segment). g.ended) (λ g s. subst P s.ended s.first_so) (read_spanned (λ (l : Line). P l.ended) a)

  -- Its lines pass refusal 2,
  pub read_fair : All Fair (pieces lf text)
  unfolding read_bulletin
  read_fair = by_then _ _ r (λ _ _. by_then _ _ r λ _ _. by_then _ _ r λ _ checked _. check_fair text checked) e

  -- so each ended with one of the three, and so did the first line of each block.
  pub read_ends : All (λ (end : End). ends_line end ≡ true) (ends_in r.segments)
  read_ends =
      let P : End → Type 0 = λ (end : End). ends_line end ≡ true in
      read_ended P (pieces_lines P 0 (all_map (λ p w. whole_ended w) (wholes read_fair)))
