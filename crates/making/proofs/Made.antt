-- What a bulletin that is read says of its segments. Assumes nothing.
use Prim.Native.Nat.{ℕ, zero, suc, ◌≤◌, suc-le-suc}
use native.Mathlib.Omega.{arith}
use mathlib.Core.Path.{◌≡◌, refl, subst}
use mathlib.Core.Bool.{true}
use mathlib.Core.List.{List, [], ◌∷◌}
use Rattle.std.specs.Prelude.{Option}
use lib.ListN.{length}
use Rattle.laws.proofs.Tests.{by, apart}
use Rattle.laws.specs.Lists.{All, all_nil, all_cons}
use Rattle.refusal.specs.Answer.{Answer, ok, refused, must}
use Rattle.lines.specs.Lines.{Line, lines_of, blank, is_end, opens}
use Rattle.codes.specs.Block.{Content, content_at}
use Rattle.reading.specs.Placed.{placed_at}
use Rattle.reading.proofs.Placing.{placed_parts}
use Rattle.segments.specs.Search.{from_first, lines_after, closes}
use Rattle.bulletin.specs.Mnd.{past_mnd}
use Rattle.segments.specs.Segments.{Segment, runs_to, past_purge, opened, ninth, segments_from, most}
use Rattle.bulletin.specs.Starts.{segments_of, from_line3, first_lines, one_or_more}
use Rattle.bulletin.specs.Bulletin.{Bulletin, issued, read_bulletin}
use Rattle.bulletin.proofs.Saying.{then_back, ok_one, by_then}
use Rattle.refusal.specs.declared.Reason.TheVariants.{WrongTime, WrongBlock}
use Rattle.calendar.specs.Calendar.{is_issue_month, minute_of}
use Rattle.calendar.specs.declared.Stamp.{Stamp}
use Rattle.heading.specs.Heading.{Heading}
use Rattle.heading.specs.Storm.{StormName}
use Rattle.roundtrip.specs.Round.{Opens}
use Rattle.making.proofs.Openings.{From, from_all, from_step, from_later, from_first_lem, first_passes}

-- ---- the segments
module _ (text : List ℕ) (issue : ℕ) where
  -- the content of a segment is what stands at its start, where a line opens a block
  pub record Stands (g : Segment) : Type 0 where
    pub opening : Opens text g.start
    pub says : content_at text issue g.start ≡ ok g.content

  -- at most n segments, each of which stands in the text
  pub record Standing (n : ℕ) (gs : List Segment) : Type 0 where
    pub few : length gs ≤ n
    pub each : All Stands gs

  -- what the lines after a segment give
  abbrev Next : ℕ → (List Line → Answer (List Segment)) → Type 0
  Next n next = (ls : List Line) → From text ls → (gs : List Segment) → next ls ≡ ok gs → Standing n gs

  none_stand : (n : ℕ) (gs : List Segment) → ◌≡◌ {A = Answer (List Segment)} (ok []) (ok gs) → Standing n gs
  none_stand n gs e = subst (Standing n) (ok_one [] gs e) (record { few = omega arith; each = all_nil })

  one_more : (n : ℕ) (g : Segment) (gs : List Segment) → Stands g → Standing n gs → Standing (suc n) (g ∷ gs)
  one_more n g gs s t = record { few = suc-le-suc t.few; each = all_cons s t.each }

  module _ (n : ℕ) (next : List Line → Answer (List Segment)) (h : Next n next) where
    ended_read : (l : Line) (past : ℕ) (c : Content) → Opens text l.start → content_at text issue l.start ≡ ok c
        → (ls : List Line) → From text ls → (gs : List Segment) → runs_to l past c next ls ≡ ok gs → Standing (suc n) gs
    ended_read l past c o e [] f gs g = apart cc
    ended_read l past c o e (x ∷ ls) f gs g =
        let t = then_back (next ls) _ gs g in
        subst (Standing (suc n)) (ok_one _ gs t.rest)
        (one_more n _ t.value (record { opening = o; says = e }) (h ls (from_step text x ls f).rest t.value t.first))

    opened_read : (ls : List Line) → From text ls → ((l : Line) (rest : List Line) → ls ≡ l ∷ rest → opens l.body ≡ true)
        → (gs : List Segment) → opened text issue next ls ≡ ok gs → Standing (suc n) gs
    opened_read [] f p gs e = none_stand (suc n) gs e
    opened_read (l ∷ ls) f p gs e =
        let t = then_back (placed_at text issue l.start) (λ p. runs_to l (past_purge p.at l ls) p.content next (from_first is_end (l ∷ ls))) gs e in
        let o : Opens text l.start = record { line = l; lines = ls; are = (from_step text l ls f).here; passes = p l ls refl } in
        ended_read l (past_purge t.value.at l ls) t.value.content o (placed_parts text issue l.start t.value t.first).content (from_first is_end (l ∷ ls)) (from_first_lem text is_end (l ∷ ls) f) gs t.rest

  ninth_read : (ls : List Line) (gs : List Segment) → ninth ls ≡ ok gs → Standing 0 gs
  ninth_read [] gs e = none_stand 0 gs e
  ninth_read (l ∷ ls) gs e = apart cc

  pub segments_read : (n : ℕ) (ls : List Line) → From text ls → (gs : List Segment) → segments_from n text issue ls ≡ ok gs → Standing n gs
  unfolding segments_from
  segments_read zero ls f gs e = ninth_read (from_first opens ls) gs e
  segments_read (suc n) ls f gs e =
      opened_read n (segments_from n text issue) (segments_read n) (from_first opens ls) (from_first_lem text opens ls f) (first_passes opens ls) gs e

-- the lines that the first segment is sought in
from_line3_lem : (text : List ℕ) (past : List Line) → From text past → (stop : ℕ) (ls : List Line) → From text ls
    → (rs : List Line) → from_line3 past stop ls ≡ ok rs → From text rs
from_line3_lem text past p stop [] f rs e = apart cc
from_line3_lem text past p stop (l ∷ ls) f rs e =
    by (blank l.body)
    (λ t. subst (From text) (ok_one past rs (rw t at e)) p)
    λ t. by (opens l.body)
    (λ o. subst (From text) (ok_one (l ∷ ls) rs (rw (t, o) at e)) f)
    λ o. let w : refused WrongBlock l.start ≡ ok rs = rw (t, o) at e in apart cc

first_from : (text : List ℕ) (stop : ℕ) (rs : List Line) → first_lines stop (lines_of text) ≡ ok rs → From text rs
unfolding first_lines
first_from text stop rs e =
    let all = from_all text in
    let third = from_later text _ (from_later text (lines_of text) all) in
    let below = from_later text _ (from_first_lem text blank _ third) in
    let past = from_later text _ (from_first_lem text closes _ below) in
    from_line3_lem text (past_mnd (lines_of text)) past stop (lines_after (lines_after (lines_of text))) third rs e

-- one segment or more
pub record SomeSegments (gs hs : List Segment) : Type 0 where
  pub same : gs ≡ hs
  pub one : 1 ≤ length hs

pub some_same : (stop : ℕ) (gs hs : List Segment) → one_or_more stop gs ≡ ok hs → SomeSegments gs hs
some_same stop [] hs e = apart cc
some_same stop (g ∷ gs) hs e = let p = ok_one (g ∷ gs) hs e in record { same = p; one = subst (λ (l : List Segment). 1 ≤ length l) p (omega arith) }

-- what a bulletin that is read went through
pub record Read (text : List ℕ) (year month : ℕ) (b : Bulletin) : Type 0 where
  pub known : must (is_issue_month year month) WrongTime 0 ≡ ok tt
  pub stamp : Stamp
  pub dated : issued (minute_of (record { year = year; month = month; stamp = stamp })) ≡ ok b.issue
  pub listed : segments_of text b.issue (lines_of text) ≡ ok b.segments

read_last : (text : List ℕ) (year month : ℕ) (b : Bulletin) (h : Heading) (n issue : ℕ) (s : Option StormName) (gs : List Segment) → must (is_issue_month year month) WrongTime 0 ≡ ok tt
    → issued (minute_of (record { year = year; month = month; stamp = h.stamp })) ≡ ok issue → segments_of text issue (lines_of text) ≡ ok gs
    → record { heading = h; identifier = n; issue = issue; storm = s; segments = gs } ≡ b → Read text year month b
read_last text year month b h n issue s gs k d l e =
    subst (Read text year month) e (record { known = k; stamp = h.stamp; dated = d; listed = l })

pub read_back : (text : List ℕ) (year month : ℕ) (b : Bulletin) → read_bulletin text year month ≡ ok b → Read text year month b
unfolding read_bulletin
read_back text year month b =
    by_then _ _ b λ _ _.
    by_then _ _ b λ _ k.
    by_then _ _ b λ _ _.
    by_then _ _ b λ h _.
    by_then _ _ b λ n _.
    by_then _ _ b λ issue d.
    by_then _ _ b λ s _.
    by_then _ _ b λ gs l e.
    read_last text year month b h n issue s gs k d l (ok_one _ b e)

-- one segment or more, at most eight, each of which stands in the text
pub record Segmented (text : List ℕ) (issue : ℕ) (gs : List Segment) : Type 0 where
  pub one : 1 ≤ length gs
  pub standing : Standing text issue most gs

lines_read : (text : List ℕ) (issue : ℕ) (gs : List Segment) → segments_of text issue (lines_of text) ≡ ok gs → Segmented text issue gs
unfolding segments_of
lines_read text issue gs =
    by_then (first_lines (length text) (lines_of text)) _ gs λ ls f.
    by_then (segments_from most text issue ls) _ gs λ hs h e.
    let s = some_same (length text) hs gs e in
    record {
      one = s.one;
      standing = subst (Standing text issue most) s.same (segments_read text issue most ls (first_from text (length text) ls f) hs h);
    }

module _ (text : List ℕ) (year month : ℕ) (b : Bulletin) (e : read_bulletin text year month ≡ ok b) where
  pub segmented : Segmented text b.issue b.segments
  segmented = lines_read text b.issue b.segments (read_back text year month b e).listed
