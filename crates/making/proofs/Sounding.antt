-- The book that is made of a bulletin is sound. Assumes nothing.
use Prim.Native.Nat.{ℕ, suc, ◌-◌, ◌≤◌, ◌<◌}
use native.Mathlib.Omega.{arith}
use mathlib.Core.Path.{◌≡◌, refl}
use mathlib.Core.Bool.{Bool, true, false}
use mathlib.Core.List.{List, map}
use Rattle.std.specs.Prelude.{Option, None, Some}
use lib.ListN.{length, length-map}
use borrow.Author.Tests.{lt-ltb}
use Rattle.laws.proofs.Tests.{apart}
use Rattle.laws.proofs.Lists.{all_map}
use Rattle.laws.specs.Lists.{All, all_nil, all_cons}
use Rattle.refusal.specs.declared.Reason.{Reason}
use Rattle.refusal.specs.declared.Reason.TheVariants.{WrongTime}
use Rattle.refusal.specs.Answer.{ok, must}
use Rattle.lines.specs.declared.End.{End}
use Rattle.months.specs.Months.{year_of, month_of_year, issue_months, start_of, month_of}
use Rattle.calendar.specs.Calendar.{is_issue_month, minute_of, stamp_after, date_in, date_of}
use Rattle.calendar.specs.declared.Date.{Date}
use Rattle.months.proofs.Laws.{start_mono, month_some}
use Rattle.calendar.proofs.Laws.{minute_date, issue_true}
use Rattle.roundtrip.specs.Round.{ReadsBack}
use Rattle.lines.specs.Lines.{ends_line}
use Rattle.roundtrip.proofs.WriteRead.{read_writable, read_again}
use Rattle.blocks.specs.Content.{is_content}
use Rattle.keeping.proofs.Keeping.{new_sound}
use Rattle.layout.specs.Sound.{is_issue, Fine, Sound}
use Rattle.segments.specs.Segments.{Segment}
use Rattle.bulletin.specs.Bulletin.{Bulletin, issued, read_bulletin}
use Rattle.making.specs.Make.{book_from}
use Rattle.making.proofs.Made.{Stands, read_back, segmented}

-- ---- the issue
pub must_true : (t : Bool) (reason : Reason) (place : ℕ) → must t reason place ≡ ok tt → t ≡ true
must_true true reason place e = refl
must_true false reason place e = apart cc

issued_some : (o : Option ℕ) (t : ℕ) → issued o ≡ ok t → o ≡ Some t
issued_some None t e = apart cc
issued_some (Some m) t e = cc

-- a date of the years up to 2099 stands before the end of the issues' months
pub date_before : (d : Date) (t : ℕ) → minute_of d ≡ Some t → d.year ≤ 2099 → t < start_of issue_months
unfolding date_of
date_before d t e h = go (month_of t) refl (minute_date d t e)
  where
    go : (o : Option ℕ) → month_of t ≡ o → date_in t o ≡ Some d → t < start_of issue_months
    go None q f = apart cc
    go (Some k) q f =
        let same : record { year = year_of k; month = month_of_year k; stamp = stamp_after (t - start_of k) } ≡ d = cc in
        let year : year_of k ≡ d.year = λ i. (same i).year in
        let low : suc k ≤ issue_months = omega arith in
        omega (arith, (month_some t k q).high, start_mono (suc k) issue_months low)

-- the issue of a bulletin that is read has the year and the month under which it was read,
pub made_dated : (text : List ℕ) (year month : ℕ) (b : Bulletin) (e : read_bulletin text year month ≡ ok b)
    → date_of b.issue ≡ Some (record { year = year; month = month; stamp = (read_back text year month b e).stamp })
made_dated text year month b e = minute_date _ b.issue (issued_some _ b.issue (read_back text year month b e).dated)

-- and is of the years 1970..2099
pub made_issue : (text : List ℕ) (year month : ℕ) (b : Bulletin) → read_bulletin text year month ≡ ok b → is_issue b.issue ≡ true
unfolding is_issue
made_issue text year month b e =
    let r = read_back text year month b e in
    let i = issue_true year month (must_true (is_issue_month year month) WrongTime 0 r.known) in
    lt-ltb b.issue (start_of issue_months)
    (date_before (record { year = year; month = month; stamp = r.stamp }) b.issue (issued_some _ b.issue r.dated) i.to)

-- ---- the segments
-- how many there are
pub record Counted (b : Bulletin) : Type 0 where
  pub one : 1 ≤ length b.segments
  pub eight : length b.segments ≤ 8

pub made_count : (text : List ℕ) (year month : ℕ) (b : Bulletin) → read_bulletin text year month ≡ ok b → Counted b
made_count text year month b e =
    let s = segmented text year month b e in
    record { one = s.one; eight = s.standing.few }

-- each content is sound,
stands_fine : (text : List ℕ) (issue : ℕ) (g : Segment) → Stands text issue g → is_content issue g.content ≡ true
unfolding is_content
stands_fine text issue g s = let w = read_writable text issue g.start g.content s.opening s.says in rw w.set w.purge

-- and its written block reads back to it, whichever of the three ends its lines have
pub made_again : (end : End) → ends_line end ≡ true → (text : List ℕ) (year month : ℕ) (b : Bulletin) → read_bulletin text year month ≡ ok b
    → All (λ (g : Segment). ReadsBack end b.issue g.content) b.segments
made_again end so text year month b e =
    all_map (λ g s. read_again end so text b.issue g.start g.content s.opening s.says) (segmented text year month b e).standing.each

-- every content of a bulletin that is read is sound under its issue
pub made_fine : (text : List ℕ) (year month : ℕ) (b : Bulletin) → read_bulletin text year month ≡ ok b
    → All (λ (g : Segment). is_content b.issue g.content ≡ true) b.segments
made_fine text year month b e = all_map (stands_fine text b.issue) (segmented text year month b e).standing.each

-- ---- the book
mapped : (issue : ℕ) {gs : List Segment} → All (λ (g : Segment). is_content issue g.content ≡ true) gs → All (Fine issue) (map (λ (g : Segment). g.content) gs)
mapped issue all_nil = all_nil
mapped issue (all_cons f a) = all_cons f (mapped issue a)

pub made_sound : (text : List ℕ) (year month : ℕ) (b : Bulletin) → read_bulletin text year month ≡ ok b → Sound (book_from b)
made_sound text year month b e =
    let n = made_count text year month b e in
    let l : length (map (λ (g : Segment). g.content) b.segments) ≡ length b.segments = length-map b.segments (λ (g : Segment). g.content) in
    new_sound b.issue (map (λ (g : Segment). g.content) b.segments) (made_issue text year month b e) (omega (arith, n.one)) (omega (arith, n.eight))
    (mapped b.issue (made_fine text year month b e))
