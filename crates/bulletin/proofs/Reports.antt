-- The whole bulletin: the order of reading, part after part. Assumes nothing.
use Rattle.heading.specs.declared.Storm.{Storm}
use Rattle.std.specs.Prelude.{Option, Result, Ok, Err, IfOk}
use Prim.Native.Nat.{ℕ, zero, suc}
use native.Mathlib.Omega.{arith}
use mathlib.Core.Path.{◌≡◌, refl, sym, ap, ◌∙◌}
use mathlib.Core.List.{List, [], ◌∷◌}
use lib.ListN.{length, take}
use Rattle.laws.proofs.Tests.{impossible, apart}
use Rattle.refusal.specs.declared.Reason.TheVariants.{NoSegment}
use Rattle.refusal.specs.Answer.{Answer, ok, no, refused, refusal_for, and_then, answer_by, answer_of}
use Rattle.refusal.specs.declared.Refusal.{Refusal}
use Rattle.lines.specs.Lines.{Line, blank}
use Rattle.heading.specs.Paper.{paper_heading, paper_storm}
use Rattle.heading.specs.Storm.{is_office, StormName}
use Rattle.segments.specs.Search.{from_first, up_to_first, after_first, closes}
use Rattle.segments.specs.Searching.{lines_on}
use Rattle.bulletin.specs.Mnd.{office_storm, storm_in}
use Rattle.segments.specs.Segments as segments
use Rattle.segments.specs.Segments.{segments_from, most}
use Rattle.bulletin.specs.Starts.{from_line3, first_lines, one_or_more, segments_of}
use Rattle.bulletin.specs.Bulletin as rule
use Rattle.bulletin.specs.Bulletin.{read_bulletin}
use Rattle.segments.specs.Seen.{segments_for, segments_held, Sized}
use Rattle.segments.specs.Listing.{seen_of, seen_from}
use Rattle.segments.specs.KeptBy.{kept_from}
use Rattle.bulletin.specs.Report.{Report, reported, report_of, report_said, segments_reported, Reads}
use Rattle.bulletin.specs.Below.{some_seen, listed_of, head_of, below_top, below_of, Answers}
use Rattle.bulletin.specs.Front.{text_checked, Above, above_of, second_of, top_of}
use Rattle.segments.specs.declared.Segment.{Segment}
use Rattle.segments.specs.declared.Segments.{Segments}
use Rattle.bulletin.specs.declared.Top.{Top}
use Rattle.bulletin.specs.declared.Head.{Head}
use Rattle.bulletin.specs.declared.Bulletin.{Bulletin}

-- ---- a refusal
refused_answers : (s : List ℕ) (said : Answer Report) (ks d : List ℕ) (w : Refusal) → refused w.reason w.place ≡ said → Answers s said ks d (Err w)
refused_answers s said ks d w q = record { says = q; segments = λ b e. apart cc; sized = tt; kept = λ b e. apart cc }

-- what is said may be said otherwise
answers_as : (s : List ℕ) (x y : Answer Report) (ks d : List ℕ) (r : Result Bulletin Refusal) → x ≡ y → Answers s x ks d r → Answers s y ks d r
answers_as s x y ks d r e v = record { says = v.says ∙ e; segments = v.segments; sized = v.sized; kept = v.kept }

-- ---- the segments
some_taken : (stop : ℕ) (h : Head) (n : ℕ) (held : List Segment) → length held ≡ 8 → (n ≡ 0 → ⊥) → some_seen stop (report_of h) (take n held) ≡ ok (report_of h (take n held))
some_taken stop h zero held l n = impossible (n refl)
some_taken stop h (suc n) [] l k = impossible (omega arith)
some_taken stop h (suc n) (g ∷ gs) l k = refl

module _ (s : List ℕ) (from : ℕ) (h : Head) (l : Result Segments Refusal) (el : answer_by segments_held l ≡ seen_from most s h.issue from) (ks d : List ℕ) where
  listed_is : listed_of s from h ≡ and_then (answer_by segments_held l) (some_seen (length s) (report_of h))
  unfolding listed_of
  listed_is = rw (← el)

  pub listed_refused : (w : Refusal) → l ≡ Err w → Answers s (listed_of s from h) ks d (Err w)
  unfolding and_then
  listed_refused w q = refused_answers s (listed_of s from h) ks d w (sym (listed_is ∙ rw q))

  module _ (gs : Segments) (q : l ≡ Ok gs) where
    whole_is : listed_of s from h ≡ some_seen (length s) (report_of h) (segments_held gs)
    unfolding and_then
    whole_is = listed_is ∙ rw q

    pub listed_none : gs.count ≡ 0 → (w : Refusal) → w ≡ refusal_for NoSegment (length s) → Answers s (listed_of s from h) ks d (Err w)
    listed_none z w e = refused_answers s (listed_of s from h) ks d w (rw e (sym (whole_is ∙ rw z)))

    pub listed_some : (gs.count ≡ 0 → ⊥) → IfOk l (λ gs. gs ≡ segments_for (segments_held gs)) → IfOk l (λ gs. Sized gs) → IfOk l (λ gs. d ≡ kept_from s h.issue 0 (segments_held gs) ks)
        → Answers s (listed_of s from h) ks d (Ok (record { head = h; segments = gs }))
    listed_some n f z k =
        let sized : Sized gs = rw q at z in
        let whole : gs ≡ segments_for (segments_held gs) = rw q at f in
        let kept : d ≡ kept_from s h.issue 0 (segments_held gs) ks = rw q at k in
        record {
          says = sym (whole_is ∙ some_taken (length s) h gs.count gs.held sized.long n);
          segments = λ b e. let same : record { head = h; segments = gs } ≡ b = cc in rw (← same) whole;
          sized = sized;
          kept = λ b e. let same : record { head = h; segments = gs } ≡ b = cc in rw (← same) kept;
        }

-- ---- the storm and the first place
module _ (s : List ℕ) (t : Top) (mnd : ℕ) (em : lines_on s mnd ≡ after_first blank (lines_on s t.third)) (x : Result Storm Refusal)
    (ex : answer_by paper_storm x ≡ office_storm (from_first is_office (up_to_first closes (lines_on s mnd)))) where
  -- what follows the storm, and what follows the place
  abbrev after_place : Option StormName → Answer (List Line) → Answer Report
  after_place storm y = and_then y (λ ls. and_then (seen_of (segments_from most s t.issue ls)) (some_seen (length s) (below_top t storm)))

  abbrev after_storm : List Line → Option StormName → Answer Report
  after_storm ls storm = after_place storm (from_line3 (after_first closes ls) (length s) (lines_on s t.third))

  below_is : below_of s t ≡ and_then (answer_by paper_storm x) (after_storm (lines_on s mnd))
  unfolding below_of
  below_is = rw (ex, em)

  pub below_storm : (w : Refusal) → x ≡ Err w → (ks d : List ℕ) → Answers s (below_of s t) ks d (Err w)
  unfolding and_then
  below_storm w q ks d = refused_answers s (below_of s t) ks d w (sym (below_is ∙ rw q))

  module _ (storm : Storm) (q : x ≡ Ok storm) (y : Result ℕ Refusal)
      (ey : answer_by (lines_on s) y ≡ from_line3 (after_first closes (lines_on s mnd)) (length s) (lines_on s t.third)) where
    placed : below_of s t ≡ after_place (paper_storm storm) (answer_by (lines_on s) y)
    unfolding and_then
    placed = below_is ∙ ap (λ (k : Result Storm Refusal). and_then (answer_by paper_storm k) (after_storm (lines_on s mnd))) q ∙ rw (← ey)

    pub below_place : (w : Refusal) → y ≡ Err w → (ks d : List ℕ) → Answers s (below_of s t) ks d (Err w)
    unfolding and_then
    below_place w z ks d = refused_answers s (below_of s t) ks d w (sym (placed ∙ ap (λ (k : Result ℕ Refusal). after_place (paper_storm storm) (answer_by (lines_on s) k)) z))

    pub below_listed : (a : ℕ) → y ≡ Ok a → (r : Result Bulletin Refusal) (ks d : List ℕ) → Answers s (listed_of s a (head_of t storm)) ks d r → Answers s (below_of s t) ks d r
    unfolding and_then listed_of
    below_listed a z r ks d e = answers_as s (listed_of s a (head_of t storm)) (below_of s t) ks d r (sym (placed ∙ ap (λ (k : Result ℕ Refusal). after_place (paper_storm storm) (answer_by (lines_on s) k)) z)) e

-- ---- the order, cut in three: the text, the top, and what is below
then_then : {A B C : Type 0} (a : Answer A) (f : A → Answer B) (g : B → Answer C) → and_then (and_then a f) g ≡ and_then a (λ x. and_then (f x) g)
unfolding and_then
then_then (ok x) f g = refl
then_then (no number place) f g = refl

abbrev rest : List ℕ → Above → Answer rule.Bulletin
rest s a =
    and_then (office_storm (from_first is_office (up_to_first closes (after_first blank a.below)))) λ storm.
    and_then (and_then (from_line3 (after_first closes (after_first blank a.below)) (length s) a.below) (λ ls. and_then (segments_from most s a.issue ls) (one_or_more (length s)))) λ gs.
    ok (record { heading = a.heading; identifier = a.identifier; issue = a.issue; storm = storm; segments = gs })

then_ok : {A B : Type 0} (x : A) (f : A → Answer B) → and_then (ok x) f ≡ f x
unfolding and_then
then_ok x f = refl

order : (s : List ℕ) (year month : ℕ) → read_bulletin s year month ≡ and_then (text_checked s year month) (λ _. and_then (top_of s year month) (rest s))
unfolding read_bulletin text_checked top_of second_of storm_in segments_of first_lines
order s year month = simp (then_then, then_ok)

-- ---- what is below, as the reader's answer has it
module _ (stop : ℕ) (t : Top) where
  abbrev told : Option StormName → List segments.Segment → Answer rule.Bulletin
  told storm gs = ok (record { heading = paper_heading t.heading; identifier = t.identifier; issue = t.issue; storm = storm; segments = gs })

  listed_seen : (storm : Option StormName) (z : Answer (List segments.Segment)) → reported (and_then (and_then z (one_or_more stop)) (told storm)) ≡ and_then (seen_of z) (some_seen stop (below_top t storm))
  unfolding and_then
  listed_seen storm (ok []) = refl
  listed_seen storm (ok (x ∷ xs)) = refl
  listed_seen storm (no number place) = refl

  placed_seen : (f : List Line → Answer (List segments.Segment)) (storm : Option StormName) (y : Answer (List Line))
      → reported (and_then (and_then y (λ ls. and_then (f ls) (one_or_more stop))) (told storm)) ≡ and_then y (λ ls. and_then (seen_of (f ls)) (some_seen stop (below_top t storm)))
  unfolding and_then
  placed_seen f storm (ok ls) = listed_seen storm (f ls)
  placed_seen f storm (no number place) = refl

  storm_seen : (f : List Line → Answer (List segments.Segment)) (y : Answer (List Line)) (x : Answer (Option StormName))
      → reported (and_then x (λ storm. and_then (and_then y (λ ls. and_then (f ls) (one_or_more stop))) (told storm)))
      ≡ and_then x (λ storm. and_then y (λ ls. and_then (seen_of (f ls)) (some_seen stop (below_top t storm))))
  unfolding and_then
  storm_seen f y (ok storm) = placed_seen f storm y
  storm_seen f y (no number place) = refl

below_seen : (s : List ℕ) (t : Top) → reported (rest s (above_of s t)) ≡ below_of s t
unfolding below_of
below_seen s t = storm_seen (length s) t (segments_from most s t.issue) _ _

-- ---- the ways out
module _ (s : List ℕ) (year month : ℕ) (ks d : List ℕ) (v : Result Unit Refusal) (ev : answer_of v ≡ text_checked s year month) where
  pub read_checked : (w : Refusal) → v ≡ Err w → Answers s (reported (read_bulletin s year month)) ks d (Err w)
  unfolding and_then
  read_checked w q =
      let e : read_bulletin s year month ≡ refused w.reason w.place = order s year month ∙ rw (← ev, q) in
      refused_answers s (reported (read_bulletin s year month)) ks d w (sym (ap reported e))

  module _ (u : Unit) (q : v ≡ Ok u) (x : Result Top Refusal) (ex : answer_by (above_of s) x ≡ top_of s year month) where
    topped_is : read_bulletin s year month ≡ and_then (answer_by (above_of s) x) (rest s)
    unfolding and_then
    topped_is = order s year month ∙ rw (← ev, q, ex)

    pub read_topped : (w : Refusal) → x ≡ Err w → Answers s (reported (read_bulletin s year month)) ks d (Err w)
    unfolding and_then
    read_topped w z =
        let e : read_bulletin s year month ≡ refused w.reason w.place = topped_is ∙ ap (λ (k : Result Top Refusal). and_then (answer_by (above_of s) k) (rest s)) z in
        refused_answers s (reported (read_bulletin s year month)) ks d w (sym (ap reported e))

    pub read_whole : (t : Top) → x ≡ Ok t → (r : Result Bulletin Refusal) → Answers s (below_of s t) ks d r → Answers s (reported (read_bulletin s year month)) ks d r
    unfolding and_then
    read_whole t z r e =
        answers_as s (below_of s t) (reported (read_bulletin s year month)) ks d r
        (sym (below_seen s t) ∙ sym (ap reported (topped_is ∙ ap (λ (k : Result Top Refusal). and_then (answer_by (above_of s) k) (rest s)) z))) e

-- ---- the promise
pub answers_reads : (s : List ℕ) (year month : ℕ) (ks d : List ℕ) (r : Result Bulletin Refusal) → Answers s (reported (read_bulletin s year month)) ks d r → Reads s year month r
answers_reads s year month ks d r v =
    record {
      says = v.says;
      segments = λ b e. v.segments b e ∙ ap (λ (x : Answer Report). segments_for (segments_reported x)) (sym (ap (answer_by report_said) e) ∙ v.says);
    }

pub answers_sized : (s : List ℕ) (x : Answer Report) (ks d : List ℕ) (r : Result Bulletin Refusal) → Answers s x ks d r → IfOk r (λ b. Sized b.segments)
answers_sized s x ks d r v = v.sized
