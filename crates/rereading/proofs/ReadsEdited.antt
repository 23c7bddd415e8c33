-- Reading the edited text gives the bulletin again, with the new contents. Assumes nothing.
use Prim.Native.Nat.{ℕ, ◌+◌, ◌≤◌}
use native.Mathlib.Omega.{arith}
use mathlib.Core.Path.{◌≡◌, refl, sym, ap, ap₂, ◌∙◌, subst}
use mathlib.Core.Bool.{true}
use mathlib.Core.List.{List, [], ◌∷◌, ◌++◌, map}
use Rattle.std.specs.Prelude.{Option}
use lib.ListN.{length, length-append, length-map}
use borrow.Author.Tests.{le-leb}
use Rattle.laws.proofs.Tests.{apart}
use Rattle.laws.proofs.Lists.{all_head, all_tail, all_each}
use Rattle.laws.specs.Lists.{All, all_nil, all_cons}
use Rattle.refusal.specs.declared.Reason.TheVariants.{WrongTime}
use Rattle.refusal.specs.Answer.{ok, must, and_then}
use Rattle.lines.specs.Bytes.{lf}
use Rattle.lines.specs.Lines.{pieces, lines_at, lines_of}
use Rattle.lines.specs.Check.{check_text}
use Rattle.calendar.specs.Calendar.{is_issue_month, minute_of}
use Rattle.lines.specs.declared.End.{End}
use Rattle.codes.specs.Block.{Content}
use Rattle.codes.specs.Written.{in_order}
use Rattle.blocks.specs.Content.{is_content}
use Rattle.heading.specs.Heading.{Heading}
use Rattle.heading.specs.Storm.{StormName}
use Rattle.writing.specs.Write.{written_block}
use Rattle.segments.specs.Search.{lines_after}
use Rattle.bulletin.specs.Mnd.{storm_in}
use Rattle.segments.specs.Segments.{Segment}
use Rattle.bulletin.specs.Starts.{segments_of}
use Rattle.bulletin.specs.Bulletin.{Bulletin, text_most, is_length, line1, line2, issued, read_bulletin}
use Rattle.bulletin.proofs.Saying.{by_then, ok_one}
use Rattle.making.proofs.Sounding.{made_fine}
use Rattle.forms.specs.Edited.{edited, ends_in, written_forms}
use Rattle.rereading.specs.Demand.{block_text, InWrittenForm, ReadsTo, EditedReads}
use Rattle.rereading.proofs.WholeLines.{joined_pieces, pieces_joined, whole_long}
use Rattle.rereading.proofs.Fair.{Fair, wholes, check_fair, fair_check}
use Rattle.rereading.proofs.Spanned.{read_ends}
use Rattle.rereading.proofs.Alike.{Alike, storm_same}
use Rattle.rereading.proofs.Ordered.{Ordered}
use Rattle.rereading.proofs.Replaced.{NewBlocks}
use Rattle.rereading.proofs.WrittenBlock.{AllWritten, all_written}
use Rattle.rereading.proofs.Below.{Below, below_edited}

-- ---- with any blocks that may stand in place of others
-- the new text reads to what r says, but for its segments, which have these contents and blocks, with first lines that ended so
record NewReading (text : List ℕ) (year month : ℕ) (r : Bulletin) (ends : List End) (cs : List Content) (blocks : List (List ℕ)) : Type 0 where
  segments : List Segment
  reads : read_bulletin text year month
      ≡ ok (record { heading = r.heading; identifier = r.identifier; issue = r.issue; storm = r.storm; segments = segments })
  ended : ends_in segments ≡ ends
  contents : map (λ (g : Segment). g.content) segments ≡ cs
  stand : map (block_text text) segments ≡ blocks

record ReplacedText (text : List ℕ) (year month : ℕ) (r : Bulletin) (ends : List End) (cs : List Content) (blocks : List (List ℕ)) : Type 0 where
  ordered : Ordered 0 r.segments
  back : length (edited text r.segments blocks) ≤ text_most → NewReading (edited text r.segments blocks) year month r ends cs blocks

module _ (year month : ℕ) (h : Heading) (n issue : ℕ) (s : Option StormName) (known : must (is_issue_month year month) WrongTime 0 ≡ ok tt)
    (dated : issued (minute_of (record { year = year; month = month; stamp = h.stamp })) ≡ ok issue) where
  abbrev bulletin : List Segment → Bulletin
  bulletin gs = record { heading = h; identifier = n; issue = issue; storm = s; segments = gs }

  -- the order of reading
  order : (text : List ℕ) (gs : List Segment) → is_length text ≡ true → check_text text ≡ ok tt → line1 (lines_of text) ≡ ok h
      → line2 (length text) (lines_after (lines_of text)) ≡ ok n → storm_in (lines_of text) ≡ ok s → segments_of text issue (lines_of text) ≡ ok gs
      → read_bulletin text year month ≡ ok (bulletin gs)
  unfolding read_bulletin and_then
  order text gs l c a b st sg = rw (l, known, c, a, b, dated, st, sg)

  -- the storm turns on the lines below line 2
  storm_below : (one two : List ℕ) {ps qs : List (List ℕ)} → Alike ps qs → storm_in (lines_at 0 (one ∷ two ∷ ps)) ≡ ok s
      → storm_in (lines_at 0 (one ∷ two ∷ qs)) ≡ ok s
  unfolding storm_in lines_at
  storm_below one two a e = storm_same s (0 + length one + length two) (0 + length one + length two) a e

  module _ (text : List ℕ) (gs : List Segment) (ends : List End) (cs : List Content) (blocks : List (List ℕ)) (l : length cs ≡ length gs) (ws : NewBlocks issue ends cs blocks) where
    again : (one two : List ℕ) (ps : List (List ℕ)) → All Fair (one ∷ two ∷ ps) → line1 (lines_at 0 (one ∷ two ∷ ps)) ≡ ok h
        → line2 (length text) (lines_after (lines_at 0 (one ∷ two ∷ ps))) ≡ ok n → storm_in (lines_at 0 (one ∷ two ∷ ps)) ≡ ok s
        → Below issue one two text ps gs ends cs blocks → length (edited text gs blocks) ≤ text_most
        → NewReading (edited text gs blocks) year month (bulletin gs) ends cs blocks
    unfolding is_length lines_at in_order
    again one two ps f a b st w most =
        let qs : List (List ℕ) = one ∷ two ∷ w.lines in
        let text' : List ℕ = in_order qs in
        let fair : All Fair qs = all_cons (all_head f) (all_cons (all_head (all_tail f)) w.fair) in
        let long : 1 ≤ length text' = omega (arith, whole_long (all_head f).whole, length-append one (two ++ in_order w.lines)) in
        let fits : length text' ≤ text_most = omega (arith, ap (λ (x : List ℕ). length x) w.are) in
        let is : pieces lf text' ≡ qs = pieces_joined (wholes fair) in
        subst (λ (x : List ℕ). NewReading x year month (bulletin gs) ends cs blocks) (sym w.are)
        (record {
          segments = w.segments;
          reads =
              order text' w.segments (rw (le-leb 1 (length text') long, le-leb (length text') text_most fits)) (fair_check fair)
              (ap (λ (x : List (List ℕ)). line1 (lines_at 0 x)) is ∙ a) (ap (λ (x : List (List ℕ)). line2 (length text') (lines_after (lines_at 0 x))) is ∙ b)
              (ap (λ (x : List (List ℕ)). storm_in (lines_at 0 x)) is ∙ storm_below one two w.alike st)
              (ap (λ (x : List (List ℕ)). segments_of text' issue (lines_at 0 x)) is ∙ w.listed);
          ended = w.ended;
          contents = w.contents;
          stand = w.stand;
        })

    by_lines : (ps : List (List ℕ)) → text ≡ in_order ps → All Fair ps → line1 (lines_at 0 ps) ≡ ok h → line2 (length text) (lines_after (lines_at 0 ps)) ≡ ok n
        → storm_in (lines_at 0 ps) ≡ ok s → segments_of text issue (lines_at 0 ps) ≡ ok gs → ReplacedText text year month (bulletin gs) ends cs blocks
    unfolding lines_at
    by_lines [] t f a b st sg = apart cc
    by_lines (one ∷ []) t f a b st sg = apart cc
    by_lines (one ∷ (two ∷ ps)) t f a b st sg =
        let w = below_edited issue one two text ps gs ends cs blocks (all_tail (all_tail f)) t sg l ws in
        record { ordered = w.ordered; back = again one two ps f a b st w }

replaced : (text : List ℕ) (year month : ℕ) (r : Bulletin) (ends : List End) (cs : List Content) (blocks : List (List ℕ)) → read_bulletin text year month ≡ ok r
    → length cs ≡ length r.segments → NewBlocks r.issue ends cs blocks → ReplacedText text year month r ends cs blocks
unfolding read_bulletin
replaced text year month r ends cs blocks e =
    by_then _ _ r (λ _ _.
    by_then _ _ r λ _ known.
    by_then _ _ r λ _ checked.
    by_then _ _ r λ h first.
    by_then _ _ r λ n second.
    by_then _ _ r λ issue dated.
    by_then _ _ r λ s stormy.
    by_then _ _ r λ gs listed last.
    subst (λ (x : Bulletin). length cs ≡ length x.segments → NewBlocks x.issue ends cs blocks → ReplacedText text year month x ends cs blocks)
    (ok_one _ r last)
    (λ l ws.
    by_lines year month h n issue s known dated text gs ends cs blocks l ws (pieces lf text) (sym (joined_pieces lf text)) (check_fair text checked)
    first second stormy listed))
    e

-- ---- with the written forms of contents
-- the written forms are those of the segments, one by one
forms_one : (text : List ℕ) (g : Segment) (gs : List Segment) (b : List ℕ) (bs : List (List ℕ))
    → written_block g.ended g.content.places g.content.purge ≡ ok b → b ∷ bs ≡ block_text text g ∷ map (block_text text) gs → InWrittenForm text g
forms_one text g gs b bs e q = let same : b ≡ block_text text g = cc in e ∙ ap ok same

forms_each : (text : List ℕ) (gs : List Segment) → written_forms (ends_in gs) (map (λ (g : Segment). g.content) gs) ≡ ok (map (block_text text) gs)
    → All (InWrittenForm text) gs
unfolding written_forms
forms_each text [] e = all_nil
forms_each text (g ∷ gs) e =
    by_then _ _ (block_text text g ∷ map (block_text text) gs)
    (λ b eb.
    by_then _ _ (block_text text g ∷ map (block_text text) gs) λ bs es last.
    let q : b ∷ bs ≡ block_text text g ∷ map (block_text text) gs = ok_one _ _ last in
    let rest : bs ≡ map (block_text text) gs = cc in
    all_cons (forms_one text g gs b bs eb q) (forms_each text gs (es ∙ ap ok rest)))
    e

pub each_forms : (text : List ℕ) {gs : List Segment} → All (InWrittenForm text) gs
    → written_forms (ends_in gs) (map (λ (g : Segment). g.content) gs) ≡ ok (map (block_text text) gs)
unfolding written_forms and_then
each_forms text all_nil = refl
each_forms text (all_cons e es) = rw (e, each_forms text es)

reads_to : (text : List ℕ) (year month : ℕ) (r : Bulletin) (cs : List Content) (blocks : List (List ℕ)) → length cs ≡ length r.segments
    → written_forms (ends_in r.segments) cs ≡ ok blocks → NewReading text year month r (ends_in r.segments) cs blocks → ReadsTo text year month r cs
reads_to text year month r cs blocks l given b =
    let count : length b.segments ≡ length cs =
    sym (length-map b.segments (λ (g : Segment). g.content)) ∙ ap (λ (x : List Content). length x) b.contents in
    record {
      bulletin = _;
      reads = b.reads;
      heading = refl;
      identifier = refl;
      issue = refl;
      storm = refl;
      count = count ∙ l;
      contents = b.contents;
      ends = b.ended;
      forms = forms_each text b.segments (ap₂ written_forms b.ended b.contents ∙ given ∙ ap ok (sym b.stand));
    }

module _ (text : List ℕ) (year month : ℕ) (r : Bulletin) (e : read_bulletin text year month ≡ ok r) where
  -- Contents that are right under the issue, one for each segment, have written forms whose lines end as the segments' first lines did.
  pub read_written : (cs : List Content) → All (λ (c : Content). is_content r.issue c ≡ true) cs → length cs ≡ length r.segments
      → AllWritten r.issue (ends_in r.segments) cs
  read_written cs fine l =
      all_written r.issue (read_ends text year month r e) fine (l ∙ sym (length-map r.segments (λ (g : Segment). g.ended)))

  -- The text with these in it reads to the same bulletin with those contents.
  pub edited_reads : (cs : List Content) → All (λ (c : Content). is_content r.issue c ≡ true) cs → length cs ≡ length r.segments
      → EditedReads text year month r cs
  edited_reads cs fine l =
      let w = read_written cs fine l in
      record {
        blocks = w.blocks;
        given = w.given;
        reads = λ most. reads_to _ year month r cs w.blocks l w.given ((replaced text year month r _ cs w.blocks e l w.new).back most);
      }

  -- The segments of a bulletin that is read stand one behind the other.
  pub read_ordered : Ordered 0 r.segments
  read_ordered =
      let cs : List Content = map (λ (g : Segment). g.content) r.segments in
      let long : length cs ≡ length r.segments = length-map r.segments (λ (g : Segment). g.content) in
      let w = read_written cs (all_each (λ (g : Segment). g.content) (λ g f. f) (made_fine text year month r e)) long in
      (replaced text year month r _ cs w.blocks e long w.new).ordered
