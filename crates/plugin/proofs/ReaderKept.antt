-- No answer of the reader, of make and of the writers is lost in its packing. Assumes nothing.
use Prim.Native.Nat.{ℕ, zero, suc, ◌≤◌, ◌<◌}
use native.Mathlib.Omega.{arith}
use mathlib.Core.Path.{◌≡◌, refl}
use mathlib.Core.Bool.{true}
use mathlib.Core.List.{List, [], ◌∷◌, map}
use Rattle.std.specs.Prelude.{Option, None, Some}
use lib.ListN.{length, take, drop, length-map}
use Rattle.std.specs.Prelude.{slice_get}
use lib.Dec.{leb, eqb}
use borrow.Author.Tests.{leb-true}
use Rattle.laws.proofs.Tests.{apart, by, either_way, and_right}
use Rattle.laws.proofs.Lists.{all_each}
use Rattle.laws.specs.Lists.{All, all_nil, all_cons}
use Rattle.refusal.specs.declared.Reason.TheVariants.{WrongLength, WrongTime, NotSound, NoSuchSegment, OutOfRange, OutputShort, NotBelonging}
use Rattle.refusal.specs.Answer.{Answer, ok, no, must, and_then}
use Rattle.lines.specs.Lines.{lines_of}
use Rattle.calendar.specs.Calendar.{is_issue_month, minute_of, date_of}
use Rattle.calendar.specs.declared.Date.{Date}
use Rattle.codes.specs.Places.{capacity, is_set}
use Rattle.codes.specs.Block as codes
use Rattle.heading.specs.Heading.{Heading}
use Rattle.heading.specs.Storm.{StormName}
use Rattle.lines.specs.declared.End.TheVariants.{CrCrLf}
use Rattle.writing.specs.Pen.{written_block_most}
use Rattle.writing.proofs.Bound.{written_most_lem}
use Rattle.writing.specs.Write.{dated_block, written_block, fitting, write_rule, length_of}
use Rattle.blocks.specs.Block.{book_length, Bytes}
use Rattle.blocks.specs.Content.{is_content}
use Rattle.blocks.proofs.Contents.{purge_32}
use Rattle.steps.specs.Book.{Book, at}
use Rattle.steps.specs.Calls.{number}
use Rattle.layout.specs.Sound.{Fine}
use Rattle.layout.specs.Tests.{is_sound}
use Rattle.layout.specs.Layout.{book_of}
use Rattle.layout.proofs.Forth.{issue_low}
use Rattle.codes.proofs.Sets.{set_true}
use Rattle.keeping.proofs.Parts.{all_stands}
use Rattle.keeping.proofs.Editing.{fine_places, fine_purge}
use Rattle.segments.specs.Segments as segments
use Rattle.bulletin.specs.Bulletin.{text_most, is_length, issued, Bulletin, read_bulletin}
use Rattle.segments.specs.Seen.{seen}
use Rattle.bulletin.specs.Report.{Report, reported}
use Rattle.bulletin.specs.View.{numbered, view_of, part_viewed}
use Rattle.segments.specs.declared.Segment.{Segment}
use Rattle.making.specs.Make.{book_from, make_rule, made_answer, or_no_segment, segment_block, write_on}
use Rattle.making.proofs.Writing.{segment_most}
use Rattle.bulletin.proofs.Saying.{by_then}
use Rattle.making.proofs.Sounding.{must_true, made_issue, made_count, made_fine}
use Rattle.sending.specs.Send.{edited_rule}
use Rattle.rereading.specs.Demand.{EditedAnswer, other_length, unsound, unreadable, stranger, no_room, written_out}
use Rattle.rereading.proofs.Demand.{edited_answers, edited_most}
use Rattle.packing.specs.Packing.{pack, unpack, answered, packed, value_bits, nothing, no_value, plain, viewed, view_bits, view_back, bbb_bits, bbb_back, storm_bits, storm_back}
use Rattle.plugin.specs.Rules.{issue_in, count_in, bbb_in, identifier_in, storm_bits_in, view_bits_of, block_end_of, purge_minute_of, count_of, contents_of, place_answer, place_in}
use Rattle.packing.proofs.Kept.{Kept, kept_ok, kept_no, back, refused_kept, Returns, part_back, small, view_low, view_back_lem, Marked, bbb_low, storm_low, storm_back_lem, Small}
use Rattle.packing.proofs.Kept as kept
use Rattle.plugin.proofs.BookKept.{place_kept}
use Rattle.plugin.proofs.Within.{text_within, later_within, Low, low_ok, low_no, low_refused, low_then, low_must, Any, check_low, Lies, list_low}
use Rattle.plugin.proofs.Headings as headings
use Rattle.plugin.proofs.Headings.{line1_low, line2_low}

-- ---- what a bulletin that is read holds, and where a refusal lies
pub record Bounded (b : Bulletin) : Type 0 where
  pub marked : Marked b.heading.bbb
  pub identifier : b.identifier ≤ text_most
  pub storm : Small b.storm
  pub segments : All (Lies text_most) b.segments

bounded : (h : Heading) (at issue : ℕ) (s : Option StormName) (gs : List segments.Segment) → Marked h.bbb → at ≤ text_most → Small s → All (Lies text_most) gs
    → Bounded (record { heading = h; identifier = at; issue = issue; storm = s; segments = gs })
bounded h at issue s gs m i small a = record { marked = m; identifier = i; storm = small; segments = a }

issued_low : (o : Option ℕ) → Low text_most Any (issued o)
issued_low None = low_refused text_most Any WrongTime 0 (omega arith)
issued_low (Some m) = low_ok m tt

length_most : (text : List ℕ) → is_length text ≡ true → length text ≤ text_most
unfolding is_length
length_most text e = leb-true (length text) text_most (and_right (leb 1 (length text)) (leb (length text) text_most) e)

pub read_low : (text : List ℕ) (year month : ℕ) → Low text_most Bounded (read_bulletin text year month)
unfolding read_bulletin
read_low text year month =
    low_then _ (λ _ t.
    let fits = length_most text t in
    let lines = text_within text text_most fits in
    low_then _ (λ _ _.
    low_then _ (λ _ _.
    low_then _ (λ h m.
    low_then _ (λ at i.
    low_then _ (λ issue _.
    low_then _ (λ s small.
    low_then _ (λ gs a. low_ok _ (bounded h at issue s gs m i small a))
    (list_low text text_most fits issue))
    (headings.storm_low text_most lines))
    (issued_low (minute_of (record { year = year; month = month; stamp = h.stamp }))))
    (line2_low text_most (length text) fits (later_within lines)))
    (line1_low text_most (lines_of text)))
    (check_low text text_most fits))
    (low_must text_most (is_issue_month year month) WrongTime))
    (low_must text_most (is_length text) WrongLength)

-- ---- a part of an answer
low_kept : {A B : Type 0} (part : A → B) (bits : B → ℕ) (value : ℕ → B) (P : A → Type 0) → ((x : A) → P x → Returns bits value (part x))
    → {a : Answer A} → Low text_most P a → Kept bits value (answered part a)
low_kept part bits value P f (low_ok x p) = kept_ok (part x) (f x p).low (f x p).same
low_kept part bits value P f (low_no reason place one most h) = kept_no {reason = reason} {place = place} one most (omega arith)

-- ---- of a bulletin
abbrev report_on : Bulletin → Report
report_on b = record { heading = b.heading; identifier = b.identifier; issue = b.issue; storm = b.storm; segments = map seen b.segments }

-- what a report says, and the sizes of it
record Sized (r : Report) : Type 0 where
  issue : r.issue < 4294967296
  count : length r.segments ≤ 8
  marked : Marked r.heading.bbb
  identifier : r.identifier ≤ text_most
  storm : Small r.storm

-- a segment as it is seen
record Fits (g : Segment) : Type 0 where
  start : g.start ≤ text_most
  block : g.block ≤ text_most
  past : g.past ≤ text_most
  purge : g.purge < 4294967296
  count : g.count ≤ capacity

seen_fits : (issue : ℕ) {gs : List segments.Segment} → All (Lies text_most) gs → All (λ (g : segments.Segment). is_content issue g.content ≡ true) gs → All Fits (map seen gs)
seen_fits issue all_nil all_nil = all_nil
seen_fits issue (all_cons {x = g} l a) (all_cons f b) =
    all_cons
    (record {
      start = l.start;
      block = l.block;
      past = l.past;
      purge = purge_32 issue g.content.purge (fine_purge issue g.content f);
      count = (set_true g.content.places (fine_places issue g.content f)).few;
    })
    (seen_fits issue a b)

record Told (r : Report) : Type 0 where
  sized : Sized r
  fits : All Fits r.segments

module _ (text : List ℕ) (year month : ℕ) where
  report_told : (b : Bulletin) → read_bulletin text year month ≡ ok b → Bounded b → Told (report_on b)
  report_told b e p =
      record {
        sized = record {
          issue = issue_low b.issue (made_issue text year month b e);
          count = omega (arith, length-map b.segments seen, (made_count text year month b e).eight);
          marked = p.marked;
          identifier = p.identifier;
          storm = p.storm;
        };
        fits = seen_fits b.issue p.segments (made_fine text year month b e);
      }

  report_low : Low text_most Told (reported (read_bulletin text year month))
  report_low = go (read_bulletin text year month) refl (read_low text year month)
    where
      go : (a : Answer Bulletin) → read_bulletin text year month ≡ a → Low text_most Bounded a → Low text_most Told (reported a)
      go (ok b) e (low_ok _ p) = low_ok (report_on b) (report_told b e p)
      go (no _ _) e (low_no reason place one most h) = low_no reason place one most h

  abbrev Read : Answer Report
  Read = reported (read_bulletin text year month)

  part_kept : {B : Type 0} (part : Report → B) (bits : B → ℕ) (value : ℕ → B) → ((r : Report) → Sized r → Returns bits value (part r))
      → unpack value (pack (λ (r : Report). bits (part r)) Read) ≡ answered part Read
  part_kept part bits value f = part_back part bits value Read (low_kept part bits value Told (λ r t. f r t.sized) report_low)

  pub issue_back : unpack plain (pack issue_in Read) ≡ answered issue_in Read
  issue_back = part_kept issue_in plain plain (λ r z. small r.issue z.issue)

  pub count_back : unpack plain (pack count_in Read) ≡ answered count_in Read
  count_back = part_kept count_in plain plain (λ r z. small (length r.segments) (omega (arith, z.count)))

  pub identifier_back : unpack plain (pack identifier_in Read) ≡ answered identifier_in Read
  identifier_back = part_kept identifier_in plain plain (λ r z. small r.identifier (omega (arith, z.identifier)))

  pub bbb_back_lem : unpack bbb_back (pack bbb_in Read) ≡ answered (λ (r : Report). r.heading.bbb) Read
  bbb_back_lem =
      part_kept (λ (r : Report). r.heading.bbb) bbb_bits bbb_back
      (λ r z. record { low = omega (arith, bbb_low r.heading.bbb z.marked); same = kept.bbb_back_lem r.heading.bbb z.marked })

  pub storm_kept : unpack storm_back (pack storm_bits_in Read) ≡ answered (λ (r : Report). r.storm) Read
  storm_kept = part_kept (λ (r : Report). r.storm) storm_bits storm_back (λ r z. record { low = storm_low r.storm z.storm; same = storm_back_lem r.storm z.storm })

-- ---- of a segment
numbered_low : (n : ℕ) (gs : List Segment) → All Fits gs → Low text_most Fits (numbered n gs)
unfolding numbered
numbered_low n [] a = low_refused text_most Fits NoSuchSegment 0 (omega arith)
numbered_low zero (g ∷ gs) a = low_refused text_most Fits NoSuchSegment 0 (omega arith)
numbered_low (suc zero) (g ∷ gs) (all_cons f a) = low_ok g f
numbered_low (suc (suc n)) (g ∷ gs) (all_cons f a) = numbered_low (suc n) gs a

module _ (text : List ℕ) (year month n : ℕ) where
  view_fits : Low text_most Fits (view_of text year month n)
  unfolding view_of
  view_fits = low_then _ (λ r t. numbered_low n r.segments t.fits) (report_low text year month)

  abbrev Viewed : Answer Segment
  Viewed = view_of text year month n

  seen_kept : {B : Type 0} (part : Segment → B) (bits : B → ℕ) (value : ℕ → B) → ((g : Segment) → Fits g → Returns bits value (part g))
      → unpack value (pack (λ (g : Segment). bits (part g)) Viewed) ≡ answered part Viewed
  seen_kept part bits value f = part_back part bits value Viewed (low_kept part bits value Fits f view_fits)

  pub view_kept : unpack view_back (pack view_bits_of Viewed) ≡ answered viewed Viewed
  view_kept =
      seen_kept viewed view_bits view_back
      (λ g f. record { low = view_low (viewed g); same = view_back_lem (viewed g) (omega (arith, f.start)) (omega (arith, f.past)) })

  pub block_end_back : unpack plain (pack block_end_of Viewed) ≡ answered block_end_of Viewed
  block_end_back = seen_kept block_end_of plain plain (λ g f. small g.block (omega (arith, f.block)))

  pub purge_back : unpack plain (pack purge_minute_of Viewed) ≡ answered purge_minute_of Viewed
  purge_back = seen_kept purge_minute_of plain plain (λ g f. small g.purge f.purge)

  pub places_back : unpack plain (pack count_of Viewed) ≡ answered count_of Viewed
  places_back = seen_kept count_of plain plain (λ g f. small g.count (omega (arith, f.count)))

-- the bytes at a view are the part of the text that the reader hands back
pub view_part : (g : Segment) (text : List ℕ) → take (viewed g).size (drop (viewed g).start text) ≡ part_viewed (ok g) text
view_part g text = refl

-- ---- the place at an index
module _ (text : List ℕ) (year month n i : ℕ) where
  contents_fine : (b : Bulletin) → read_bulletin text year month ≡ ok b → All (Fine b.issue) (contents_of b)
  contents_fine b e = all_each (λ (g : segments.Segment). g.content) (λ g f. f) (made_fine text year month b e)

  place_of : (issue : ℕ) (o : Option codes.Content) → ((c : codes.Content) → o ≡ Some c → Fine issue c) → Kept value_bits number (place_answer i (or_no_segment o))
  place_of issue None f = refused_kept value_bits number NoSuchSegment 0 (omega arith)
  place_of issue (Some c) f = place_kept c.places i (set_true c.places (fine_places issue c (f c refl))).up (slice_get c.places i) refl

  place_in_lem : (a : Answer Bulletin) → read_bulletin text year month ≡ a → Low text_most Bounded a
      → Kept value_bits number (and_then a (λ (b : Bulletin). place_answer i (or_no_segment (at (contents_of b) n))))
  unfolding and_then
  place_in_lem (ok b) e l = place_of b.issue (at (contents_of b) n) (λ c q. (all_stands (contents_of b) n c (contents_fine b e) q).is)
  place_in_lem (no _ _) e (low_no reason place one most h) = kept_no {reason = reason} {place = place} one most (omega arith)

  pub place_back : unpack number (packed (place_in text year month n i)) ≡ place_in text year month n i
  unfolding place_in
  place_back = back value_bits number _ (place_in_lem (read_bulletin text year month) refl (read_low text year month))

-- ---- make
made_kept : (a : Answer Book) → Low text_most Any a → Kept nothing no_value (made_answer a)
made_kept (ok _) (low_ok b u) = kept_ok tt (omega arith) refl
made_kept (no _ _) (low_no reason place one most h) = kept_no {reason = reason} {place = place} one most (omega arith)

module _ (l text : List ℕ) (year month : ℕ) where
  make_low : Low text_most Any (make_rule l text year month)
  unfolding make_rule
  make_low =
      low_then _ (λ _ _. low_then _ (λ b _. low_ok (book_from b) tt) (read_low text year month))
      (low_must text_most (eqb (length l) book_length) WrongLength)

  pub make_back : unpack no_value (pack nothing (made_answer (make_rule l text year month))) ≡ made_answer (make_rule l text year month)
  make_back = back nothing no_value (made_answer (make_rule l text year month)) (made_kept (make_rule l text year month) make_low)

-- ---- the writer: a block is short
abbrev Short : List ℕ → Type 0
Short block = length block ≤ written_block_most

written_kept : (a : Answer (List ℕ)) → Low text_most Short a → Kept plain plain (length_of a)
written_kept (ok _) (low_ok block k) = kept_ok (length block) (omega arith) refl
written_kept (no _ _) (low_no reason place one most k) = kept_no {reason = reason} {place = place} one most (omega arith)

dated_low : (ps : List ℕ) → is_set ps ≡ true → (o : Option Date) → Low text_most Short (dated_block CrCrLf ps o)
dated_low ps t None = low_refused text_most Short OutOfRange 0 (omega arith)
dated_low ps t (Some d) = low_ok _ (written_most_lem CrCrLf ps d.stamp t)

block_low : (ps : List ℕ) (minute : ℕ) → Low text_most Short (written_block CrCrLf ps minute)
unfolding written_block
block_low ps minute =
    by (is_set ps)
    (λ t. rw t (dated_low ps t (date_of minute)))
    (λ t. rw t (low_refused text_most Short OutOfRange 0 (omega arith)))

fitting_low : (room : ℕ) (block : List ℕ) → Short block → Low text_most Short (fitting room block)
unfolding fitting
fitting_low room block k = either_way (Low text_most Short) (leb (length block) room) (low_ok block k) (low_refused text_most Short OutputShort 0 (omega arith))

module _ (room : ℕ) where
  rule_low : (ps : List ℕ) (minute : ℕ) → Low text_most Short (write_rule CrCrLf room ps minute)
  unfolding write_rule
  rule_low ps minute = low_then (fitting room) (λ block k. fitting_low room block k) (block_low ps minute)

  pub block_back : (ps : List ℕ) (minute : ℕ) → unpack plain (pack plain (length_of (write_rule CrCrLf room ps minute))) ≡ length_of (write_rule CrCrLf room ps minute)
  block_back ps minute = back plain plain (length_of (write_rule CrCrLf room ps minute)) (written_kept (write_rule CrCrLf room ps minute) (rule_low ps minute))

  segment_low : (b : Book) (s : ℕ) → Low text_most Short (or_no_segment (segment_block b s))
  segment_low b s = go (segment_block b s) refl
    where
      go : (o : Option (List ℕ)) → segment_block b s ≡ o → Low text_most Short (or_no_segment o)
      go None q = low_refused text_most Short NoSuchSegment 0 (omega arith)
      go (Some block) q = low_ok block (segment_most b s block q)

  write_low : (l : List ℕ) (s : ℕ) → Low text_most Short (write_on l s room)
  unfolding write_on
  write_low l s =
      low_then _ (λ _ _.
      low_then _ (λ _ _.
      low_then (fitting room) (λ block k. fitting_low room block k) (segment_low (book_of l) s))
      (low_must text_most (is_sound l) NotSound))
      (low_must text_most (eqb (length l) book_length) WrongLength)

  pub write_back : (l : List ℕ) (s : ℕ) → unpack plain (pack plain (length_of (write_on l s room))) ≡ length_of (write_on l s room)
  write_back l s = back plain plain (length_of (write_on l s room)) (written_kept (write_on l s room) (write_low l s))

-- ---- a text that reads has at most 16,384 bytes
text_short : (text : List ℕ) (year month : ℕ) (b : Bulletin) → read_bulletin text year month ≡ ok b → length text ≤ text_most
unfolding read_bulletin
text_short text year month b = by_then (must (is_length text) WrongLength 0) _ b λ _ t _. length_most text (must_true (is_length text) WrongLength 0 t)

-- ---- the edited bulletin, of bytes that are lent as a book
unread_kept : (why place : ℕ) (a : Answer Bulletin) → Low text_most Bounded a → a ≡ no why place → Kept plain plain (no why place)
unread_kept why place (ok b) l e = apart cc
unread_kept why place (no _ _) (low_no n p one most h) e =
    let same : ◌≡◌ {A = Answer Bulletin} (no n p) (no why place) = e in
    let ns : n ≡ why = cc in
    let ps : p ≡ place = cc in
    rw (← ns, ← ps) (kept_no {reason = n} {place = p} one most (omega arith))

edited_kept : (text l : List ℕ) (room : ℕ) → Bytes l → (a : Answer (List ℕ)) → EditedAnswer text l room a → edited_rule text l room ≡ a → Kept plain plain (length_of a)
edited_kept text l room y _ (other_length t) e = refused_kept plain plain WrongLength 0 (omega arith)
edited_kept text l room y _ (unsound t) e = refused_kept plain plain NotSound 0 (omega arith)
edited_kept text l room y _ (unreadable d why place t f) e =
    unread_kept why place (read_bulletin text d.year d.month) (read_low text d.year d.month) f
edited_kept text l room y _ (stranger d r t f g) e = refused_kept plain plain NotBelonging 0 (omega arith)
edited_kept text l room y _ (no_room out w h) e = refused_kept plain plain OutputShort 0 (omega arith)
edited_kept text l room y _ (written_out out w h) e =
    let most = edited_most text l room out y e in
    kept_ok (length out) (omega (arith, most, text_short text w.date.year w.date.month w.read w.reads)) refl

pub edited_back : (text l : List ℕ) (room : ℕ) → Bytes l → unpack plain (pack plain (length_of (edited_rule text l room))) ≡ length_of (edited_rule text l room)
edited_back text l room y = back plain plain (length_of (edited_rule text l room)) (edited_kept text l room y (edited_rule text l room) (edited_answers text l room y) refl)
