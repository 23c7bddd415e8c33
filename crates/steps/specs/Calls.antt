-- Document 01, "Steps", and the order of "Book calls": what each call on a book answers, and the book that it leaves.
use Rattle.std.specs.Prelude.{ℕ, suc, ◌-◌, Bool, true, false, not, cond, ◌&&◌, ◌||◌, List, [], ◌∷◌, ◌++◌, map, length, take, ltb, eqb}
use Rattle.std.specs.Prelude.{Option, None, Some}
use Rattle.std.specs.Prelude.{slice_get}
use Rattle.std.proofs.Math.ListN as list
use Rattle.refusal.specs.declared.Reason.{Reason}
use Rattle.refusal.specs.declared.Reason.TheVariants.{WrongTime, NoDraft, AllOpen, NoSuchSegment, NotTaken, TakenAlready, TwoTaken, SegmentFull, OnlyPlace, StaleDraft, NoStep, OutOfRange}
use Rattle.refusal.specs.Answer as refusal
use Rattle.refusal.specs.Answer.{ok, no, refused, must, and_then}
use Rattle.calendar.specs.Calendar.{is_time}
use Rattle.calendar.specs.Purge.{purge_of}
use Rattle.calendar.specs.declared.Stamp.{Stamp}
use Rattle.codes.specs.Places.{places_end, capacity}
use Rattle.codes.specs.Block.{Content, insert}
use Rattle.blocks.specs.Block.{same_list}
use Rattle.steps.specs.Book.{Copy, Draft, closed, working, History, Book, at, put, draft_at}

-- ---- calls and their values
pub data Edit : Type 0 where
  -- "Read: the copy's purge, count, or place at an index from 0"
  read_purge : Edit
  read_count : Edit
  read_place : ℕ → Edit
  -- "Add, remove"
  add : ℕ → Edit
  remove : ℕ → Edit
  -- "Set purge: takes DD, HH and MM"
  set_purge : Stamp → Edit

pub data Work : Type 0 where
  taking : Work
  editing : Edit → Work

pub data Call : Type 0 where
  opening : Call
  -- draft d works on segment s
  on : ℕ → ℕ → Work → Call
  commit : ℕ → Call
  drop : ℕ → Call
  undo : Call

pub data Value : Type 0 where
  -- the draft's number
  draft : ℕ → Value
  done : Value
  number : ℕ → Value
  -- "whether the place was there"
  was : Bool → Value
  -- the segments, ascending
  changed : List ℕ → Value

abbrev pub BookAnswer : Type 0
BookAnswer = refusal.Answer Value

-- ---- refusals: "Each returns its number and a place, changes no lent byte"; "Place is 0 unless stated"
-- what must be there
abbrev pub must_find : {A : Type 0} → Option A → Reason → refusal.Answer A
must_find None reason = refused reason 0
must_find (Some x) reason = ok x

-- A rule gives a value and what the call leaves in the place of x. What a refused call leaves is x itself.
abbrev pub settle : {A : Type 0} → A → refusal.Answer (Value × A) → BookAnswer × A
settle x (ok r) = (ok r.0, r.1)
settle x (no n place) = (no n place, x)

-- ---- edits of a copy
unfoldable pub member : ℕ → List ℕ → Bool
member p [] = false
member p (q ∷ qs) = eqb p q || member p qs

unfoldable pub without : ℕ → List ℕ → List ℕ
without p [] = []
without p (q ∷ qs) = cond (eqb p q) qs (q ∷ without p qs)

abbrev pub with_places : Content → List ℕ → Content
with_places c ps = record { purge = c.purge; places = ps }

-- What an edit answers of the copy c, and the copy that it leaves, under the book's issue: "then 5, 19, 20, .. 24 (index)", each for its own edit.
unfoldable pub edit_rule : ℕ → Edit → Content → refusal.Answer (Value × Content)
-- a read leaves the copy
edit_rule issue read_purge c = ok (number c.purge, c)
edit_rule issue read_count c = ok (number (length c.places), c)
edit_rule issue (read_place i) c =
    and_then (must_find (slice_get c.places i) OutOfRange) λ p.
    ok (number p, c)
-- "adding one that is there .. is accepted and changes nothing"; 19 for "adding an absent place to 120"
edit_rule issue (add p) c =
    cond (member p c.places) (ok (was true, c))
    (and_then (must (ltb (length c.places) capacity) SegmentFull 0) λ _.
    ok (was false, with_places c (insert p c.places)))
-- "or removing one that is not, is accepted and changes nothing"; 20 for "removing the only place"
edit_rule issue (remove p) c =
    cond (member p c.places)
    (and_then (must (not (eqb (length c.places) 1)) OnlyPlace 0) λ _.
    ok (was true, with_places c (without p c.places)))
    (ok (was false, c))
-- "stores and answers the minute they give", or 5
edit_rule issue (set_purge s) c =
    and_then (must_find (purge_of issue s) WrongTime) λ minute.
    ok (number minute, record { purge = minute; places = c.places })

-- ---- work of one draft on segment s
-- "24: a place, DD, HH, MM .. handed in out of range". An index is not asked here: its 24 comes last.
abbrev pub in_range : Work → Bool
in_range taking = true
in_range (editing read_purge) = true
in_range (editing read_count) = true
in_range (editing (read_place i)) = true
in_range (editing (add p)) = ltb p places_end
in_range (editing (remove p)) = ltb p places_end
in_range (editing (set_purge s)) = is_time s

-- the copy of segment s: "only a taken segment has a copy to work on"
unfoldable pub copy_of : ℕ → List Copy → Option Content
copy_of s [] = None
copy_of s (k ∷ ks) = cond (eqb s k.segment) (Some k.held) (copy_of s ks)

-- the copies with another content of segment s
unfoldable pub recopy : ℕ → Content → List Copy → List Copy
recopy s c [] = []
recopy s c (k ∷ ks) = record { segment = k.segment; held = cond (eqb s k.segment) c k.held } ∷ recopy s c ks

-- has the draft that holds these copies taken segment s?
unfoldable pub has : ℕ → List Copy → Bool
has s [] = false
has s (k ∷ ks) = eqb s k.segment || has s ks

-- What the work answers, and the copies that it leaves, where the book holds c as segment s: "then 16 or 17, 18", then the edit's own.
unfoldable pub work_rule : ℕ → ℕ → Content → Work → List Copy → refusal.Answer (Value × List Copy)
-- 17, 18; "Take: copies a segment into the draft, at most two"
work_rule issue s c taking ks =
    and_then (must (not (has s ks)) TakenAlready 0) λ _.
    and_then (must (ltb (length ks) 2) TwoTaken 0) λ _.
    ok (done, ks ++ (record { segment = s; held = c } ∷ []))
-- 16, then 5, 19, 20 or 24 (index)
work_rule issue s c (editing e) ks =
    and_then (must_find (copy_of s ks) NotTaken) λ copy.
    and_then (edit_rule issue e copy) λ r.
    ok (r.0, recopy s r.1 ks)

-- ---- storing contents, and what turns stale
-- do the copies name one of these segments?
unfoldable pub touches : List Copy → List Copy → Bool
touches [] ks = false
touches (c ∷ cs) ks = has c.segment ks || touches cs ks

-- "every other draft that has taken one of them turns stale"; "Stale stays stale"
abbrev pub staled : List Copy → Draft → Draft
staled cs closed = closed
staled cs (working ks stale) = working ks (stale || touches cs ks)

unfoldable pub stored : List Copy → List Content → List Content
stored [] segments = segments
stored (c ∷ cs) segments = put (stored cs segments) c.segment c.held

-- ---- commit
unfoldable pub same_content : Option Content → Content → Bool
same_content None c = false
same_content (Some b) c = eqb b.purge c.purge && same_list b.places c.places

unfoldable pub insert_copy : Copy → List Copy → List Copy
insert_copy k [] = k ∷ []
insert_copy k (q ∷ qs) = cond (ltb k.segment q.segment) (k ∷ q ∷ qs) (q ∷ insert_copy k qs)

-- "the changed segments are those whose copy differs from the book", ascending
unfoldable pub changes : List Content → List Copy → List Copy
changes segments [] = []
changes segments (k ∷ ks) = cond (same_content (at segments k.segment) k.held) (changes segments ks) (insert_copy k (changes segments ks))

abbrev pub or_else : Option Content → Content → Content
or_else None c = c
or_else (Some b) c = b

-- what the segments of these copies hold in the book: "their old blocks"
abbrev pub old_of : List Content → Copy → Copy
old_of segments k = record { segment = k.segment; held = or_else (at segments k.segment) k.held }

-- "undo steps 0..16"
abbrev pub steps_most : ℕ
steps_most = 16

-- "if any, their old blocks become the newest step (the oldest of 16 is forgotten)"
unfoldable pub latest : List (List Copy) → List (List Copy)
latest steps = list.drop (length steps - steps_most) steps

abbrev pub remember : List Copy → History → History
remember [] h = h
remember (k ∷ ks) h = record { kept = latest (h.kept ++ ((k ∷ ks) ∷ [])) }

abbrev pub segments_named : List Copy → List ℕ
segments_named ks = map (λ (k : Copy). k.segment) ks

-- ---- the books that the calls leave
abbrev pub with_drafts : Book → List Draft → Book
with_drafts b ds = record { issue = b.issue; segments = b.segments; drafts = ds; history = b.history }

-- "Open: gives the lowest closed number 1..4"
unfoldable pub lowest : ℕ → List Draft → Option ℕ
lowest n [] = None
lowest n (closed ∷ ds) = Some n
lowest n (working ks stale ∷ ds) = lowest (suc n) ds

-- the changes are stored, "with or without a change the draft closes"
abbrev pub committed : Book → ℕ → List Copy → Book
committed b d cs =
    record {
      issue = b.issue;
      segments = stored cs b.segments;
      drafts = put (map (staled cs) b.drafts) d closed;
      history = remember (map (old_of b.segments) cs) b.history;
    }

unfoldable pub newest : List (List Copy) → Option (List Copy)
newest steps = slice_get steps (length steps - 1)

unfoldable pub older : List (List Copy) → List (List Copy)
older steps = take (length steps - 1) steps

-- "Undo: the newest step's blocks go back, the step goes, drafts that took those segments turn stale, and its segments are answered."
abbrev pub undone : Book → List Copy → Book
undone b cs =
    record {
      issue = b.issue;
      segments = stored cs b.segments;
      drafts = map (staled cs) b.drafts;
      history = record { kept = older b.history.kept };
    }

-- ---- the calls
-- an open draft
pub record OpenDraft : Type 0 where
  pub copies : List Copy
  pub stale : Bool

abbrev pub open_draft : Draft → Option OpenDraft
open_draft closed = None
open_draft (working ks stale) = Some (record { copies = ks; stale = stale })

-- "Book calls: 1, 12, 13, 24 (place or time), 15, then 16 or 17, 18, then 5, 19, 20, 21, 24 (index). Open: 14 after 12; undo: 22 after 12".
-- 1 and 12 are asked of the book's bytes, before these: layout/specs/Rule.antt.
unfoldable pub book_rule : Book → Call → refusal.Answer (Value × Book)
-- 14
book_rule b opening =
    and_then (must_find (lowest 1 b.drafts) AllOpen) λ d.
    ok (draft d, with_drafts b (put b.drafts d (working [] false)))
-- 13, 24 (place or time), 15, then the work's own
book_rule b (on d s w) =
    and_then (must_find (open_draft (draft_at b.drafts d)) NoDraft) λ x.
    and_then (must (in_range w) OutOfRange 0) λ _.
    and_then (must_find (at b.segments s) NoSuchSegment) λ c.
    and_then (work_rule b.issue s c w x.copies) λ r.
    ok (r.0, with_drafts b (put b.drafts d (working r.1 x.stale)))
-- 13, 21
book_rule b (commit d) =
    and_then (must_find (open_draft (draft_at b.drafts d)) NoDraft) λ x.
    and_then (must (not x.stale) StaleDraft 0) λ _.
    ok (changed (segments_named (changes b.segments x.copies)), committed b d (changes b.segments x.copies))
-- 13; "Drop closes."
book_rule b (drop d) =
    and_then (must_find (open_draft (draft_at b.drafts d)) NoDraft) λ _.
    ok (done, with_drafts b (put b.drafts d closed))
-- 22
book_rule b undo =
    and_then (must_find (newest b.history.kept) NoStep) λ cs.
    ok (changed (segments_named cs), undone b cs)

-- what the call answers, and the book that it leaves
unfoldable pub step : Book → Call → BookAnswer × Book
step b c = settle b (book_rule b c)
