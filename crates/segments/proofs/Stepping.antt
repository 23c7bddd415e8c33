-- One step of the reader of segments: the segments from here are this one and those after it. Assumes nothing.
use Prim.Native.Nat.{ℕ, zero, suc, ◌+◌, ◌-◌, ◌*◌, ◌≤◌, ◌<◌}
use native.Mathlib.Nat.{zero-add}
use native.Mathlib.Numerals.{add-one}
use native.Mathlib.Omega.{arith}
use mathlib.Core.Path.{◌≡◌, refl, sym, ap, ap₂, ◌∙◌}
use mathlib.Core.List.{List, [], ◌∷◌, ◌++◌, append_assoc, append-nil}
use Rattle.std.specs.Prelude.{Option, None, Some, Result, Ok, Err}
use lib.ListN.{length, take, drop, set, length-set, take-append-drop}
use lib.Seq.{length-take-le, take-suc-set, drop-drop}
use Rattle.laws.proofs.Tests.{apart}
use Rattle.laws.proofs.Lists.{all_set}
use Rattle.laws.specs.Lists.{All, all_nil, all_cons}
use Rattle.refusal.specs.declared.Reason.TheVariants.{NoEnd, NinthSegment}
use Rattle.refusal.specs.Answer.{Answer, ok, no, refusal_for, and_then, answer_by}
use Rattle.refusal.specs.declared.Refusal.{Refusal}
use Rattle.lines.specs.Lines.{Line, is_end, opens}
use Rattle.lines.specs.Spans.{span_at}
use Rattle.lines.specs.declared.Span.{Span}
use Rattle.lines.proofs.Ends.{next_of, ending_of, line_at, lines_step, span_inside, span_next, span_ended}
use Rattle.reading.specs.Placed.{Placed, placed_at}
use Rattle.sets.specs.Held.{Good, places_in}
use Rattle.reading.specs.Held.{placed_of}
use Rattle.reading.specs.declared.Content.{Content}
use Rattle.reading.proofs.Placing.{placed_parts}
use Rattle.segments.specs.Search.{from_first}
use Rattle.segments.specs.Searching.{lines_on, found_lines, LineFrom, Inside, next_in}
use Rattle.segments.specs.Segments as segments
use Rattle.segments.specs.Segments.{segments_from, opened, runs_to, past_purge}
use Rattle.segments.specs.Seen.{unread, segments_for, segments_held, Few, Sized}
use Rattle.segments.specs.Listing.{seen_of, seen_from, seen_before, begun_seen, then_seen, Begun, Stepped}
use Rattle.segments.specs.KeptAt.{keep_each}
use Rattle.segments.specs.KeptBy.{places_at, kept_by, kept_from, KeptSome}
use Rattle.segments.specs.declared.Segment.{Segment}
use Rattle.segments.specs.declared.Segments.{Segments}
use Rattle.segments.proofs.Seeking.{next_is}
use Rattle.segments.proofs.Purges.{past_is, block_behind, block_skips}
use Rattle.segments.proofs.Keeping.{kept_length_lem, kept_more}

-- ---- the segment that starts at a
module _ (s : List ℕ) (issue : ℕ) (o : Span) (eo : span_at s o.start ≡ Some o) (rc : Result Content Refusal) (ec : answer_by placed_of rc ≡ placed_at s issue o.start) where
  abbrev a : ℕ
  a = o.start

  inside : a < length s
  inside = span_inside s o eo

  abbrev after : ℕ → Placed → Answer (List segments.Segment)
  after n p = runs_to (line_at s a) (past_purge p.at (line_at s a) (lines_on s (next_of s a))) p.content (segments_from n s issue) (from_first is_end (lines_on s a))

  opened_is : (n : ℕ) → seen_of (opened s issue (segments_from n s issue) (lines_on s a)) ≡ seen_of (and_then (placed_at s issue a) (after n))
  opened_is n =
      ap (λ (ls : List Line). seen_of (opened s issue (segments_from n s issue) ls)) (lines_step s a inside)
      ∙ ap (λ (ls : List Line). seen_of (and_then (placed_at s issue a) (λ p. runs_to (line_at s a) (past_purge p.at (line_at s a) (lines_on s (next_of s a))) p.content (segments_from n s issue) (from_first is_end ls)))) (sym (lines_step s a inside))

  pub begun_refused : (r : Refusal) → rc ≡ Err r → Begun s issue a (Err r)
  unfolding and_then
  begun_refused r y = record { same = λ n. opened_is n ∙ rw (← ec, y); few = λ g h. apart cc }

  module _ (c : Content) (y : rc ≡ Ok c) (d : ℕ) (ed : d ≡ next_in c.place (span_at s c.place)) (f : Option Span) (e : found_lines s f ≡ from_first is_end (lines_on s d)) where
    abbrev at : ℕ
    at = c.place

    abbrev here : Placed
    here = placed_of c

    placed_is : placed_at s issue a ≡ ok here
    placed_is = sym ec ∙ ap (answer_by placed_of) y

    -- the first `$$` line behind the block is the segment's
    end_is : found_lines s f ≡ from_first is_end (lines_on s a)
    end_is = e ∙ ap (λ (n : ℕ). from_first is_end (lines_on s n)) (ed ∙ next_is s at) ∙ sym (block_skips s a at inside (placed_parts s issue a here placed_is).purge)

    abbrev runs : ℕ → Answer (List segments.Segment)
    runs n = runs_to (line_at s a) (past_purge at (line_at s a) (lines_on s (next_of s a))) here.content (segments_from n s issue) (found_lines s f)

    runs_is : (n : ℕ) → seen_of (opened s issue (segments_from n s issue) (lines_on s a)) ≡ seen_of (runs n)
    unfolding and_then
    runs_is n = opened_is n ∙ rw (placed_is, end_is)

    pub begun_endless : f ≡ None → (w : Refusal) → w ≡ refusal_for NoEnd a → Begun s issue a (Err w)
    begun_endless z w ew = record { same = λ n. runs_is n ∙ rw (z, ew); few = λ g h. apart cc }

    module _ (g : Good c.places) (i : Inside s d f) (b : Span) (z : f ≡ Some b) where
      end_line : LineFrom s d b
      end_line = rw z at i

      past_line : b.next ≡ next_of s b.start
      past_line = span_next s b end_line.is

      -- the line that has the purge is the one that its element stands in
      past_block : d ≡ past_purge at (line_at s a) (lines_on s (next_of s a))
      past_block =
          let v = block_behind s a at (placed_parts s issue a here placed_is).purge in
          ed ∙ next_is s at ∙ sym (past_is s a at inside v.low v.high)

      one : Segment
      one = record { start = a; block = d; past = b.next; ended = o.ended; purge = c.purge; count = c.places.count }

      seen_one : (x : Answer (List segments.Segment))
          → seen_of (and_then x (λ ss. ok (record { start = a; block = past_purge at (line_at s a) (lines_on s (next_of s a)); past = next_of s b.start; ended = ending_of s a; content = here.content } ∷ ss))) ≡ seen_before (one ∷ []) (seen_of x)
      unfolding and_then one
      seen_one (ok ss) =
          let n : length (places_in c.places) ≡ c.places.count = length-take-le c.places.count c.places.held (omega (arith, g.few, g.long)) in
          rw (n, past_block, past_line, span_ended s o eo)
      seen_one (no number place) = refl

      pub begun_one : Begun s issue a (Ok (record { start = a; block = d; past = b.next; ended = o.ended; purge = c.purge; count = c.places.count }))
      unfolding one
      begun_one =
          record {
            same = λ n.
                runs_is n ∙ rw (z, lines_step s b.start (span_inside s b end_line.is)) (seen_one (segments_from n s issue (lines_on s (next_of s b.start)))
                ∙ ap (λ (k : ℕ). seen_before (one ∷ []) (seen_from n s issue k)) (sym past_line));
            few = λ x h. let w : record { start = a; block = d; past = b.next; ended = o.ended; purge = c.purge; count = c.places.count } ≡ x = cc in rw (← w) g.few;
          }

-- ---- the next segment from a place on
module _ (s : List ℕ) (issue left from : ℕ) (f : Option Span) (ef : found_lines s f ≡ from_first opens (lines_on s from)) where
  -- no line opens a segment
  none_left : (n : ℕ) → f ≡ None → seen_from n s issue from ≡ ok []
  unfolding segments_from
  none_left zero q = rw (← ef, q)
  none_left (suc n) q = rw (← ef, q)

  pub step_nothing : f ≡ None → Stepped s issue left from (Ok None)
  step_nothing q = record { same = none_left left q; room = λ g e. apart cc; few = λ g e. apart cc }

  module _ (i : Inside s from f) (o : Span) (q : f ≡ Some o) where
    pub step_line : span_at s o.start ≡ Some o
    step_line = let v : LineFrom s from o = rw q at i in v.is

    lines_are : from_first opens (lines_on s from) ≡ lines_on s o.start
    lines_are = sym ef ∙ ap (found_lines s) q

    pub step_ninth : left ≡ 0 → (w : Refusal) → w ≡ refusal_for NinthSegment o.start → Stepped s issue left from (Err w)
    unfolding segments_from
    step_ninth z w e = record { same = rw (z, e, lines_are, lines_step s o.start (span_inside s o step_line)); room = λ g h. apart cc; few = λ g h. apart cc }

    step_same : (left ≡ 0 → ⊥) → (r : Result Segment Refusal) → Begun s issue o.start r → seen_from left s issue from ≡ begun_seen s issue (left - 1) r
    unfolding segments_from
    step_same p r v =
        let one_more : left ≡ suc (left - 1) = omega arith in
        ap (λ (n : ℕ). seen_from n s issue from) one_more
        ∙ ap (λ (ls : List Line). seen_of (opened s issue (segments_from (left - 1) s issue) ls)) lines_are
        ∙ v.same (left - 1)

    pub step_refused : (left ≡ 0 → ⊥) → (r : Result Segment Refusal) → Begun s issue o.start r → (w : Refusal) → r ≡ Err w → Stepped s issue left from (Err w)
    step_refused p r v w q = record { same = step_same p r v ∙ rw q; room = λ g h. apart cc; few = λ g h. apart cc }

    pub step_begun : (left ≡ 0 → ⊥) → (r : Result Segment Refusal) → Begun s issue o.start r → (b : Segment) → r ≡ Ok b → Stepped s issue left from (Ok (Some b))
    step_begun p r v b q =
        record {
          same = step_same p r v ∙ rw q;
          room = λ g h. omega arith;
          few = λ g h. let e : b ≡ g = cc in v.few g (q ∙ ap Ok e);
        }

-- ---- step after step
before_none : (x : Answer (List Segment)) → seen_before [] x ≡ x
before_none (ok gs) = refl
before_none (no number place) = refl

before_more : (gs : List Segment) (g : Segment) (x : Answer (List Segment)) → seen_before gs (seen_before (g ∷ []) x) ≡ seen_before (gs ++ (g ∷ [])) x
before_more gs g (ok hs) = ap ok (sym (append_assoc gs (g ∷ []) hs))
before_more gs g (no number place) = refl

unread_long : length unread ≡ 8
unfolding unread
unread_long = refl

unread_few : All Few unread
unfolding unread
unread_few = all_cons low (all_cons low (all_cons low (all_cons low (all_cons low (all_cons low (all_cons low (all_cons low all_nil)))))))
  where
    low : 0 ≤ 120
    low = omega arith

-- no segments, by value
pub unread_sized : (gs : Segments) → gs ≡ segments_for [] → Sized gs
unread_sized gs e = rw e (record { long = unread_long; few = omega arith; each = unread_few })

-- segments by value are those that are held, and unread ones behind them
pub segments_are : (gs : Segments) (hs : List Segment) → length gs.held ≡ 8 → gs.count ≤ 8 → drop gs.count gs.held ≡ drop gs.count unread → segments_held gs ≡ hs → gs ≡ segments_for hs
segments_are gs hs long few rest e =
    let n : gs.count ≡ length hs = sym (length-take-le gs.count gs.held (omega arith)) ∙ ap (λ (l : List Segment). length l) e in
    let a : gs.held ≡ hs ++ drop (length hs) unread =
    sym (take-append-drop gs.count gs.held) ∙ ap₂ (λ (x y : List Segment). x ++ y) e (rest ∙ ap (λ (k : ℕ). drop k unread) n) in
    λ i. record { held = a i; count = n i }

-- a store leaves what is behind it
behind_set : {A : Type 0} (l : List A) (k : ℕ) (x : A) → drop (k + 1) (set l k x) ≡ drop (k + 1) l
behind_set l k x = rw add-one (go l k)
  where
    go : (l : List _) (k : ℕ) → drop (suc k) (set l k x) ≡ drop (suc k) l
    go [] k = refl
    go (y ∷ l) zero = refl
    go (y ∷ l) (suc k) = go l k

-- the first `count` are read and their places kept, and the others are those from `at` on
pub record Listing (s : List ℕ) (issue from : ℕ) (ks₀ ks : List ℕ) (held : List Segment) (count at : ℕ) : Type 0 where
  pub long : length held ≡ 8
  pub few : count ≤ 8
  pub each : All Few held
  pub rest : drop count held ≡ drop count unread
  pub same : seen_from 8 s issue from ≡ seen_before (take count held) (seen_from (8 - count) s issue at)
  pub kept : ks ≡ kept_from s issue 0 (take count held) ks₀

pub listing_start : (s : List ℕ) (issue from : ℕ) (ks : List ℕ) (held : List Segment) → held ≡ unread → Listing s issue from ks ks held 0 from
unfolding keep_each
listing_start s issue from ks held h =
    record {
      long = ap length h ∙ unread_long;
      few = omega arith;
      each = rw h unread_few;
      rest = h;
      same = sym (before_none (seen_from 8 s issue from));
      kept = refl;
    }

module _ (s : List ℕ) (issue from : ℕ) (ks₀ ks : List ℕ) (held : List Segment) (count at : ℕ) (v : Listing s issue from ks₀ ks held count at) where
  pub listing_size : (d : List ℕ) → length d ≡ length ks → length d ≡ length ks₀
  listing_size d h = h ∙ ap (λ (l : List ℕ). length l) v.kept ∙ kept_length_lem (places_at s issue) 0 (take count held) ks₀

  pub listing_segments : record { held = held; count = count } ≡ segments_for (take count held)
  listing_segments = segments_are (record { held = held; count = count }) (take count held) v.long v.few v.rest refl

  pub listing_sized : Sized (record { held = held; count = count })
  listing_sized = record { long = v.long; few = v.few; each = v.each }

  -- where the list ends, what was kept before is kept
  module _ (r : Result (Option Segment) Refusal) (d : List ℕ) (k : d ≡ kept_by s issue (120 * count) r ks) where
    pub kept_end : r ≡ Ok None → d ≡ kept_from s issue 0 (take count held) ks₀
    kept_end q = k ∙ ap (λ (x : Result (Option Segment) Refusal). kept_by s issue (120 * count) x ks) q ∙ v.kept

    pub kept_some : (f : Refusal) → r ≡ Err f → KeptSome s issue ks₀ d
    kept_some f q = record { segments = record { held = held; count = count }; whole = listing_segments; sized = listing_sized; kept = k ∙ ap (λ (x : Result (Option Segment) Refusal). kept_by s issue (120 * count) x ks) q ∙ v.kept }

  module _ (r : Result (Option Segment) Refusal) (e : Stepped s issue (8 - count) at r) where
    listed : seen_from 8 s issue from ≡ seen_before (take count held) (then_seen s issue (8 - count - 1) r)
    listed = v.same ∙ ap (seen_before (take count held)) e.same

    pub listing_end : r ≡ Ok None → answer_by segments_held (Ok (record { held = held; count = count })) ≡ seen_from 8 s issue from
    listing_end q = sym (listed ∙ rw (q, append-nil (take count held)))

    pub listing_refused : (f : Refusal) → r ≡ Err f → answer_by segments_held (Err f) ≡ seen_from 8 s issue from
    listing_refused f q = sym (listed ∙ rw q)

    module _ (g : Segment) (q : r ≡ Ok (Some g)) where
      pub listing_room : count < 8
      listing_room = omega (arith, e.room g q)

      pub listing_less : 8 - (count + 1) < 8 - count
      listing_less = omega (arith, listing_room)

      taken : take (count + 1) (set held count g) ≡ take count held ++ (g ∷ [])
      taken = rw (add-one count) (take-suc-set held count g (omega (arith, listing_room, v.long)))

      behind : drop count held ≡ drop count unread → drop (count + 1) held ≡ drop (count + 1) unread
      behind h = sym (drop-drop 1 count held) ∙ ap (drop 1) h ∙ drop-drop 1 count unread

      pub listing_on : (d : List ℕ) → d ≡ kept_by s issue (120 * count) r ks → Listing s issue from ks₀ d (set held count g) (count + 1) g.past
      listing_on d k =
          let n : 8 - count - 1 ≡ 8 - (count + 1) = omega arith in
          let m : length (take count held) ≡ count = length-take-le count held (omega (arith, v.long, v.few)) in
          record {
            long = simp length-set v.long;
            few = omega (arith, listing_room);
            each = all_set count g (e.few g q) v.each;
            rest = behind_set held count g ∙ behind v.rest;
            same = listed ∙ rw (q, n) (before_more (take count held) g (seen_from (8 - (count + 1)) s issue g.past) ∙ rw taken);
            kept = k ∙ rw (q, v.kept, taken) (sym (kept_more (places_at s issue) 0 (take count held) g ks₀ ∙ rw (m, zero-add count)));
          }
