-- Every place that the reader names lies in the text, or at its end. Assumes nothing.
use Prim.Native.Nat.{ℕ, zero, suc, ◌+◌, ◌≤◌, ◌<◌, suc-le-suc, min}
use native.Mathlib.Nat.{min-le_left}
use native.Mathlib.Omega.{arith}
use mathlib.Core.Path.{◌≡◌, refl, sym, ap, ◌∙◌, subst}
use mathlib.Core.Bool.{Bool, true, false, cond}
use mathlib.Core.List.{List, [], ◌∷◌}
use Rattle.std.specs.Prelude.{Option, None, Some}
use lib.ListN.{length, drop, length-drop}
use lib.Dec.{leb, ltb, eqb}
use borrow.Author.Tests.{ltb-true}
use Rattle.laws.proofs.Tests.{by, apart, either_way}
use Rattle.laws.proofs.Lists.{all_append}
use Rattle.laws.specs.Lists.{All, all_nil, all_cons}
use Rattle.refusal.specs.declared.Reason.{Reason}
use Rattle.refusal.specs.declared.Reason.TheVariants.{WrongText, WrongTime, WrongBlock, NoSegment, NoEnd, NinthSegment, TooManyPlaces, PlaceTwice}
use Rattle.refusal.specs.Answer.{Answer, ok, no, refused, refused_at, must, and_then}
use Rattle.lines.specs.Bytes.{lf}
use Rattle.lines.specs.declared.End.{End}
use Rattle.lines.specs.Lines.{glue, pieces, line_end, body_of, ended_by, Line, lines_at, lines_from, lines_of, blank, is_end, opens}
use Rattle.lines.specs.Check.{allowed, bad_byte, line_most, long_line, last_ends, unended, least, text_fault, check_text}
use Rattle.calendar.specs.Purge.{purge_of}
use Rattle.codes.specs.Places.{capacity}
use Rattle.codes.specs.Elements.{Element, dash, null, elements_at, elements_of_body, elements_of_lines, Said, covers, purge, wrong, said}
use Rattle.codes.specs.Block.{insert_covered, Read, block, wrong_at, ended, read_from, read_block, Stretch, stretch_of, covered_before, twice_from, twice_at, Content, dated, content_in, content_at}
use Rattle.codes.proofs.Turns.{read_covers, read_purge_lem, read_wrong}
use Rattle.codes.proofs.Twice.{twice_covers, twice_purge, twice_wrong}
use Rattle.reading.specs.Placed.{purge_place, placed_at}
use Rattle.segments.specs.Search.{from_first, up_to_first, lines_after, closes}
use Rattle.bulletin.specs.Mnd.{past_mnd}
use Rattle.segments.specs.Segments.{Segment, past_purge, runs_to, opened, ninth, segments_from, most}
use Rattle.bulletin.specs.Starts.{one_or_more, from_line3, first_lines, segments_of}
use Rattle.packing.proofs.Kept.{reason_byte}

-- ---- lines
pub record Within (n : ℕ) (l : Line) : Type 0 where
  pub start : l.start ≤ n
  pub end : l.start + length l.body ≤ n
  pub next : l.next ≤ n

unfoldable total : List (List ℕ) → ℕ
total [] = 0
total (p ∷ ps) = length p + total ps

total_glue : (b : ℕ) (ps : List (List ℕ)) → total (glue b ps) ≡ suc (total ps)
unfolding total
total_glue b [] = omega arith
total_glue b (p ∷ ps) = omega arith

total_pieces : (sep : ℕ) (s : List ℕ) → total (pieces sep s) ≡ length s
unfolding pieces total
total_pieces sep [] = refl
total_pieces sep (b ∷ s) =
    let e : total (pieces sep s) ≡ length s = total_pieces sep s in
    by (eqb b sep) (λ t. rw t (omega arith)) (λ t. rw t (total_glue b (pieces sep s) ∙ ap suc e))

body_short : (s : List ℕ) → length (body_of s) ≤ length s
unfolding body_of
body_short [] = omega arith
body_short (b ∷ s) = by (line_end (b ∷ s)) (λ t. rw t (omega arith)) (λ t. rw t (suc-le-suc (body_short s)))

line_within : (n at : ℕ) (p : List ℕ) → at + length p ≤ n → Within n (record { start = at; body = body_of p; next = at + length p; ended = ended_by p })
line_within n at p h = record { start = omega arith; end = omega (arith, body_short p); next = h }

lines_within_lem : (n at : ℕ) (ps : List (List ℕ)) → at + total ps ≤ n → All (Within n) (lines_at at ps)
unfolding lines_at total
lines_within_lem n at [] h = all_nil
lines_within_lem n at (p ∷ ps) h =
    all_cons (line_within n at p (omega arith)) (lines_within_lem n (at + length p) ps (omega arith))

-- lines that are left keep their places
pub from_within : {n : ℕ} (p : List ℕ → Bool) {ls : List Line} → All (Within n) ls → All (Within n) (from_first p ls)
unfolding from_first
from_within p all_nil = all_nil
from_within {n} p (all_cons {x = l} f a) = either_way (All (Within n)) (p l.body) (all_cons f a) (from_within p a)

pub up_within : {n : ℕ} (p : List ℕ → Bool) {ls : List Line} → All (Within n) ls → All (Within n) (up_to_first p ls)
unfolding up_to_first
up_within p all_nil = all_nil
up_within {n} p (all_cons {x = l} f a) = either_way (All (Within n)) (p l.body) all_nil (all_cons f (up_within p a))

pub later_within : {n : ℕ} {ls : List Line} → All (Within n) ls → All (Within n) (lines_after ls)
later_within all_nil = all_nil
later_within (all_cons f a) = a

-- ---- elements
record Placed (n : ℕ) (e : Element) : Type 0 where
  at : e.at ≤ n
  end : e.at + length e.bytes ≤ n

placed : (n at : ℕ) (s : List ℕ) (last : Bool) → at + length s ≤ n → Placed n (record { at = at; bytes = s; last = last })
placed n at s last h = record { at = omega arith; end = h }

elements_at_lem : (n at : ℕ) (ps : List (List ℕ)) → at + total ps ≤ n → All (Placed n) (elements_at at ps)
unfolding elements_at total
elements_at_lem n at [] h = all_nil
elements_at_lem n at (p ∷ ps) h = all_cons (placed n at p (null ps) (omega arith)) (elements_at_lem n (at + length p) ps (omega arith))

elements_body : (n at : ℕ) (s : List ℕ) → at + length s ≤ n → All (Placed n) (elements_of_body at s)
elements_body n at [] h = all_cons (placed n at [] true h) all_nil
elements_body n at (b ∷ s) h = let e : total (pieces dash (b ∷ s)) ≡ length (b ∷ s) = total_pieces dash (b ∷ s) in elements_at_lem n at (pieces dash (b ∷ s)) (omega arith)

elements_lines : {n : ℕ} {ls : List Line} → All (Within n) ls → All (Placed n) (elements_of_lines ls)
unfolding elements_of_lines
elements_lines all_nil = all_nil
elements_lines {n} (all_cons {x = l} f a) = all_append (elements_body n l.start l.body f.end) (elements_lines a)

-- the place of the element that the reading of a block comes to: the purge, or the first wrong one
abbrev last_of : Read → ℕ
last_of (block ps s at) = at
last_of (wrong_at place) = place

ended_in : (n : ℕ) (t : Bool) (r : Read) (next : ℕ) → last_of r ≤ n → next ≤ n → last_of (ended t r next) ≤ n
ended_in n true r next h k = h
ended_in n false r next h k = k

read_in : (stop n : ℕ) → stop ≤ n → (last : Option ℕ) (got : List ℕ) {es : List Element} → All (Placed n) es → last_of (read_from stop last got es) ≤ n
unfolding read_from
read_in stop n h last got all_nil = h
read_in stop n h last got (all_cons {x = e} {xs = es} f a) = go (λ p k m. read_in stop n h (Some p) (insert_covered p k m got) a) (said last e.bytes) refl
  where
    go : ((p k m : ℕ) → last_of (read_from stop (Some p) (insert_covered p k m got) es) ≤ n)
        → (r : Said) → said last e.bytes ≡ r → last_of (read_from stop last got (e ∷ es)) ≤ n
    go i (covers p k m) q = subst (λ (r : Read). last_of r ≤ n) (sym (read_covers stop last got e es p k m q)) (i p k m)
    go i (purge u) q =
        subst (λ (r : Read). last_of r ≤ n) (sym (read_purge_lem stop last got e es u q))
        (ended_in n e.last (block got u e.at) (e.at + length e.bytes) f.at f.end)
    go i wrong q = subst (λ (r : Read). last_of r ≤ n) (sym (read_wrong stop last got e es q)) f.at

-- and that of the first one that covers a place already covered
twice_in : (n : ℕ) (last : Option ℕ) (before : List Stretch) {es : List Element} → All (Placed n) es → (y : ℕ) → twice_from last before es ≡ Some y → y ≤ n
unfolding twice_from
twice_in n last before all_nil y w = apart cc
twice_in n last before (all_cons {x = e} {xs = es} f a) y w = go (λ p l. twice_in n (Some p) l a y) (said last e.bytes) refl
  where
    go : ((p : ℕ) (l : List Stretch) → twice_from (Some p) l es ≡ Some y → y ≤ n) → (r : Said) → said last e.bytes ≡ r → y ≤ n
    go i (covers p k m) q =
        let v : cond (covered_before (stretch_of p k m) before) (Some e.at) (twice_from (Some p) (stretch_of p k m ∷ before) es) ≡ Some y =
        sym (twice_covers last before e es p k m q) ∙ w in
        by (covered_before (stretch_of p k m) before)
        (λ t. let z : Some e.at ≡ Some y = rw t at v in let x : e.at ≡ y = cc in omega (arith, f.at))
        (λ t. i p (stretch_of p k m ∷ before) (rw t at v))
    go i (purge u) q = let z : None ≡ Some y = sym (twice_purge last before e es u q) ∙ w in apart cc
    go i wrong q = let z : None ≡ Some y = sym (twice_wrong last before e es q) ∙ w in apart cc

-- ---- answers: what is accepted has a property, and what is refused has a number and a place
pub data Low (n : ℕ) {A : Type 0} (P : A → Type 0) : Answer A → Type 0 where
  low_ok : (x : A) → P x → Low n P (ok x)
  low_no : (reason place : ℕ) → 1 ≤ reason → reason < 256 → place ≤ n → Low n P (no reason place)

pub low_refused : {A : Type 0} (n : ℕ) (P : A → Type 0) (r : Reason) (place : ℕ) → place ≤ n → Low n P (refused r place)
low_refused n P r place h = low_no _ place (reason_byte r).from (reason_byte r).below h

pub low_then : {A B : Type 0} {n : ℕ} {P : A → Type 0} {Q : B → Type 0} {a : Answer A} (f : A → Answer B) → ((x : A) → P x → Low n Q (f x)) → Low n P a → Low n Q (and_then a f)
unfolding and_then
low_then f g (low_ok x p) = g x p
low_then f g (low_no reason place one most h) = low_no reason place one most h

abbrev pub Any : {A : Type 0} → A → Type 0
Any x = Unit {0}

pub low_must : (n : ℕ) (t : Bool) (r : Reason) → Low n (λ (u : Unit {0}). t ≡ true) (must t r 0)
low_must n true r = low_ok tt refl
low_must n false r = low_refused n (λ (u : Unit {0}). false ≡ true) r 0 (omega arith)

-- ---- in a text
module _ (text : List ℕ) (n : ℕ) (fits : length text ≤ n) where
  pub text_within : All (Within n) (lines_of text)
  text_within = let e : total (pieces lf text) ≡ length text = total_pieces lf text in lines_within_lem n 0 (pieces lf text) (omega arith)

  on_within : (at : ℕ) → at ≤ length text → All (Within n) (lines_from at (drop at text))
  on_within at h =
      let e : total (pieces lf (drop at text)) ≡ length (drop at text) = total_pieces lf (drop at text) in
      lines_within_lem n at (pieces lf (drop at text)) (omega (arith, length-drop at text))

-- the place of a wrong byte, line or end
bad_in : (n at : ℕ) (s : List ℕ) (p : ℕ) → at + length s ≤ n → bad_byte at s ≡ Some p → p ≤ n
unfolding bad_byte
bad_in n at [] p h e = apart cc
bad_in n at (b ∷ s) p h e =
    by (allowed b s)
    (λ t. bad_in n (suc at) s p (omega arith) (rw t at e))
    (λ t. let f : Some at ≡ Some p = rw t at e in let g : at ≡ p = cc in omega arith)

long_in : (n : ℕ) {ls : List Line} (p : ℕ) → All (Within n) ls → long_line ls ≡ Some p → p ≤ n
unfolding long_line
long_in n p all_nil e = apart cc
long_in n p (all_cons {x = l} f a) e =
    by (ltb line_most (length l.body))
    (λ t.
    let g : Some (l.start + line_most) ≡ Some p = rw t at e in
    let q : l.start + line_most ≡ p = cc in
    omega (arith, f.end, ltb-true line_most (length l.body) t))
    (λ t. long_in n p a (rw t at e))

-- the lesser of two places, if there is one
abbrev In : ℕ → Option ℕ → Type 0
In n o = (p : ℕ) → o ≡ Some p → p ≤ n

least_in : (n : ℕ) (o q : Option ℕ) → In n o → In n q → In n (least o q)
unfolding least
least_in n None q f g p e = g p e
least_in n (Some m) None f g p e = f p e
least_in n (Some m) (Some k) f g p e =
    let same : min m k ≡ p = cc in
    let low : m ≤ n = f m refl in
    omega (arith, min-le_left m k)

-- a refusal at a place that lies in the text
at_low : (n : ℕ) (r : Reason) (o : Option ℕ) → In n o → Low n Any (refused_at r o)
at_low n r None f = low_ok tt tt
at_low n r (Some p) f = low_refused n Any r p (f p refl)

unended_in : (text : List ℕ) (n : ℕ) → length text ≤ n → In n (unended text)
unfolding unended
unended_in text n fits p e =
    by (last_ends text)
    (λ t. let f : None ≡ Some p = rw t at e in apart cc)
    (λ t. let f : Some (length text) ≡ Some p = rw t at e in let g : length text ≡ p = cc in omega arith)

pub check_low : (text : List ℕ) (n : ℕ) → length text ≤ n → Low n Any (check_text text)
unfolding check_text text_fault
check_low text n fits =
    at_low n WrongText (least (bad_byte 0 text) (least (long_line (lines_of text)) (unended text)))
    (least_in n (bad_byte 0 text) (least (long_line (lines_of text)) (unended text)) (λ p e. bad_in n 0 text p (omega arith) e)
    (least_in n (long_line (lines_of text)) (unended text) (λ p e. long_in n p (text_within text n fits) e) (unended_in text n fits)))

-- ---- segments
pub record Lies (n : ℕ) (g : Segment) : Type 0 where
  pub start : g.start ≤ n
  pub block : g.block ≤ n
  pub past : g.past ≤ n

abbrev pub LowSegments : ℕ → Answer (List Segment) → Type 0
LowSegments n a = Low n (All (Lies n)) a

lies : (n start after past : ℕ) (end : End) (c : Content) → start ≤ n → after ≤ n → past ≤ n
    → Lies n (record { start = start; block = after; past = past; ended = end; content = c })
lies n start after past end c a b d = record { start = a; block = b; past = d }

module _ (n start : ℕ) (h : start ≤ n) where
  dated_low : (at : ℕ) (ps : List ℕ) (o : Option ℕ) → at ≤ n → Low n Any (dated start at ps o)
  dated_low at ps None k = low_refused n Any WrongTime at k
  dated_low at ps (Some t) k =
      either_way (Low n Any) (leb (length ps) capacity) (low_ok (record { purge = t; places = ps }) tt) (low_refused n Any TooManyPlaces start h)

  content_in_lem : (issue : ℕ) (w : Option ℕ) (r : Read) → ((y : ℕ) → w ≡ Some y → y ≤ n) → last_of r ≤ n → Low n Any (content_in issue start w r)
  content_in_lem issue w (wrong_at place) g k = low_refused n Any WrongBlock place k
  content_in_lem issue (Some y) (block ps s at) g k = low_refused n Any PlaceTwice y (g y refl)
  content_in_lem issue None (block ps s at) g k = dated_low at ps (purge_of issue s) k

  purge_low : (r : Read) → last_of r ≤ n → Low n Any (purge_place r)
  purge_low (wrong_at place) k = low_refused n Any WrongBlock place k
  purge_low (block ps s at) k = low_ok at tt

module _ (text : List ℕ) (n : ℕ) (fits : length text ≤ n) where
  -- the lines of a text start in it
  abbrev Starts : Line → Type 0
  Starts l = Within (length text) l

  block_in_lem : (at : ℕ) → at ≤ length text → last_of (read_block text at) ≤ length text
  unfolding read_block
  block_in_lem at h =
      read_in (length text) (length text) (omega arith) None [] (elements_lines (on_within text (length text) (omega arith) at h))

  repeat_in : (at : ℕ) → at ≤ length text → (y : ℕ) → twice_at text at ≡ Some y → y ≤ length text
  unfolding twice_at
  repeat_in at h = twice_in (length text) None [] (elements_lines (on_within text (length text) (omega arith) at h))

  content_low : (issue at : ℕ) → at ≤ length text → Low n Any (content_at text issue at)
  unfolding content_at
  content_low issue at h =
      content_in_lem n at (omega arith) issue (twice_at text at) (read_block text at) (λ y e. omega (arith, repeat_in at h y e)) (omega (arith, block_in_lem at h))

  placed_low : (issue at : ℕ) → at ≤ length text → Low n Any (placed_at text issue at)
  unfolding placed_at
  placed_low issue at h =
      low_then _ (λ c u. low_then _ (λ p w. low_ok (record { content = c; at = p }) tt) (purge_low n at (omega arith) (read_block text at) (omega (arith, block_in_lem at h)))) (content_low issue at h)

  -- the line that has the purge is one of the text's
  past_in_lem : (at : ℕ) (l : Line) (ls : List Line) → Starts l → All Starts ls → past_purge at l ls ≤ length text
  unfolding past_purge
  past_in_lem at l [] f a = f.next
  past_in_lem at l (m ∷ ls) f (all_cons g a) = either_way (λ (k : ℕ). k ≤ length text) (ltb at l.next) f.next (past_in_lem at m ls g a)

  abbrev Next : (List Line → Answer (List Segment)) → Type 0
  Next next = (ls : List Line) → All Starts ls → LowSegments n (next ls)

  ended_low : (next : List Line → Answer (List Segment)) → Next next → (l : Line) (past : ℕ) (c : Content) → l.start ≤ length text → past ≤ length text → (ls : List Line) → All Starts ls
      → LowSegments n (runs_to l past c next ls)
  ended_low next i l past c f k [] a = low_refused n (All (Lies n)) NoEnd l.start (omega arith)
  ended_low next i l past c f k (e ∷ ls) (all_cons g a) =
      low_then _ (λ ss p. low_ok _ (all_cons (lies n l.start past e.next l.ended c (omega arith) (omega arith) (omega (arith, g.next))) p)) (i ls a)

  opened_low : (issue : ℕ) (next : List Line → Answer (List Segment)) → Next next → (ls : List Line) → All Starts ls → LowSegments n (opened text issue next ls)
  opened_low issue next i [] a = low_ok [] all_nil
  opened_low issue next i (l ∷ ls) (all_cons f a) =
      low_then _
      (λ p u. ended_low next i l (past_purge p.at l ls) p.content f.start (past_in_lem p.at l ls f a) (from_first is_end (l ∷ ls)) (from_within is_end (all_cons f a)))
      (placed_low issue l.start f.start)

  ninth_low : (ls : List Line) → All Starts ls → LowSegments n (ninth ls)
  ninth_low [] a = low_ok [] all_nil
  ninth_low (l ∷ ls) (all_cons f a) = low_refused n (All (Lies n)) NinthSegment l.start (omega (arith, f.start))

  segments_low : (k issue : ℕ) → Next (segments_from k text issue)
  unfolding segments_from
  segments_low zero issue ls a = ninth_low (from_first opens ls) (from_within opens a)
  segments_low (suc k) issue ls a = opened_low issue (segments_from k text issue) (segments_low k issue) (from_first opens ls) (from_within opens a)

  line3_low : (past : List Line) → All Starts past → (ls : List Line) → All Starts ls → Low n (All Starts) (from_line3 past (length text) ls)
  line3_low past p [] a = low_refused n (All Starts) NoSegment (length text) fits
  line3_low past p (l ∷ ls) (all_cons f a) =
      either_way (Low n (All Starts)) (blank l.body) (low_ok past p)
      (either_way (Low n (All Starts)) (opens l.body) (low_ok (l ∷ ls) (all_cons f a)) (low_refused n (All Starts) WrongBlock l.start (omega (arith, f.start))))

  some_low : (gs : List Segment) → All (Lies n) gs → LowSegments n (one_or_more (length text) gs)
  some_low [] a = low_refused n (All (Lies n)) NoSegment (length text) fits
  some_low (g ∷ gs) a = low_ok (g ∷ gs) a

  pub list_low : (issue : ℕ) → LowSegments n (segments_of text issue (lines_of text))
  unfolding segments_of first_lines
  list_low issue =
      let all = text_within text (length text) (omega arith) in
      let third = later_within (later_within all) in
      let past = later_within (from_within closes (later_within (from_within blank third))) in
      low_then _ (λ ls a. low_then _ some_low (segments_low most issue ls a)) (line3_low (past_mnd (lines_of text)) past (lines_after (lines_after (lines_of text))) third)
