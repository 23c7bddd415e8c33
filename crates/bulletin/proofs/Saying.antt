-- What a bulletin that is read says of its segments, and that the places that are handed on are theirs. Assumes nothing.
use Prim.Native.Nat.{ℕ, zero, suc, ◌*◌, ◌≤◌}
use native.Mathlib.Nat.{zero-add}
use native.Mathlib.Omega.{arith}
use mathlib.Core.Path.{◌≡◌, refl, sym, ap, ap₂, ◌∙◌, subst}
use mathlib.Core.List.{List, [], ◌∷◌, map}
use Rattle.std.specs.Prelude.{Option, None, Some}
use lib.ListN.{length, take, drop, length-map}
use Rattle.std.specs.Prelude.{slice_get}
use lib.Seq.{length-take-le}
use lib.Dec.{leb}
use borrow.Author.Tests.{leb-true}
use Rattle.laws.proofs.Tests.{by, apart}
use Rattle.laws.proofs.Lists.{all_found}
use Rattle.laws.specs.Lists.{All, all_nil, all_cons}
use Rattle.std.specs.Prelude.{Result, Ok, Err}
use Rattle.refusal.specs.Numbers.{number_of}
use Rattle.refusal.specs.Answer.{Answer, ok, no, refused, and_then}
use Rattle.refusal.specs.declared.Reason.TheVariants.{TooManyPlaces}
use Rattle.refusal.specs.declared.Refusal.{Refusal}
use Rattle.lines.specs.Lines.{Line, lines_of, is_end, opens}
use Rattle.calendar.specs.Purge.{purge_of}
use Rattle.codes.specs.Places.{capacity}
use Rattle.codes.specs.Block.{Content, Read, block, wrong_at, read_block, twice_at, dated, content_in, content_at}
use Rattle.reading.specs.Placed.{placed_at}
use Rattle.reading.proofs.Placing.{placed_parts}
use Rattle.segments.specs.Search.{from_first}
use Rattle.segments.specs.Segments.{Segment, runs_to, past_purge, opened, ninth, segments_from, most}
use Rattle.bulletin.specs.Starts.{first_lines, one_or_more, segments_of}
use Rattle.bulletin.specs.Bulletin as rule
use Rattle.bulletin.specs.Bulletin.{read_bulletin}
use Rattle.segments.specs.Seen.{seen, segments_held, Sized}
use Rattle.bulletin.specs.Report.{reported, report_of}
use Rattle.segments.specs.KeptAt.{keep_each}
use Rattle.bulletin.specs.Kept.{places_of, kept_places, KeepsPlaces}
use Rattle.segments.specs.KeptBy.{places_said, places_at, kept_from, places_from, handed_on}
use Rattle.bulletin.specs.Below.{Answers}
use Rattle.segments.specs.declared.Segment as declared
use Rattle.bulletin.specs.declared.Head.{Head}
use Rattle.bulletin.specs.declared.Bulletin.{Bulletin}
use Rattle.segments.proofs.Keeping.{kept_part, kept_same}
use Rattle.bulletin.proofs.Reports.{answers_reads}

-- an answer that comes after another is accepted only after that one
pub record Then {A B : Type 0} (a : Answer A) (f : A → Answer B) (y : B) : Type 0 where
  pub value : A
  pub first : a ≡ ok value
  pub rest : f value ≡ ok y

pub then_back : {A B : Type 0} (a : Answer A) (f : A → Answer B) (y : B) → and_then a f ≡ ok y → Then a f y
unfolding and_then
then_back (ok x) f y e = record { value = x; first = refl; rest = e }
then_back (no number place) f y e = apart cc

pub ok_one : {A : Type 0} (x y : A) → ◌≡◌ {A = Answer A} (ok x) (ok y) → x ≡ y
ok_one x y e = cc

-- what comes after an accepted answer
pub by_then : {A B P : Type 0} (a : Answer A) (f : A → Answer B) (y : B) → ((x : A) → a ≡ ok x → f x ≡ ok y → P) → and_then a f ≡ ok y → P
by_then a f y go e =
    let t = then_back a f y e in
    go t.value t.first t.rest

-- ---- the content of a segment is what stands at its start
module _ (text : List ℕ) (issue : ℕ) where
  abbrev pub Says : Segment → Type 0
  Says g = content_at text issue g.start ≡ ok g.content

  runs_say : (l : Line) (past : ℕ) (c : Content) (next : List Line → Answer (List Segment)) → content_at text issue l.start ≡ ok c
      → ((ls : List Line) (gs : List Segment) → next ls ≡ ok gs → All Says gs) → (ls : List Line) (gs : List Segment) → runs_to l past c next ls ≡ ok gs → All Says gs
  runs_say l past c next e f [] gs w = apart cc
  runs_say l past c next e f (x ∷ ls) gs w =
      let t = then_back (next ls) _ gs w in
      subst (All Says) (ok_one _ gs t.rest) (all_cons e (f ls t.value t.first))

  opened_say : (next : List Line → Answer (List Segment)) → ((ls : List Line) (gs : List Segment) → next ls ≡ ok gs → All Says gs)
      → (ls : List Line) (gs : List Segment) → opened text issue next ls ≡ ok gs → All Says gs
  opened_say next f [] gs w = subst (All Says) (ok_one [] gs w) all_nil
  opened_say next f (l ∷ ls) gs w =
      let t = then_back (placed_at text issue l.start) (λ p. runs_to l (past_purge p.at l ls) p.content next (from_first is_end (l ∷ ls))) gs w in
      runs_say l (past_purge t.value.at l ls) t.value.content next (placed_parts text issue l.start t.value t.first).content f (from_first is_end (l ∷ ls)) gs t.rest

  ninth_say : (ls : List Line) (gs : List Segment) → ninth ls ≡ ok gs → All Says gs
  ninth_say [] gs w = subst (All Says) (ok_one [] gs w) all_nil
  ninth_say (l ∷ ls) gs w = apart cc

  segments_say : (n : ℕ) (ls : List Line) (gs : List Segment) → segments_from n text issue ls ≡ ok gs → All Says gs
  unfolding segments_from
  segments_say zero ls gs w = ninth_say (from_first opens ls) gs w
  segments_say (suc n) ls gs w = opened_say (segments_from n text issue) (segments_say n) (from_first opens ls) gs w

  some_say : (stop : ℕ) (gs hs : List Segment) → All Says gs → one_or_more stop gs ≡ ok hs → All Says hs
  some_say stop [] hs a w = apart cc
  some_say stop (g ∷ gs) hs a w = subst (All Says) (ok_one (g ∷ gs) hs w) a

  all_say : (lines : List Line) (gs : List Segment) → segments_of text issue lines ≡ ok gs → All Says gs
  unfolding segments_of
  all_say lines gs =
      by_then (first_lines (length text) lines) _ gs λ ls _.
      by_then (segments_from most text issue ls) _ gs λ hs h w.
      some_say (length text) hs gs (segments_say most ls hs h) w

said_last : (text : List ℕ) (b : rule.Bulletin) (issue : ℕ) (gs : List Segment) → segments_of text issue (lines_of text) ≡ ok gs → issue ≡ b.issue → gs ≡ b.segments
    → All (Says text b.issue) b.segments
said_last text b issue gs e p q = subst (λ (i : ℕ). All (Says text i) b.segments) p (subst (All (Says text issue)) q (all_say text issue (lines_of text) gs e))

pub contents_said : (text : List ℕ) (year month : ℕ) (b : rule.Bulletin) → read_bulletin text year month ≡ ok b → All (Says text b.issue) b.segments
unfolding read_bulletin
contents_said text year month b =
    by_then _ _ b λ _ _.
    by_then _ _ b λ _ _.
    by_then _ _ b λ _ _.
    by_then _ _ b λ h _.
    by_then _ _ b λ n _.
    by_then _ _ b λ issue _.
    by_then _ _ b λ s _.
    by_then _ _ b λ gs l e.
    let p = ok_one _ b e in
    said_last text b issue gs l (λ i. (p i).issue) (λ i. (p i).segments)

-- at most 120 places
dated_few : (start at : ℕ) (ps : List ℕ) (o : Option ℕ) (c : Content) → dated start at ps o ≡ ok c → length c.places ≤ capacity
dated_few start at ps None c e = apart cc
dated_few start at ps (Some t) c e =
    by (leb (length ps) capacity)
    (λ y.
    let w : ok (record { purge = t; places = ps }) ≡ ok c = rw y at e in
    let p : record { purge = t; places = ps } ≡ c = cc in
    subst (λ (k : Content). length k.places ≤ capacity) p (leb-true (length ps) capacity y))
    (λ y. let w : refused TooManyPlaces start ≡ ok c = rw y at e in apart cc)

in_few : (issue start : ℕ) (w : Option ℕ) (r : Read) (c : Content) → content_in issue start w r ≡ ok c → length c.places ≤ capacity
in_few issue start None (block ps s at) c e = dated_few start at ps (purge_of issue s) c e
in_few issue start (Some y) (block ps s at) c e = apart cc
in_few issue start w (wrong_at place) c e = apart cc

pub content_few : (text : List ℕ) (issue start : ℕ) (c : Content) → content_at text issue start ≡ ok c → length c.places ≤ capacity
unfolding content_at
content_few text issue start c e = in_few issue start (twice_at text start) (read_block text start) c e

-- ---- what the reader's answer says of the bulletin
pub record Told (text : List ℕ) (year month : ℕ) (h : Head) (gs : List declared.Segment) : Type 0 where
  pub said : rule.Bulletin
  pub read : read_bulletin text year month ≡ ok said
  pub issue : h.issue ≡ said.issue
  pub seen_are : gs ≡ map seen said.segments

pub told_by : (text : List ℕ) (year month : ℕ) (h : Head) (gs : List declared.Segment) (a : Answer rule.Bulletin) → read_bulletin text year month ≡ a
    → ok (report_of h gs) ≡ reported a → Told text year month h gs
told_by text year month h gs (ok b) e f =
    let p : report_of h gs ≡ record { heading = b.heading; identifier = b.identifier; issue = b.issue; storm = b.storm; segments = map seen b.segments } = cc in
    record { said = b; read = e; issue = λ i. (p i).issue; seen_are = λ i. (p i).segments }
told_by text year month h gs (no number place) e f = apart cc

pub refused_by : (text : List ℕ) (year month : ℕ) (r : Refusal) (a : Answer rule.Bulletin) → read_bulletin text year month ≡ a
    → refused r.reason r.place ≡ reported a → read_bulletin text year month ≡ refused r.reason r.place
refused_by text year month r (ok b) e f = apart cc
refused_by text year month r (no number place) e f =
    let n : number ≡ number_of r.reason = cc in
    let p : place ≡ r.place = cc in
    e ∙ ap₂ no n p

-- ---- the lent numbers
module _ (text : List ℕ) (issue : ℕ) (gs : List Segment) (a : All (Says text issue) gs) (ks₀ : List ℕ) where
  -- those that were kept while the bulletin was read
  own_is : kept_from text issue 0 (map seen gs) ks₀ ≡ keep_each places_of 0 gs ks₀
  own_is = kept_same seen (places_at text issue) places_of 0 gs ks₀ (λ k g e. ap places_said (all_found k a e))

  module _ (few : length gs ≤ 8) (long : length ks₀ ≡ 960) where
    -- where there is room for all, each is found again
    pub part_is : (k : ℕ) (g : Segment) → slice_get gs k ≡ Some g → take (length g.content.places) (drop (capacity * k) (keep_each places_of 0 gs ks₀)) ≡ g.content.places
    part_is k g e = kept_part places_of gs ks₀ (omega arith) k g e (content_few text issue g.start g.content (all_found k a e))

    handed_is : (ks : List ℕ) → handed_on (kept_from text issue 0 (map seen gs) ks₀) (map seen gs) ks ≡ keep_each places_of 0 gs ks
    handed_is ks =
        ap (λ (own : List ℕ). handed_on own (map seen gs) ks) own_is
        ∙ kept_same seen (places_from (keep_each places_of 0 gs ks₀)) places_of 0 gs ks (λ k g e. rw (zero-add k) (part_is k g e))

-- ---- the promise of keeping
module _ (s : List ℕ) (year month : ℕ) (ks₀ own : List ℕ) (r : Result Bulletin Refusal) (v : Answers s (reported (read_bulletin s year month)) ks₀ own r) (ks : List ℕ) where
  pub keeps_refused : (w : Refusal) → r ≡ Err w → KeepsPlaces ks ks s year month (Err w)
  keeps_refused w q =
      let f : refused w.reason w.place ≡ reported (read_bulletin s year month) = rw q at v.says in
      let e = refused_by s year month w (read_bulletin s year month) refl f in
      record { answer = rw q at (answers_reads s year month ks₀ own r v); left = sym (ap (λ (x : Answer rule.Bulletin). kept_places x ks) e) }

  module _ (b : Bulletin) (q : r ≡ Ok b) (long : length ks₀ ≡ 960) where
    told : Told s year month b.head (segments_held b.segments)
    told = told_by s year month b.head (segments_held b.segments) (read_bulletin s year month) refl (rw q at v.says)

    sized : Sized b.segments
    sized = rw q at v.sized

    few : length told.said.segments ≤ 8
    few =
        let n : length told.said.segments ≡ b.segments.count =
        sym (length-map told.said.segments seen) ∙ ap (λ (gs : List declared.Segment). length gs) (sym told.seen_are)
        ∙ length-take-le b.segments.count b.segments.held (omega (arith, sized.long, sized.few)) in
        omega (arith, sized.few)

    own_are : own ≡ kept_from s told.said.issue 0 (map seen told.said.segments) ks₀
    own_are = v.kept b q ∙ ap₂ (λ (i : ℕ) (gs : List declared.Segment). kept_from s i 0 gs ks₀) told.issue told.seen_are

    pub keeps_accepted : (d : List ℕ) → d ≡ handed_on own (segments_held b.segments) ks → KeepsPlaces ks d s year month (Ok b)
    keeps_accepted d e =
        let w : d ≡ keep_each places_of 0 told.said.segments ks =
        e ∙ ap₂ (λ (o : List ℕ) (gs : List declared.Segment). handed_on o gs ks) own_are told.seen_are
        ∙ handed_is s told.said.issue told.said.segments (contents_said s year month told.said told.read) ks₀ few long ks in
        record { answer = rw q at (answers_reads s year month ks₀ own r v); left = w ∙ sym (ap (λ (x : Answer rule.Bulletin). kept_places x ks) told.read) }
