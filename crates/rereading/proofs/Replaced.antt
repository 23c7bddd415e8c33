-- Segments whose blocks are replaced, whole lines by whole lines: the new text has as many segments, with the new contents. Assumes nothing.
use Prim.Native.Nat.{ℕ, zero, suc, ◌+◌, ◌-◌, ◌≤◌}
use native.Mathlib.Omega.{arith}
use mathlib.Core.Path.{◌≡◌, refl, sym, ap, ap₂, ◌∙◌, subst}
use mathlib.Core.Bool.{true, false}
use mathlib.Core.List.{List, [], ◌∷◌, ◌++◌, map, append_assoc}
use lib.ListN.{length, drop, take, length-append}
use lib.Seq.{drop-append_seam, take_at}
use Rattle.laws.proofs.Tests.{apart, impossible}
use Rattle.laws.proofs.Lists.{all_append, all_left, all_right, all_map, all_head}
use Rattle.laws.specs.Lists.{All, all_cons}
use Rattle.refusal.specs.Answer.{ok, and_then}
use Rattle.lines.specs.Lines.{body_of, ended_by, is_end, opens, Line, lines_at}
use Rattle.lines.specs.Spans.{part}
use Rattle.lines.specs.declared.End.{End}
use Rattle.codes.specs.Block.{Content}
use Rattle.codes.specs.Written.{in_order}
use Rattle.reading.specs.Placed.{placed_at}
use Rattle.segments.specs.Search.{from_first}
use Rattle.segments.specs.Segments.{Segment, past_purge, opened, segments_from}
use Rattle.forms.specs.Edited.{edited_from, ends_in}
use Rattle.rereading.specs.Demand.{block_text}
use Rattle.rereading.proofs.WholeLines.{joined_append, Whole, EndsWith, No, pass, pass_to, pass_all, stop}
use Rattle.rereading.proofs.Inert.{InertLine}
use Rattle.rereading.proofs.OldBlock.{past_in}
use Rattle.rereading.proofs.Fair.{Fair, wholes}
use Rattle.rereading.proofs.Alike.{Alike, both, alike_self, alike_front, alike_left, alike_right}
use Rattle.rereading.proofs.Ordered.{Ordered, no_segment_lem, next_segment}

-- ---- what a new block must be
-- the first of these lines opens a block
abbrev pub FirstOpens : List (List ℕ) → Type 0
FirstOpens [] = ⊥
FirstOpens (p ∷ ps) = opens (body_of p) ≡ true

-- from the place `at` of the text on, where these lines start, a block of n bytes is read as this content
pub record ReadAs (text : List ℕ) (issue at : ℕ) (qs : List (List ℕ)) (c : Content) (n : ℕ) : Type 0 where
  pub purge_at_lem : ℕ
  pub placed : placed_at text issue at ≡ ok (record { content = c; at = purge_at_lem })
  pub past : past_in purge_at_lem (lines_at at qs) ≡ at + n

-- lines that pass refusal 2, are inert, all end so, open a block and, wherever they stand and whatever lines follow, are read as this content, to the last of
-- them
pub record NewBlock (issue : ℕ) (end : End) (c : Content) (b : List ℕ) : Type 0 where
  pub lines : List (List ℕ)
  pub are : in_order lines ≡ b
  pub fair : All Fair lines
  pub inert : All InertLine lines
  pub ended : All (EndsWith end) lines
  pub first : FirstOpens lines
  pub back : (text front : List ℕ) (rest : List (List ℕ)) → All Whole rest → text ≡ front ++ in_order (lines ++ rest)
      → ReadAs text issue (length front) (lines ++ rest) c (length b)

pub data NewBlocks (issue : ℕ) : List End → List Content → List (List ℕ) → Type 0 where
  no_more : NewBlocks issue [] [] []
  one_more : {end : End} {ends : List End} {c : Content} {cs : List Content} {b : List ℕ} {bs : List (List ℕ)} → NewBlock issue end c b
      → NewBlocks issue ends cs bs → NewBlocks issue (end ∷ ends) (c ∷ cs) (b ∷ bs)

-- ---- what replacing gives
-- at most n segments with these contents, whose blocks are these, with first lines that ended so
pub record Listed (n : ℕ) (text : List ℕ) (issue : ℕ) (ls : List Line) (ends : List End) (cs : List Content) (blocks : List (List ℕ)) : Type 0 where
  pub segments : List Segment
  pub listed : segments_from n text issue ls ≡ ok segments
  pub ended : ends_in segments ≡ ends
  pub contents : map (λ (g : Segment). g.content) segments ≡ cs
  pub stand : map (block_text text) segments ≡ blocks

-- The lines ps stand in the text from the place `at` on, to its end, and have the segments gs. With these blocks in place of theirs they are other lines,
-- alike but for inert ones; a text that ends with those has segments with the new contents there.
-- `cut` is for every way to part the text before ps: the next segment is cut from behind the block before it, while its lines start behind that one's `$$`.
pub record Replaced (text : List ℕ) (issue n at : ℕ) (ps : List (List ℕ)) (gs : List Segment) (ends : List End) (cs : List Content) (blocks : List (List ℕ)) : Type 0 where
  pub lines : List (List ℕ)
  pub fair : All Fair lines
  pub alike : Alike ps lines
  pub first : FirstOpens ps → FirstOpens lines
  pub ordered : (k : ℕ) → k ≤ at → Ordered k gs
  pub cut : (front mid : List ℕ) → text ≡ front ++ (mid ++ in_order ps) → length front + length mid ≡ at
      → edited_from (length front) text gs blocks ≡ mid ++ in_order lines
  pub back : (text' front : List ℕ) → text' ≡ front ++ in_order lines → Listed n text' issue (lines_at (length front) lines) ends cs blocks

-- ---- no segment
module _ (text : List ℕ) (issue : ℕ) where
  segments_none : (n at : ℕ) {ps : List (List ℕ)} → All (No opens) ps → segments_from n text issue (lines_at at ps) ≡ ok []
  unfolding segments_from
  segments_none zero at a = rw (pass_all opens at a)
  segments_none (suc n) at a = rw (pass_all opens at a)

pub replaced_none : (text : List ℕ) (issue n at : ℕ) {ps : List (List ℕ)} → All Fair ps → All (No opens) ps → Replaced text issue n at ps [] [] [] []
unfolding edited_from
replaced_none text issue n at {ps} f a =
    record {
      lines = ps;
      fair = f;
      alike = alike_self ps;
      first = λ o. o;
      ordered = λ k h. no_segment_lem;
      cut = λ front mid e h. ap (drop (length front)) e ∙ drop-append_seam front (mid ++ in_order ps);
      back = λ text' front e. record { segments = []; listed = segments_none text' issue n (length front) a; ended = refl; contents = refl; stand = refl };
    }

-- ---- one segment more
-- what stands between two places, by what stands before it
part_is : (text front mid rest : List ℕ) (to : ℕ) → text ≡ front ++ (mid ++ rest) → to ≡ length front + length mid → part text (length front) to ≡ mid
part_is text front mid rest to e t =
    let k : length mid ≡ to - length front = omega arith in
    ap (λ (x : List ℕ). take (to - length front) (drop (length front) x)) e
    ∙ ap (take (to - length front)) (drop-append_seam front (mid ++ rest))
    ∙ take_at mid rest (to - length front) k

pub inert_no_end : {ws : List (List ℕ)} → All InertLine ws → All (No is_end) ws
inert_no_end a = all_map (λ w i. i.not_end) a

-- lines that do not open a block are passed over
listed_from : (n : ℕ) (text : List ℕ) (issue : ℕ) (ls ms : List Line) (ends : List End) (cs : List Content) (blocks : List (List ℕ))
    → from_first opens ls ≡ from_first opens ms → Listed (suc n) text issue ms ends cs blocks → Listed (suc n) text issue ls ends cs blocks
unfolding segments_from
listed_from n text issue ls ms ends cs blocks e l =
    record {
      segments = l.segments;
      listed = ap (opened text issue (segments_from n text issue)) e ∙ l.listed;
      ended = l.ended;
      contents = l.contents;
      stand = l.stand;
    }

-- the segment that opens here is read as this content, its block is b, with lines that ended so, and it ends at the line d
opened_first : (n : ℕ) (text : List ℕ) (issue at k : ℕ) (ws xs : List (List ℕ)) (d : List ℕ) (ys : List (List ℕ)) (end : End) (ends : List End)
    (c : Content) (cs : List Content) (b : List ℕ) (blocks : List (List ℕ)) → FirstOpens ws → All (EndsWith end) ws
    → ReadAs text issue at (ws ++ xs) c (length b) → part text at (at + length b) ≡ b → from_first is_end (lines_at at (ws ++ xs)) ≡ lines_at k (d ∷ ys)
    → Listed n text issue (lines_at (k + length d) ys) ends cs blocks → Listed (suc n) text issue (lines_at at (ws ++ xs)) (end ∷ ends) (c ∷ cs) (b ∷ blocks)
unfolding segments_from lines_at and_then
opened_first n text issue at k [] xs d ys end ends c cs b blocks o h p q f l = impossible o
opened_first n text issue at k (w ∷ ws) xs d ys end ends c cs b blocks o h p q f l =
    let line : Line = record { start = at; body = body_of w; next = at + length w; ended = ended_by w } in
    let past : ℕ = past_purge p.purge_at_lem line (lines_at (at + length w) (ws ++ xs)) in
    record {
      segments = record { start = at; block = past; past = k + length d; ended = ended_by w; content = c } ∷ l.segments;
      listed = ap (opened text issue (segments_from n text issue)) (stop opens at w (ws ++ xs) o) ∙ rw (p.placed, f, l.listed);
      ended = ap₂ (λ (x : End) (y : List End). x ∷ y) (all_head h) l.ended;
      contents = ap (λ (x : List Content). c ∷ x) l.contents;
      stand = ap₂ (λ (x : List ℕ) (y : List (List ℕ)). x ∷ y) (ap (λ (j : ℕ). part text at j) p.past ∙ q) l.stand;
    }

module _ (text : List ℕ) (issue n : ℕ) (front : List ℕ) (fs bs ms : List (List ℕ)) (d : List ℕ) (after : List (List ℕ)) where
  -- the lines up to the segment, its block, and its other lines with the one that ends it
  abbrev old : List (List ℕ)
  old = fs ++ (bs ++ (ms ++ (d ∷ after)))

  abbrev start : ℕ
  start = length front + length (in_order fs)

  abbrev behind : ℕ
  behind = start + length (in_order bs)

  abbrev next : ℕ
  next = behind + length (in_order ms ++ d)

  module _ (g : Segment) (gs : List Segment) (end : End) (ends : List End) (c : Content) (cs : List Content) (b : List ℕ) (blocks : List (List ℕ))
      (w : NewBlock issue end c b) (r : Replaced text issue n next after gs ends cs blocks) where
    abbrev new : List (List ℕ)
    new = fs ++ (w.lines ++ (ms ++ (d ∷ r.lines)))

    -- the text around the new block
    new_cut : g.start ≡ start → g.block ≡ behind → (front₀ mid : List ℕ) → text ≡ front₀ ++ (mid ++ in_order old) → length front₀ + length mid ≡ length front
        → edited_from (length front₀) text (g ∷ gs) (b ∷ blocks) ≡ mid ++ in_order new
    unfolding edited_from in_order
    new_cut es eb front₀ mid e h =
        let mid₁ : List ℕ = mid ++ in_order fs in
        let a : text ≡ front₀ ++ (mid₁ ++ in_order (bs ++ (ms ++ (d ∷ after)))) = e ∙ simp (joined_append, append_assoc) in
        let p : part text (length front₀) g.start ≡ mid₁ = part_is text front₀ mid₁ _ g.start a (omega (arith, es, length-append mid (in_order fs))) in
        let front₂ : List ℕ = front₀ ++ (mid₁ ++ in_order bs) in
        let mid₂ : List ℕ = in_order ms ++ d in
        let a₂ : text ≡ front₂ ++ (mid₂ ++ in_order after) = e ∙ simp (joined_append, append_assoc) in
        let l₂ : length front₂ ≡ behind =
        omega (arith, length-append front₀ (mid₁ ++ in_order bs), length-append mid₁ (in_order bs), length-append mid (in_order fs)) in
        let q : edited_from g.block text gs blocks ≡ mid₂ ++ in_order r.lines =
        ap (λ (k : ℕ). edited_from k text gs blocks) (eb ∙ sym l₂) ∙ r.cut front₂ mid₂ a₂ (omega arith) in
        ap (λ (x : List ℕ). x ++ (b ++ edited_from g.block text gs blocks)) p
        ∙ ap (λ (x : List ℕ). mid₁ ++ (b ++ x)) q
        ∙ ap (λ (x : List ℕ). mid₁ ++ (x ++ (mid₂ ++ in_order r.lines))) (sym w.are)
        ∙ simp (joined_append, append_assoc)

    -- the new text's segments
    new_back : All Fair (ms ++ (d ∷ r.lines)) → All (No opens) fs → All (No is_end) ms → is_end (body_of d) ≡ true → (text' front' : List ℕ)
        → text' ≡ front' ++ in_order new → Listed (suc n) text' issue (lines_at (length front') new) (end ∷ ends) (c ∷ cs) (b ∷ blocks)
    unfolding in_order
    new_back fair nf nm nd text' front' e =
        let tail : List (List ℕ) = ms ++ (d ∷ r.lines) in
        let front₁ : List ℕ = front' ++ in_order fs in
        let l₁ : length front₁ ≡ length front' + length (in_order fs) = length-append front' (in_order fs) in
        let here : text' ≡ front₁ ++ in_order (w.lines ++ tail) = e ∙ simp (joined_append, append_assoc) in
        let a₁ : text' ≡ front₁ ++ (b ++ in_order tail) = e ∙ simp (joined_append, append_assoc, w.are) in
        let k : ℕ = length front₁ + length (in_order w.lines) + length (in_order ms) in
        let last : from_first is_end (lines_at (length front₁) (w.lines ++ tail)) ≡ lines_at k (d ∷ r.lines) =
        pass is_end (length front₁) (inert_no_end w.inert) tail
        ∙ pass is_end (length front₁ + length (in_order w.lines)) nm (d ∷ r.lines)
        ∙ stop is_end k d r.lines nd in
        let mid₂ : List ℕ = in_order ms ++ d in
        let front₂ : List ℕ = front₁ ++ (in_order w.lines ++ mid₂) in
        let l₂ : length front₂ ≡ k + length d =
        omega (arith, length-append front₁ (in_order w.lines ++ mid₂), length-append (in_order w.lines) mid₂, length-append (in_order ms) d) in
        let a₂ : text' ≡ front₂ ++ in_order r.lines = e ∙ simp (joined_append, append_assoc) in
        let rest : Listed n text' issue (lines_at (k + length d) r.lines) ends cs blocks =
        subst (λ (j : ℕ). Listed n text' issue (lines_at j r.lines) ends cs blocks) l₂ (r.back text' front₂ a₂) in
        listed_from n text' issue (lines_at (length front') new) (lines_at (length front₁) (w.lines ++ tail)) (end ∷ ends) (c ∷ cs) (b ∷ blocks)
        (pass_to opens (length front') (length front₁) nf (w.lines ++ tail) l₁)
        (opened_first n text' issue (length front₁) k w.lines tail d r.lines end ends c cs b blocks w.first w.ended (w.back text' front₁ tail (wholes fair) here)
        (part_is text' front₁ b (in_order tail) (length front₁ + length b) a₁ refl) last rest)

    -- where a line that opens a block stands in front, a new block does
    new_first : (fs' : List (List ℕ)) → All (No opens) fs' → FirstOpens (fs' ++ (bs ++ (ms ++ (d ∷ after))))
        → FirstOpens (fs' ++ (w.lines ++ (ms ++ (d ∷ r.lines))))
    new_first [] nf o = lines_first w.lines w.first
      where
        lines_first : (ws : List (List ℕ)) → FirstOpens ws → FirstOpens (ws ++ (ms ++ (d ∷ r.lines)))
        lines_first [] o = impossible o
        lines_first (x ∷ ws) o = o
    new_first (f ∷ fs') (all_cons h hs) o = let z : false ≡ true = sym h ∙ o in apart cc

    pub replaced_more : All Fair old → All (No opens) fs → All InertLine bs → All (No is_end) ms → is_end (body_of d) ≡ true
        → g.start ≡ start → g.block ≡ behind → Replaced text issue (suc n) (length front) old (g ∷ gs) (end ∷ ends) (c ∷ cs) (b ∷ blocks)
    replaced_more fair nf ib nm nd es eb =
        record {
          lines = new;
          fair = all_append (all_left fs _ fair) (all_append w.fair tail_fair);
          alike = alike_front fs (alike_left ib (alike_right w.inert (alike_front ms (both r.alike))));
          first = new_first fs nf;
          ordered = λ k h. next_segment {at = k} {g = g} (omega (arith, es)) (omega (arith, es, eb)) (r.ordered g.block (omega (arith, eb)));
          cut = new_cut es eb;
          back = new_back tail_fair nf nm nd;
        }
      where
        kept : All Fair (ms ++ (d ∷ after))
        kept = all_right bs _ (all_right fs _ fair)

        tail_fair : All Fair (ms ++ (d ∷ r.lines))
        tail_fair = all_append (all_left ms _ kept) (all_cons (all_head (all_right ms _ kept)) r.fair)
