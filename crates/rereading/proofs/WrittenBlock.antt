-- What is written of a set and a purge minute may stand in place of another block: its first line opens one, and it is read to its last. Assumes nothing.
use Prim.Native.Nat.{ℕ, ◌+◌, ◌≤◌, ◌<◌}
use native.Mathlib.Omega.{arith}
use mathlib.Core.Path.{◌≡◌, refl, sym, ap, ◌∙◌, subst}
use mathlib.Core.Bool.{true}
use mathlib.Core.List.{List, [], ◌∷◌, ◌++◌, append-nil}
use Rattle.std.specs.Prelude.{Option, None, Some}
use lib.ListN.{length, drop, length-append}
use lib.Seq.{drop-append_seam}
use borrow.Author.Tests.{le-leb}
use Rattle.laws.proofs.Tests.{by, apart, impossible, and_left, and_right}
use Rattle.laws.proofs.Lists.{all_append}
use Rattle.laws.specs.Lists.{All, all_nil, all_cons}
use Rattle.refusal.specs.declared.Reason.TheVariants.{OutOfRange}
use Rattle.refusal.specs.Answer.{ok, refused, and_then}
use Rattle.lines.specs.Bytes.{lf}
use Rattle.lines.specs.Lines.{end_bytes, ends_line, ended_by, pieces, body_of, opens, Line, lines_at, lines_from}
use Rattle.lines.specs.declared.End.{End}
use Rattle.calendar.specs.Calendar.{is_time, date_of}
use Rattle.calendar.specs.declared.Date.{Date}
use Rattle.calendar.specs.Purge.{is_purge, purge_of}
use Rattle.calendar.specs.declared.Stamp.{Stamp}
use Rattle.calendar.proofs.Laws.{date_time, purge_own}
use Rattle.codes.specs.Places.{capacity, Ascending, is_set}
use Rattle.codes.specs.Elements.{Element, null, elements_at, elements_from, elements_of_lines, purge, wrong}
use Rattle.codes.specs.Block.{Content, block, insert_covered, read_from, read_block, twice_from, twice_at, content_at}
use Rattle.codes.specs.Written.{runs_of, spans_of, block_elements, wrapped, in_order, written}
use Rattle.codes.proofs.Sets.{set_true}
use Rattle.codes.proofs.Turns.{read_covers, read_purge_lem}
use Rattle.reading.specs.Placed.{placed_at}
use Rattle.writing.specs.Write.{dated_block, written_block}
use Rattle.roundtrip.proofs.Split.{ended_lines}
use Rattle.roundtrip.proofs.Runs.{spans_fine, words_spans, Reads, stops, goes}
use Rattle.roundtrip.proofs.Round.{written_reads, written_once}
use Rattle.roundtrip.proofs.Fit.{FitLine, short_spans, rendered_fit}
use Rattle.roundtrip.proofs.RoundTrip.{written_opens}
use Rattle.bulletin.proofs.Saying.{ok_one}
use Rattle.blocks.specs.Block.{flat}
use Rattle.blocks.specs.Content.{is_content}
use Rattle.forms.specs.Edited.{written_forms}
use Rattle.rereading.proofs.WholeLines.{Whole, pieces_joined, joined_append, EndsWith}
use Rattle.rereading.proofs.Inert.{InertLine, said_front, front_long}
use Rattle.rereading.proofs.OldBlock.{past_in, past_here, past_later}
use Rattle.rereading.proofs.Fair.{Fair}
use Rattle.rereading.proofs.Replaced.{FirstOpens, ReadAs, NewBlock, NewBlocks, no_more, one_more}
use Rattle.rereading.proofs.WrittenLines.{Lined, elements_in, wrapped_all, lined_elements, ended_ends, ended_whole, ended_inert, ended_fair, ended_joined, spans_lined}

-- ---- the lines are read to the block, and the purge stands in the last of them
module _ (end : End) (stop : ℕ) (ps : List ℕ) (s : Stamp) where
  -- reading goes on behind a line whose elements others follow
  record Passed (last : Option ℕ) (got : List ℕ) (at : ℕ) (l : List (List ℕ)) (after : List Element) (more : List (List ℕ)) : Type 0 where
    under : Option ℕ
    so_far : List ℕ
    reads : read_from stop last got (elements_at at l ++ after) ≡ read_from stop under so_far after
    left : Reads s ps under so_far more

  abbrev element : ℕ → List ℕ → List (List ℕ) → Element
  element at e es = record { at = at; bytes = e; last = null es }

  passed : (l : List (List ℕ)) (at : ℕ) (after : List Element) (m : List ℕ) (more : List (List ℕ)) (last : Option ℕ) (got : List ℕ)
      → Reads s ps last got (l ++ (m ∷ more)) → Passed last got at l after (m ∷ more)
  unfolding elements_at
  passed [] at after m more last got r = record { under = last; so_far = got; reads = refl; left = r }
  passed (e ∷ []) at after m more last got (goes p n k a r) =
      record { under = Some p; so_far = insert_covered p n k got; reads = read_covers stop last got (element at e []) after p n k a; left = r }
  passed (e ∷ (x ∷ l)) at after m more last got (goes p n k a r) =
      let i = passed (x ∷ l) (at + length e) after m more (Some p) (insert_covered p n k got) r in
      record {
        under = i.under;
        so_far = i.so_far;
        reads = read_covers stop last got (element at e (x ∷ l)) (elements_at (at + length e) (x ∷ l) ++ after) p n k a ∙ i.reads;
        left = i.left;
      }

  -- and stops in the line that has the last one
  record Stopped (last : Option ℕ) (got : List ℕ) (at : ℕ) (l : List (List ℕ)) (after : List Element) : Type 0 where
    purge_at_lem : ℕ
    reads : read_from stop last got (elements_at at l ++ after) ≡ block ps s purge_at_lem
    low : at ≤ purge_at_lem
    high : purge_at_lem < at + length (in_order l)

  stopped : {last : Option ℕ} {got : List ℕ} {l : List (List ℕ)} → Reads s ps last got l → (at : ℕ) (after : List Element) → Stopped last got at l after
  unfolding elements_at in_order
  stopped {last} {got} (stops {e} a q) at after =
      let h : 1 ≤ length e = front_long e (said_front last e (λ w. let v : wrong ≡ purge s = sym w ∙ a in apart cc)) in
      record {
        purge_at_lem = at;
        reads = read_purge_lem stop last got (element at e []) after s a ∙ ap (λ (y : List ℕ). block y s at) q;
        low = omega arith;
        high = omega (arith, length-append e []);
      }
  stopped {last} {got} (goes {e} {es} p n k a r) at after =
      let i = stopped r (at + length e) after in
      record {
        purge_at_lem = i.purge_at_lem;
        reads = read_covers stop last got (element at e es) (elements_at (at + length e) es ++ after) p n k a ∙ i.reads;
        low = omega (arith, i.low);
        high = omega (arith, i.high, length-append e (in_order es));
      }

  -- of all lines
  record Ending (last : Option ℕ) (got : List ℕ) (at : ℕ) (ls : List (List (List ℕ))) (rest : List (List ℕ)) : Type 0 where
    purge_at_lem : ℕ
    reads : read_from stop last got (elements_of_lines (lines_at at (ended_lines end ls ++ rest))) ≡ block ps s purge_at_lem
    low : at ≤ purge_at_lem
    past : past_in purge_at_lem (lines_at at (ended_lines end ls ++ rest)) ≡ at + length (in_order (ended_lines end ls))

  not_lined : Lined [] → ⊥
  not_lined l = elim l [ ]

  ending : (l : List (List ℕ)) (ls : List (List (List ℕ))) → All Lined (l ∷ ls) → (last : Option ℕ) (got : List ℕ) → Reads s ps last got (elements_in (l ∷ ls))
      → (at : ℕ) (rest : List (List ℕ)) → Ending last got at (l ∷ ls) rest
  unfolding elements_of_lines lines_at ended_lines in_order flat
  ending l [] (all_cons w all_nil) last got r at rest =
      let p : List ℕ = in_order l ++ end_bytes end in
      let after : List Element = elements_of_lines (lines_at (at + length p) rest) in
      let i = stopped (subst (Reads s ps last got) (append-nil l) r) at after in
      record {
        purge_at_lem = i.purge_at_lem;
        reads = ap (λ (x : List Element). read_from stop last got (x ++ after)) (lined_elements end w at) ∙ i.reads;
        low = i.low;
        past = past_here i.purge_at_lem at p rest (omega (arith, i.high, length-append (in_order l) (end_bytes end))) ∙ omega (arith, length-append p []);
      }
  ending l ([] ∷ ls) (all_cons w (all_cons v ws)) last got r at rest = absurd (not_lined v)
  ending l ((e ∷ es) ∷ ls) (all_cons w (all_cons v ws)) last got r at rest =
      let p : List ℕ = in_order l ++ end_bytes end in
      let q : List ℕ = in_order (e ∷ es) ++ end_bytes end in
      let qs : List (List ℕ) = ended_lines end ls ++ rest in
      let after : List Element = elements_of_lines (lines_at (at + length p) (q ∷ qs)) in
      let i = passed l at after e (es ++ elements_in ls) last got r in
      let j = ending (e ∷ es) ls (all_cons v ws) i.under i.so_far i.left (at + length p) rest in
      record {
        purge_at_lem = j.purge_at_lem;
        reads = ap (λ (x : List Element). read_from stop last got (x ++ after)) (lined_elements end w at) ∙ i.reads ∙ j.reads;
        low = omega (arith, j.low);
        past = past_later j.purge_at_lem at p q qs j.low ∙ j.past ∙ omega (arith, length-append p (in_order (ended_lines end ((e ∷ es) ∷ ls))));
      }

-- ---- the first line opens a block
first_of : (ws : List (List ℕ)) (l : Line) (ls : List Line) → lines_at 0 ws ≡ l ∷ ls → opens l.body ≡ true → FirstOpens ws
unfolding lines_at
first_of [] l ls e o = apart cc
first_of (w ∷ ws) l ls e o =
    let same : record { start = 0; body = body_of w; next = 0 + length w; ended = ended_by w } ≡ l = cc in
    ap (λ (m : Line). opens m.body) same ∙ o

-- ---- the written block
-- its lines
written_lines : End → List ℕ → Stamp → List (List ℕ)
written_lines end ps s = ended_lines end (wrapped (block_elements ps s))

module _ (end : End) (so : ends_line end ≡ true) (s : Stamp) (t : is_time s ≡ true) where
  written_lined : {ps : List ℕ} → Ascending 0 ps → All Lined (wrapped (block_elements ps s))
  unfolding block_elements
  written_lined up = spans_lined s t (spans_fine up)

  written_joined : (ps : List ℕ) → in_order (written_lines end ps s) ≡ written end ps s
  unfolding written_lines written
  written_joined ps = ended_joined end (wrapped (block_elements ps s))

  written_whole : {ps : List ℕ} → Ascending 0 ps → All Whole (written_lines end ps s)
  unfolding written_lines
  written_whole up = ended_whole end so (written_lined up)

  written_pieces : (ps : List ℕ) → Ascending 0 ps → pieces lf (written end ps s) ≡ written_lines end ps s
  written_pieces ps up = ap (pieces lf) (sym (written_joined ps)) ∙ pieces_joined (written_whole up)

  written_inert : {ps : List ℕ} → Ascending 0 ps → All InertLine (written_lines end ps s)
  unfolding written_lines
  written_inert up = ended_inert end (written_lined up)

  written_ends : {ps : List ℕ} → Ascending 0 ps → All (EndsWith end) (written_lines end ps s)
  unfolding written_lines
  written_ends up = ended_ends end (written_lined up)

  written_fit : (ps : List ℕ) → All FitLine (lines_from 0 (written end ps s))
  unfolding written block_elements
  written_fit ps = rendered_fit end so 0 (words_spans s None (spans_of (runs_of ps))) (short_spans s None (spans_of (runs_of ps)))

  written_fair : {ps : List ℕ} → Ascending 0 ps → All Fair (written_lines end ps s)
  unfolding written_lines
  written_fair {ps} up = ended_fair end so 0 (written_lined up) (subst (λ (x : List (List ℕ)). All FitLine (lines_at 0 x)) (written_pieces ps up) (written_fit ps))

  written_first : (ps : List ℕ) → Ascending 0 ps → 1 ≤ length ps → FirstOpens (written_lines end ps s)
  written_first [] up h = impossible (omega arith)
  written_first (p ∷ ps) up h =
      let o = written_opens end so 0 p ps [] s up in
      let e : pieces lf (written end (p ∷ ps) s ++ []) ≡ written_lines end (p ∷ ps) s = ap (pieces lf) (append-nil (written end (p ∷ ps) s)) ∙ written_pieces (p ∷ ps) up in
      first_of (written_lines end (p ∷ ps) s) o.line o.lines (ap (lines_at 0) (sym e) ∙ o.are) o.first

  -- wherever it stands, it is read back, to its last line
  module _ (text front : List ℕ) (rest : List (List ℕ)) (ws : All Whole rest) (issue minute : ℕ) (ps : List ℕ) (up : Ascending 0 ps)
      (e : text ≡ front ++ in_order (written_lines end ps s ++ rest)) where
    lines_there : pieces lf (drop (length front) text) ≡ written_lines end ps s ++ rest
    lines_there =
        ap (λ (x : List ℕ). pieces lf (drop (length front) x)) e
        ∙ ap (pieces lf) (drop-append_seam front (in_order (written_lines end ps s ++ rest)))
        ∙ pieces_joined (all_append (written_whole up) ws)

    there : Ending end (length text) ps s None [] (length front) (wrapped (block_elements ps s)) rest
    there =
        ending end (length text) ps s _ _ (written_lined up) None []
        (subst (Reads s ps None []) (sym (wrapped_all (block_elements ps s))) (written_reads ps s up t)) (length front) rest

    read_there : read_block text (length front) ≡ block ps s there.purge_at_lem
    unfolding read_block written_lines
    read_there = ap (λ (x : List (List ℕ)). read_from (length text) None [] (elements_of_lines (lines_at (length front) x))) lines_there ∙ there.reads

    once_there : twice_at text (length front) ≡ None
    unfolding twice_at
    once_there =
        let q : drop (length front) text ≡ written end ps s ++ in_order rest =
        ap (drop (length front)) e
        ∙ drop-append_seam front (in_order (written_lines end ps s ++ rest))
        ∙ joined_append (written_lines end ps s) rest
        ∙ ap (λ (x : List ℕ). x ++ in_order rest) (written_joined ps) in
        ap (λ (x : List ℕ). twice_from None [] (elements_from (length front) x)) q ∙ written_once end so (length front) ps (in_order rest) s up t

    written_back_lem : length ps ≤ capacity → purge_of issue s ≡ Some minute
        → ReadAs text issue (length front) (written_lines end ps s ++ rest) (record { purge = minute; places = ps }) (length (written end ps s))
    unfolding placed_at content_at and_then written_lines
    written_back_lem few given =
        record {
          purge_at_lem = there.purge_at_lem;
          placed = rw (read_there, once_there, given, le-leb (length ps) capacity few);
          past = there.past ∙ ap (λ (x : List ℕ). length front + length x) (written_joined ps);
        }

-- ---- the book's written forms
-- the block of a content, its lines ending so
record Writes (issue : ℕ) (end : End) (c : Content) : Type 0 where
  block : List ℕ
  given : written_block end c.places c.purge ≡ ok block
  new : NewBlock issue end c block

block_given_lem : (end : End) (ps : List ℕ) (t : ℕ) (d : Date) → is_set ps ≡ true → date_of t ≡ Some d → written_block end ps t ≡ ok (written end ps d.stamp)
unfolding written_block
block_given_lem end ps t d e f = rw (e, f)

-- whatever the writer gives is whole lines that end so
pub record GivenLines (end : End) (b : List ℕ) : Type 0 where
  pub lines : List (List ℕ)
  pub are : in_order lines ≡ b
  pub whole : All Whole lines
  pub ended : All (EndsWith end) lines

pub given_lines : (end : End) → ends_line end ≡ true → (ps : List ℕ) (minute : ℕ) (b : List ℕ) → written_block end ps minute ≡ ok b → GivenLines end b
unfolding written_block
given_lines end so ps minute b e =
    by (is_set ps) (λ q. dated q (date_of minute) refl (rw q at e)) (λ q. let z : refused OutOfRange 0 ≡ ok b = rw q at e in apart cc)
  where
    dated : is_set ps ≡ true → (o : Option Date) → date_of minute ≡ o → dated_block end ps o ≡ ok b → GivenLines end b
    dated q None f g = apart cc
    dated q (Some d) f g =
        let s : Stamp = d.stamp in
        let t : is_time s ≡ true = date_time d minute f in
        let v = set_true ps q in
        record {
          lines = written_lines end ps s;
          are = written_joined end so s t ps ∙ ok_one _ b g;
          whole = written_whole end so s t v.up;
          ended = written_ends end so s t v.up;
        }

writes : (issue : ℕ) (end : End) (c : Content) → ends_line end ≡ true → is_content issue c ≡ true → Writes issue end c
unfolding is_content
writes issue end c so e =
    let ps : List ℕ = c.places in
    let set : is_set ps ≡ true = and_left (is_set ps) (is_purge issue c.purge) e in
    let v = set_true ps set in
    let d = purge_own issue c.purge (and_right (is_set ps) (is_purge issue c.purge) e) in
    let s : Stamp = d.date.stamp in
    record {
      block = written end ps s;
      given = block_given_lem end ps c.purge d.date set d.dated;
      new =
          record {
            lines = written_lines end ps s;
            are = written_joined end so s d.time ps;
            fair = written_fair end so s d.time v.up;
            inert = written_inert end so s d.time v.up;
            ended = written_ends end so s d.time v.up;
            first = written_first end so s d.time ps v.up v.one;
            back = λ text front rest w t. written_back_lem end so s d.time text front rest w issue c.purge ps v.up t v.few d.given;
          };
    }

-- of all contents, with an end for each: the writer's 24 is never met
pub record AllWritten (issue : ℕ) (ends : List End) (cs : List Content) : Type 0 where
  pub blocks : List (List ℕ)
  pub given : written_forms ends cs ≡ ok blocks
  pub new : NewBlocks issue ends cs blocks

pub all_written : (issue : ℕ) {ends : List End} {cs : List Content} → All (λ (end : End). ends_line end ≡ true) ends
    → All (λ (c : Content). is_content issue c ≡ true) cs → length cs ≡ length ends → AllWritten issue ends cs
unfolding written_forms and_then
all_written issue all_nil all_nil l = record { blocks = []; given = refl; new = no_more }
all_written issue all_nil (all_cons e es) l = impossible (omega arith)
all_written issue (all_cons so sos) all_nil l = impossible (omega arith)
all_written issue (all_cons {x = end} so sos) (all_cons {x = c} e es) l =
    let w = writes issue end c so e in
    let r = all_written issue sos es (omega arith) in
    record { blocks = w.block ∷ r.blocks; given = rw (w.given, r.given); new = one_more w.new r.new }
