-- The laws of reading and writing a block: the round trip of a stamp, what is addressed, what is accepted, how the written form stands in a text. Assumes nothing.
use Prim.Native.Nat.{ℕ, ◌≤◌}
use mathlib.Core.Path.{◌≡◌, refl, sym, ap, ap₂, ◌∙◌, subst}
use mathlib.Core.Bool.{true}
use mathlib.Core.List.Memᴰ
use mathlib.Core.List.{List, [], ◌∷◌, ◌++◌, Memᴰ}
use Rattle.std.specs.Prelude.{Option, None, Some}
use mathlib.Core.Logic.{⊎_elim}
use lib.ListN.{length, drop}
use lib.Seq.{drop-append_seam}
use lib.Dec.{leb}
use borrow.Author.Tests.{le-leb, leb-true}
use Rattle.laws.proofs.Tests.{by, apart}
use Rattle.laws.proofs.Lists.{all_at}
use Rattle.refusal.specs.declared.Reason.TheVariants.{TooManyPlaces}
use Rattle.refusal.specs.Answer.{ok, refused}
use Rattle.lines.specs.Lines.{Line, lines_from, ends_line}
use Rattle.lines.specs.declared.End.{End}
use Rattle.calendar.specs.Calendar.{is_time}
use Rattle.calendar.specs.Purge.{purge_of}
use Rattle.calendar.proofs.Laws.{purge_time}
use Rattle.calendar.specs.declared.Stamp.{Stamp}
use Rattle.codes.specs.Places.{Ascending, nil, capacity}
use Rattle.codes.specs.Elements.{elements_from}
use Rattle.codes.specs.Block.{Read, block, wrong_at, read_at, read_block, twice_from, twice_at, Covered, Content, dated, content_in, content_at}
use Rattle.codes.specs.Written.{runs_of, spans_of, block_elements, written}
use Rattle.roundtrip.specs.Round.{Addressed}
use Rattle.roundtrip.proofs.Runs.{places_of, spans_places, spans_fine, words_spans}
use Rattle.roundtrip.proofs.Fit.{short_spans, rendered_fit}
use Rattle.roundtrip.proofs.Covered.{Told, told, covered_in, in_covered, told_ascending}
use Rattle.roundtrip.proofs.Opens.{Opening, spans_open}
use Rattle.roundtrip.proofs.Round.{read_starts, written_starts, written_reads, written_once}

-- ---- the round trip, for each of the three line ends
module _ (end : End) (so : ends_line end ≡ true) where
  -- What is written of strictly ascending places and of a DDHHMM in its ranges is read back as just these, wherever it stands and whatever follows it; z is the place of its purge element.
  pub round_trip : (stop at : ℕ) (ps rest : List ℕ) (s : Stamp) → Ascending 0 ps → is_time s ≡ true → (z : ℕ) × (read_at stop at (written end ps s ++ rest) ≡ block ps s z)
  round_trip stop at ps rest s a t = read_starts stop (written_starts end so at ps rest s) (written_reads ps s a t)

  -- A segment of at most 120 places is read back from its written block, with the purge minute that its DDHHMM gives under the issue, from any place of a text.
  pub content_round_trip : (front ps rest : List ℕ) (issue t : ℕ) (s : Stamp) → Ascending 0 ps → length ps ≤ capacity → purge_of issue s ≡ Some t
      → content_at (front ++ (written end ps s ++ rest)) issue (length front) ≡ ok (record { purge = t; places = ps })
  unfolding content_at read_block twice_at
  content_round_trip front ps rest issue t s a few e =
      let text : List ℕ = front ++ (written end ps s ++ rest) in
      let r = round_trip (length text) (length front) ps rest s a (purge_time issue s t e) in
      ap (λ (x : List ℕ). content_in issue (length front) (twice_from None [] (elements_from (length front) x)) (read_at (length text) (length front) x))
      (drop-append_seam front (written end ps s ++ rest))
      ∙ ap₂ (content_in issue (length front)) (written_once end so (length front) ps rest s a (purge_time issue s t e)) r.1
      ∙ rw (e, le-leb (length ps) capacity few)

-- ---- "A place is addressed exactly if some element covers it"
pub covered : (stop at : ℕ) (text ps : List ℕ) (s : Stamp) (z : ℕ) → read_at stop at text ≡ block ps s z → Addressed ps at text
covered stop at text ps s z e =
    let t : Told s ps None [] (elements_from at text) = told stop z None [] (elements_from at text) e in
    record {
      ascending = told_ascending tt t nil;
      only = λ q w. ⊎_elim (λ (v : Memᴰ q []). absurd (Memᴰ.not-nil v)) (λ (c : Covered q None (elements_from at text)). c) (in_covered q t w);
      every = λ q c. covered_in q t c;
    }

-- ---- the content of a segment that is accepted
-- It was read from a block in which no place is covered twice, is strictly ascending and of at most 120 places, and its purge minute is what the block's DDHHMM gives.
pub record Accepted (text : List ℕ) (issue start : ℕ) (c : Content) : Type 0 where
  pub stamp : Stamp
  pub purge_at_lem : ℕ
  pub read : read_block text start ≡ block c.places stamp purge_at_lem
  pub once : twice_at text start ≡ None
  pub ascending : Ascending 0 c.places
  pub few : length c.places ≤ capacity
  pub gives : purge_of issue stamp ≡ Some c.purge

pub accepted : (text : List ℕ) (issue start : ℕ) (c : Content) → content_at text issue start ≡ ok c → Accepted text issue start c
unfolding content_at read_block
accepted text issue start c e = go (twice_at text start) refl (read_block text start) refl e
  where
    date : twice_at text start ≡ None → (ps : List ℕ) (s : Stamp) (z : ℕ) (o : Option ℕ) → read_block text start ≡ block ps s z → Ascending 0 ps → purge_of issue s ≡ o
        → dated start z ps o ≡ ok c → Accepted text issue start c
    date w ps s z None q a g e = apart cc
    date w ps s z (Some t) q a g e =
        by (leb (length ps) capacity)
        (λ k. let f : ok (record { purge = t; places = ps }) ≡ ok c = rw k at e in
        let same : record { purge = t; places = ps } ≡ c = cc in
        subst (Accepted text issue start) same (record { stamp = s; purge_at_lem = z; read = q; once = w; ascending = a; few = leb-true (length ps) capacity k; gives = g }))
        λ k. let f : refused TooManyPlaces start ≡ ok c = rw k at e in apart cc

    go : (o : Option ℕ) → twice_at text start ≡ o → (r : Read) → read_block text start ≡ r → content_in issue start o r ≡ ok c → Accepted text issue start c
    go o w (wrong_at place) q e = apart cc
    go (Some y) w (block ps s z) q e = apart cc
    go None w (block ps s z) q e = date w ps s z (purge_of issue s) q (covered (length text) start (drop start text) ps s z q).ascending refl e

-- ---- the written block in a product
module _ (end : End) (so : ends_line end ≡ true) where
  -- What is written of one place or more opens a block, and so does its first line.
  pub written_opens : (at p : ℕ) (ps rest : List ℕ) (s : Stamp) → Ascending 0 (p ∷ ps) → Opening at (written end (p ∷ ps) s ++ rest)
  unfolding written block_elements places_of
  written_opens at p ps rest s a = spans_open end so at rest s (spans_fine a) (λ e. let q : [] ≡ p ∷ ps = sym (ap places_of e) ∙ spans_places (p ∷ ps) in apart cc)

  -- No line of what is written has more than 66 bytes.
  pub lines_fit : (at : ℕ) (ps : List ℕ) (s : Stamp) (l : Line) → Memᴰ l (lines_from at (written end ps s)) → length l.body ≤ 66
  unfolding written block_elements
  lines_fit at ps s l m = all_at (rendered_fit end so at (words_spans s None (spans_of (runs_of ps))) (short_spans s None (spans_of (runs_of ps)))) m
