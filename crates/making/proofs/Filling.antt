-- The blocks of a new book: the contents of a bulletin's segments. Assumes nothing.
use Prim.Native.Nat.{ℕ, suc, ◌+◌, ◌-◌, ◌*◌, ◌≤◌, ◌<◌}
use native.Mathlib.Nat.{add-zero, zero-add, suc_inj, ne_of_lt}
use native.Mathlib.Numerals.{add-one}
use native.Mathlib.Omega.{arith}
use mathlib.Core.Path.{◌≡◌, refl, sym, ap, ap₂, ◌∙◌, subst}
use mathlib.Core.Logic.{◌≢◌}
use mathlib.Core.List.{List, [], ◌∷◌, ◌++◌}
use Rattle.std.specs.Prelude.{Option, None, Some}
use lib.ListN.{length, take, drop, get_or, length-drop}
use Rattle.std.specs.Prelude.{slice_get}
use lib.Dec.{eqb, leb}
use lib.Seq.{take-suc, take_all, length-take-le}
use mir.Syntax.{w32, w64}
use mir.Val.{Fits}
use borrow.Author.Tests.{leb-true, eqb-true, eqb-false}
use Rattle.laws.proofs.Tests.{apart, by}
use Rattle.laws.proofs.Lists.{all_get}
use Rattle.laws.specs.Lists.{All}
use Rattle.laws.proofs.Lookups.{get_more, get_last}
use Rattle.refusal.specs.declared.Reason.TheVariants.{TooManyPlaces}
use Rattle.refusal.specs.Answer.{ok, refused}
use Rattle.calendar.specs.Purge.{purge_of}
use Rattle.calendar.proofs.Laws.{purge_low}
use Rattle.codes.specs.Places.{capacity}
use Rattle.codes.specs.Block as codes
use Rattle.codes.specs.Block.{Read, counted, dated, content_in, content_at, read_block, twice_at, block, wrong_at}
use Rattle.segments.specs.Seen.{segments_held, Sized}
use Rattle.segments.specs.declared.Segment.{Segment}
use Rattle.segments.specs.declared.Segments.{Segments}
use Rattle.checks.specs.Seal.{block_length}
use Rattle.blocks.specs.Block.{book_length, block_of, put_block}
use Rattle.blocks.specs.Content.{holding}
use Rattle.blocks.proofs.Blocks.{put_length, put_same_block, put_other_block}
use Rattle.blocks.proofs.Contents.{used_length}
use Rattle.making.specs.Fill.{contents_from, Storable, Filled}

-- ---- a content that was read
-- at most 120 places, and a purge minute of 32 bits
pub record Kept (c : codes.Content) : Type 0 where
  pub few : length c.places ≤ capacity
  pub low : c.purge < 4294967296

counted_kept : (start : ℕ) (d c : codes.Content) → d.purge < 4294967296 → counted start d ≡ ok c → Kept c
counted_kept start d c h e =
    by (leb (length d.places) capacity)
    (λ t. let w : ok d ≡ ok c = rw t at e in
    let same : d ≡ c = cc in
    subst Kept same (record { few = leb-true (length d.places) capacity t; low = h }))
    (λ t. let w : refused TooManyPlaces start ≡ ok c = rw t at e in apart cc)

dated_kept : (start at : ℕ) (ps : List ℕ) (o : Option ℕ) (c : codes.Content) → ((t : ℕ) → o ≡ Some t → t < 4294967296) → dated start at ps o ≡ ok c → Kept c
dated_kept start at ps None c h e = apart cc
dated_kept start at ps (Some t) c h e = counted_kept start (record { purge = t; places = ps }) c (h t refl) e

in_kept : (issue start : ℕ) (w : Option ℕ) (r : Read) (c : codes.Content) → content_in issue start w r ≡ ok c → Kept c
in_kept issue start w (wrong_at place) c e = apart cc
in_kept issue start (Some y) (block ps s at) c e = apart cc
in_kept issue start None (block ps s at) c e = dated_kept start at ps (purge_of issue s) c (λ t q. omega (arith, purge_low issue s t q)) e

pub content_kept : (text : List ℕ) (issue start : ℕ) (c : codes.Content) → content_at text issue start ≡ ok c → Kept c
unfolding content_at
content_kept text issue start c e = in_kept issue start (twice_at text start) (read_block text start) c e

-- ---- the contents, one after another
contents_length : (i : ℕ) (kept : List ℕ) (gs : List Segment) → length (contents_from i kept gs) ≡ length gs
unfolding contents_from
contents_length i kept [] = refl
contents_length i kept (g ∷ gs) = ap suc (contents_length (suc i) kept gs)

contents_more : (i : ℕ) (kept : List ℕ) (gs : List Segment) (g : Segment)
    → contents_from i kept (gs ++ (g ∷ [])) ≡ contents_from i kept gs ++ (record { purge = g.purge; places = take g.count (drop (capacity * (i + length gs)) kept) } ∷ [])
unfolding contents_from
contents_more i kept [] g = rw add-zero
contents_more i kept (x ∷ gs) g =
    let e : suc i + length gs ≡ i + suc (length gs) = omega arith in
    ap (λ (cs : List codes.Content). record { purge = x.purge; places = take x.count (drop (capacity * i) kept) } ∷ cs) (contents_more (suc i) kept gs g ∙ rw e)

-- one block more
module _ (cs : List codes.Content) (l : List ℕ) (f : Filled cs l) (i : ℕ) (at : length cs ≡ i) (low : i < 48) (c : codes.Content) (few : length c.places ≤ capacity) where
  filled_more : Filled (cs ++ (c ∷ [])) (put_block (suc i) (holding (Some c)) l)
  filled_more =
      let b : List ℕ = holding (Some c) in
      let w : length b ≡ block_length = used_length c few in
      let m : length l ≡ book_length = f.long in
      let last : slice_get (cs ++ (c ∷ [])) i ≡ Some c = ap (slice_get (cs ++ (c ∷ []))) (sym at) ∙ get_last cs c in
      record {
        long = put_length (suc i) l b (omega arith) w ∙ m;
        first = put_other_block 49 (suc i) l b (omega arith) m w 0 (omega arith) (ne_of_lt (omega arith)) ∙ f.first;
        blocks = λ k n. by (eqb k i)
            (λ t. let e : i ≡ k = sym (eqb-true k i t) in
            subst (λ (j : ℕ). block_of (suc j) (put_block (suc i) b l) ≡ holding (slice_get (cs ++ (c ∷ [])) j)) e (put_same_block 49 (suc i) l b (omega arith) m w ∙ ap holding (sym last)))
            (λ t. let other : k ≢ i = eqb-false k i t in
            put_other_block 49 (suc i) l b (omega arith) m w (suc k) (omega arith) (λ e. other (suc_inj e)) ∙ f.blocks k n
            ∙ ap holding (sym (get_more cs c k (λ e. other (e ∙ at)))));
      }

-- ---- the loop: the first i segments' contents are stored
pub record Filling (kept : List ℕ) (gs : List Segment) (i : ℕ) (l : List ℕ) : Type 0 where
  pub left : i ≤ length gs
  pub eight : length gs ≤ 8
  pub storable : All Storable gs
  pub filled : Filled (contents_from 0 kept (take i gs)) l

pub filling_start : (kept : List ℕ) (gs : Segments) (l : List ℕ) → Sized gs → All Storable (segments_held gs) → Filled [] l → Filling kept (segments_held gs) 0 l
unfolding contents_from
filling_start kept gs l z a f =
    record { left = omega arith; eight = omega (arith, length-take-le gs.count gs.held (omega (arith, z.long, z.few)), z.few); storable = a; filled = f }

module _ (kept : List ℕ) (gs : List Segment) (i : ℕ) (l : List ℕ) (v : Filling kept gs i l) where
  pub filling_done : length gs ≤ i → Filled (contents_from 0 kept gs) l
  filling_done h = subst (λ (hs : List Segment). Filled (contents_from 0 kept hs) l) (take_all i gs h) v.filled

  module _ (h : i < length gs) (z : Segment) where
    fits : Storable (get_or gs i z)
    fits = all_get z i v.storable h

    pub filling_fits : Fits w64 (capacity * i + (get_or gs i z).count)
    filling_fits = omega (arith, v.eight, fits.few)

    pub filling_low : Fits w32 (get_or gs i z).purge
    filling_low = omega (arith, fits.low)

    module _ (m : length kept ≡ 960) where
      pub filling_end : capacity * i + (get_or gs i z).count ≤ length kept
      filling_end = omega (arith, v.eight, fits.few)

      pub filling_few : length (take (capacity * i + (get_or gs i z).count - capacity * i) (drop (capacity * i) kept)) ≤ capacity
      filling_few = rw (length-take-le (capacity * i + (get_or gs i z).count - capacity * i) (drop (capacity * i) kept) (rw length-drop (omega (arith, filling_end)))) (omega (arith, fits.few))

      pub filling_on : (d : List ℕ)
          → d ≡ put_block (i + 1) (holding (Some (record { purge = (get_or gs i z).purge; places = take (capacity * i + (get_or gs i z).count - capacity * i) (drop (capacity * i) kept) }))) l
          → Filling kept gs (i + 1) d
      filling_on d e =
          let g : Segment = get_or gs i z in
          let c : codes.Content = record { purge = g.purge; places = take g.count (drop (capacity * i) kept) } in
          let eight : length gs ≤ 8 = v.eight in
          let n : capacity * i + g.count - capacity * i ≡ g.count = omega arith in
          let same : d ≡ put_block (suc i) (holding (Some c)) l =
          e ∙ ap₂ (λ (k j : ℕ). put_block k (holding (Some (record { purge = g.purge; places = take j (drop (capacity * i) kept) }))) l) (add-one i) n in
          let taken : length (take i gs) ≡ i = length-take-le i gs (omega arith) in
          let cs : List codes.Content = contents_from 0 kept (take i gs) in
          let are : contents_from 0 kept (take (i + 1) gs) ≡ cs ++ (c ∷ []) =
          ap (λ (k : ℕ). contents_from 0 kept (take k gs)) (add-one i) ∙ ap (contents_from 0 kept) (take-suc gs i z h) ∙ contents_more 0 kept (take i gs) g ∙ rw (taken, zero-add i) in
          let short : length c.places ≤ capacity = subst (λ (j : ℕ). length (take j (drop (capacity * i) kept)) ≤ capacity) n filling_few in
          record {
            left = omega arith;
            eight = eight;
            storable = v.storable;
            filled = rw (are, same) (filled_more cs l v.filled i (contents_length 0 kept (take i gs) ∙ taken) (omega arith) c short);
          }
