-- A segment's content: 6 comes before 25, 25 before 5, and 5 before 11. Assumes nothing.
use Prim.Native.Nat.{ℕ}
use mathlib.Core.Path.{◌≡◌, refl, sym, ap, ◌∙◌}
use mathlib.Core.List.{List, []}
use mathlib.Core.Bool.{true, false, cond}
use Rattle.std.specs.Prelude.{Option, None, Some, Result, Ok, Err}
use lib.ListN.{length, drop}
use lib.Seq.{take-append_seam}
use lib.Dec.{leb}
use Rattle.laws.proofs.Tests.{by, apart}
use Rattle.refusal.specs.declared.Reason.TheVariants.{WrongTime, WrongBlock, TooManyPlaces, PlaceTwice}
use Rattle.refusal.specs.declared.Refusal.{Refusal}
use Rattle.refusal.specs.Answer.{Answer, ok, refused, refusal_for, and_then}
use Rattle.calendar.specs.Purge.{purge_of}
use Rattle.codes.specs.Block.{Read, block, wrong_at, read_block, twice_at, dated, content_in, content_at}
use Rattle.sets.specs.Held.{vacant, places_for, places_in}
use Rattle.reading.specs.Placed.{purge_place, Placed, placed_at}
use Rattle.reading.specs.Held.{block_with, block_for, placed_of}
use Rattle.reading.specs.declared.Block.{Block}

-- the places that are held are these
pub places_held : (ps : List ℕ) → places_in (places_for ps) ≡ ps
places_held ps = take-append_seam ps (drop (length ps) vacant)

-- what is placed, of a block that was read
abbrev pub told_of : ℕ → ℕ → Option ℕ → Read → Answer Placed
told_of issue start t x = and_then (content_in issue start t x) (λ c. and_then (purge_place x) (λ at. ok (record { content = c; at = at })))

-- a block that is refused
refusal_is : (issue start : ℕ) (t : Option ℕ) (x : Read) (r : Refusal) → block_for t x ≡ Err r → told_of issue start t x ≡ refused r.reason r.place
unfolding and_then
refusal_is issue start t (wrong_at p) r e = let q : refusal_for WrongBlock p ≡ r = cc in rw (← q)
refusal_is issue start None (block ps s at) r e = apart cc
refusal_is issue start (Some y) (block ps s at) r e = let q : refusal_for PlaceTwice y ≡ r = cc in rw (← q)

-- a whole block
record Wholly (b : Block) (t : Option ℕ) (x : Read) : Type 0 where
  ps : List ℕ
  is : x ≡ block ps b.stamp b.place
  once : t ≡ None
  told : b ≡ cond (leb (length ps) 120) (block_with b.stamp b.place false ps) (block_with b.stamp b.place true [])

whole_is : (b : Block) (t : Option ℕ) (x : Read) → block_for t x ≡ Ok b → Wholly b t x
whole_is b t (wrong_at p) e = apart cc
whole_is b (Some y) (block ps s at) e = apart cc
whole_is b None (block ps s at) e =
    let q : cond (leb (length ps) 120) (block_with s at false ps) (block_with s at true []) ≡ b = cc in
    let f : s ≡ b.stamp = by (leb (length ps) 120) (λ t. rw t at (ap (λ (k : Block). k.stamp) q)) (λ t. rw t at (ap (λ (k : Block). k.stamp) q)) in
    let g : at ≡ b.place = by (leb (length ps) 120) (λ t. rw t at (ap (λ (k : Block). k.place) q)) (λ t. rw t at (ap (λ (k : Block). k.place) q)) in
    record {
      ps = ps;
      is = λ i. block ps (f i) (g i);
      once = refl;
      told = sym q ∙ (λ i. cond (leb (length ps) 120) (block_with (f i) (g i) false ps) (block_with (f i) (g i) true []));
    }

module _ (s : List ℕ) (issue start : ℕ) (r : Result Block Refusal) (er : r ≡ block_for (twice_at s start) (read_block s start)) where
  placed_told : placed_at s issue start ≡ told_of issue start (twice_at s start) (read_block s start)
  unfolding placed_at content_at
  placed_told = refl

  -- a wrong block, or a place covered twice
  pub content_refused : (w : Refusal) → r ≡ Err w → refused w.reason w.place ≡ placed_at s issue start
  content_refused w q = sym (placed_told ∙ refusal_is issue start (twice_at s start) (read_block s start) w (sym er ∙ q))

  module _ (b : Block) (eb : r ≡ Ok b) (m : Option ℕ) (em : m ≡ purge_of issue b.stamp) where
    wholly : Wholly b (twice_at s start) (read_block s start)
    wholly = whole_is b (twice_at s start) (read_block s start) (sym er ∙ eb)

    abbrev told : Option ℕ → Answer Placed
    told x = and_then (dated start b.place wholly.ps x) (λ c. ok (record { content = c; at = b.place }))

    placed_is : placed_at s issue start ≡ told m
    unfolding and_then
    placed_is = placed_told ∙ rw (wholly.is, wholly.once, ← em)

    -- a purge that has no minute
    pub content_time : m ≡ None → (w : Refusal) → w ≡ refusal_for WrongTime b.place → refused w.reason w.place ≡ placed_at s issue start
    unfolding and_then
    content_time n w ew = rw ew (sym (placed_is ∙ ap told n))

    module _ (minute : ℕ) (y : m ≡ Some minute) where
      many : b.over ≡ true → leb (length wholly.ps) 120 ≡ false
      many o = by (leb (length wholly.ps) 120) (λ t. let z : false ≡ true = sym (ap (λ (x : Block). x.over) wholly.told ∙ rw t) ∙ o in apart cc) (λ t. t)

      few : b.over ≡ false → leb (length wholly.ps) 120 ≡ true
      few o = by (leb (length wholly.ps) 120) (λ t. t) (λ t. let z : true ≡ false = sym (ap (λ (x : Block). x.over) wholly.told ∙ rw t) ∙ o in apart cc)

      -- over 120 places
      pub content_many : b.over ≡ true → (w : Refusal) → w ≡ refusal_for TooManyPlaces start → refused w.reason w.place ≡ placed_at s issue start
      unfolding and_then
      content_many o w ew =
          let c : told (Some minute) ≡ refused TooManyPlaces start = rw (many o) in
          rw ew (sym (placed_is ∙ ap told y ∙ c))

      -- just these
      pub content_few : b.over ≡ false → ok (placed_of (record { purge = minute; place = b.place; places = b.places })) ≡ placed_at s issue start
      unfolding and_then
      content_few o =
          let c : told (Some minute) ≡ ok (record { content = record { purge = minute; places = wholly.ps }; at = b.place }) = rw (few o) in
          let p : places_in b.places ≡ wholly.ps = ap (λ (x : Block). places_in x.places) wholly.told ∙ rw (few o) (places_held wholly.ps) in
          ap (λ (x : List ℕ). ok (record { content = record { purge = minute; places = x }; at = b.place })) p ∙ sym (placed_is ∙ ap told y ∙ c)
