-- Segments that stand one behind the other: a text with its own blocks in place of themselves is that text. Assumes nothing.
use Prim.Native.Nat.{ℕ, ◌+◌, ◌-◌, ◌≤◌}
use native.Mathlib.Omega.{arith}
use mathlib.Core.Path.{◌≡◌, refl, sym, ap, ◌∙◌}
use mathlib.Core.List.{List, [], ◌∷◌, ◌++◌, map}
use lib.ListN.{length, drop, take-append-drop, length-append}
use lib.Seq.{drop-drop}
use Rattle.lines.specs.Spans.{part}
use Rattle.codes.specs.Written.{in_order}
use Rattle.segments.specs.Segments.{Segment}
use Rattle.forms.specs.Edited.{edited_from}
use Rattle.rereading.specs.Demand.{block_text}

-- from a place on: each block starts where the one before it has ended, or behind
pub data Ordered : ℕ → List Segment → Type 0 where
  no_segment_lem : {at : ℕ} → Ordered at []
  next_segment : {at : ℕ} {g : Segment} {gs : List Segment} → at ≤ g.start → g.start ≤ g.block → Ordered g.block gs → Ordered at (g ∷ gs)

-- what stands between two places, and then what stands behind
part_drop : (text : List ℕ) (from to : ℕ) → from ≤ to → part text from to ++ drop to text ≡ drop from text
part_drop text from to h =
    let e : from + (to - from) ≡ to = omega arith in
    let d : drop to text ≡ drop (to - from) (drop from text) = ap (λ (k : ℕ). drop k text) (sym e) ∙ sym (drop-drop (to - from) from text) in
    ap (λ (x : List ℕ). part text from to ++ x) d ∙ take-append-drop (to - from) (drop from text)

pub own_blocks : (text : List ℕ) {at : ℕ} {gs : List Segment} → Ordered at gs → edited_from at text gs (map (block_text text) gs) ≡ drop at text
unfolding edited_from
own_blocks text no_segment_lem = refl
own_blocks text (next_segment {at} {g} {gs} h k o) =
    ap (λ (x : List ℕ). part text at g.start ++ (block_text text g ++ x)) (own_blocks text o)
    ∙ ap (λ (x : List ℕ). part text at g.start ++ x) (part_drop text g.start g.block k)
    ∙ part_drop text at g.start h

-- Only blocks are replaced: the text with new blocks has at most their bytes more.
pub ordered_most : (text : List ℕ) {at : ℕ} {gs : List Segment} → Ordered at gs → (blocks : List (List ℕ))
    → length (edited_from at text gs blocks) ≤ length (drop at text) + length (in_order blocks)
unfolding edited_from in_order
ordered_most text no_segment_lem blocks = omega arith
ordered_most text (next_segment {at} {g} {gs} h k o) [] = omega arith
ordered_most text (next_segment {at} {g} {gs} h k o) (b ∷ blocks) =
    let kept : List ℕ = part text at g.start in
    let rest : List ℕ = edited_from g.block text gs blocks in
    let before : length (kept ++ drop g.start text) ≡ length (drop at text) = ap (λ (x : List ℕ). length x) (part_drop text at g.start h) in
    let old : length (block_text text g ++ drop g.block text) ≡ length (drop g.start text) =
    ap (λ (x : List ℕ). length x) (part_drop text g.start g.block k) in
    let new : length (b ++ in_order blocks) ≡ length b + length (in_order blocks) = length-append b (in_order blocks) in
    omega (
      arith,
      before,
      old,
      new,
      length-append kept (drop g.start text),
      length-append (block_text text g) (drop g.block text),
      length-append kept (b ++ rest),
      length-append b rest,
      ordered_most text o blocks,
    )
