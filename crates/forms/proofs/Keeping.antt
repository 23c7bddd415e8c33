-- What of a text is kept, and the text with new blocks: their lengths, and the two ways of naming the segments. Assumes nothing.
use Prim.Native.Nat.{ℕ, ◌+◌, ◌-◌, ◌*◌, ◌≤◌, ◌<◌}
use native.Mathlib.Numerals.{add-one}
use native.Mathlib.Omega.{arith}
use mathlib.Core.Path.{◌≡◌, refl, sym, ap, ap₂, ◌∙◌}
use mathlib.Core.List.{List, [], ◌∷◌, ◌++◌, map, append_assoc}
use lib.ListN.{length, take, drop, get_or, length-append, length-drop, drop_of_length-le}
use lib.Seq.{take_all, drop-cons, length-take-le, drop-append_seam, take-append_seam}
use borrow.Table.Elements.{take-le}
use Rattle.laws.proofs.Tests.{impossible}
use Rattle.lines.specs.Spans.{part}
use Rattle.codes.specs.Written.{in_order}
use Rattle.lines.specs.declared.End.{End}
use Rattle.segments.specs.Segments as rule
use Rattle.segments.specs.Seen.{seen, segments_held, Sized}
use Rattle.segments.specs.declared.Segment.{Segment}
use Rattle.segments.specs.declared.Segments.{Segments}
use Rattle.forms.specs.Edited.{edited_from, ends_in}
use Rattle.forms.specs.Forms.{ends_of, cut_into, sum_of, kept_length, with_forms}

-- ---- the text behind its last block
pub part_rest : (text : List ℕ) (at : ℕ) → part text at (length text) ≡ drop at text
part_rest text at = take_all (length text - at) (drop at text) (let n : length (drop at text) ≡ length text - at = length-drop at text in omega arith)

pub part_short : (text : List ℕ) (from to : ℕ) → length (part text from to) ≤ length text
part_short text from to = omega (arith, length-drop from text, length_part)
  where
    length_part : length (part text from to) ≤ length (drop from text)
    length_part = take-le (to - from) (drop from text)

-- ---- the segments as the reader answers them, and as the rule has them
pub forms_edited : (at : ℕ) (text : List ℕ) (gs : List rule.Segment) (blocks : List (List ℕ))
    → with_forms at text (map seen gs) blocks ≡ edited_from at text gs blocks
unfolding with_forms edited_from
forms_edited at text [] blocks = refl
forms_edited at text (g ∷ gs) [] = refl
forms_edited at text (g ∷ gs) (b ∷ blocks) = ap (λ (x : List ℕ). part text at g.start ++ (b ++ x)) (forms_edited g.block text gs blocks)

-- ---- the length of the text with new blocks, as many as there are segments
pub forms_length : (at : ℕ) (text : List ℕ) (gs : List Segment) (blocks : List (List ℕ)) → length blocks ≡ length gs
    → length (with_forms at text gs blocks) ≡ kept_length at text gs + length (in_order blocks)
unfolding with_forms kept_length in_order
forms_length at text [] [] h = omega arith
forms_length at text [] (b ∷ blocks) h = impossible (omega arith)
forms_length at text (g ∷ gs) [] h = impossible (omega arith)
forms_length at text (g ∷ gs) (b ∷ blocks) h =
    let kept : List ℕ = part text at g.start in
    let rest : List ℕ = with_forms g.block text gs blocks in
    let behind = forms_length g.block text gs blocks (omega arith) in
    omega (arith, length-append kept (b ++ rest), length-append b rest, length-append b (in_order blocks), behind)

-- ---- parts of bytes that stand one behind the other
pub cut_in_order : (blocks : List (List ℕ)) (rest : List ℕ) → cut_into (map (λ (b : List ℕ). length b) blocks) (in_order blocks ++ rest) ≡ blocks
unfolding cut_into in_order
cut_in_order [] rest = refl
cut_in_order (b ∷ blocks) rest =
    let e : (b ++ in_order blocks) ++ rest ≡ b ++ (in_order blocks ++ rest) = append_assoc b (in_order blocks) rest in
    ap₂ (λ (x : List ℕ) (xs : List (List ℕ)). x ∷ xs)
    (ap (take (length b)) e ∙ take-append_seam b (in_order blocks ++ rest))
    (ap (λ (x : List ℕ). cut_into (map (λ (y : List ℕ). length y) blocks) (drop (length b) x)) e
    ∙ ap (cut_into (map (λ (y : List ℕ). length y) blocks)) (drop-append_seam b (in_order blocks ++ rest))
    ∙ cut_in_order blocks rest)

pub sum_lengths : (blocks : List (List ℕ)) → sum_of (map (λ (b : List ℕ). length b) blocks) ≡ length (in_order blocks)
unfolding sum_of in_order
sum_lengths [] = refl
sum_lengths (b ∷ blocks) = omega (arith, sum_lengths blocks, length-append b (in_order blocks))

-- ---- the segments that are held
pub held_many : (gs : Segments) → Sized gs → length (segments_held gs) ≡ gs.count
held_many gs z = length-take-le gs.count gs.held (omega (arith, z.long, z.few))

held_few : (gs : Segments) → Sized gs → length (segments_held gs) ≤ 8
held_few gs z = omega (arith, held_many gs z, z.few)

-- ---- a list from i on
module _ {A : Type 0} (l : List A) (i : ℕ) where
  pub next_of : (z : A) → i < length l → drop i l ≡ get_or l i z ∷ drop (i + 1) l
  next_of z h = drop-cons l i z h ∙ ap (λ (k : ℕ). get_or l i z ∷ drop k l) (sym (add-one i))

  pub none_of : length l ≤ i → drop i l ≡ []
  none_of h = drop_of_length-le l {i = i} h

-- ---- the loop that counts what is kept: so many bytes up to segment i
pub record Counting (text : List ℕ) (gs : List Segment) (i at kept : ℕ) : Type 0 where
  pub left : i ≤ length gs
  pub few : length gs ≤ 8
  pub short : length text ≤ 16384
  pub same : kept + kept_length at text (drop i gs) ≡ kept_length 0 text gs
  pub low : kept ≤ 16384 * i

module _ (text : List ℕ) (gs : List Segment) (i at kept : ℕ) (v : Counting text gs i at kept) where
  module _ (h : i < length gs) (z : Segment) where
    pub counting_on : (b : List ℕ) → b ≡ part text at (get_or gs i z).start → Counting text gs (i + 1) (get_or gs i z).block (kept + length b)
    unfolding kept_length
    counting_on b q =
        let g : Segment = get_or gs i z in
        let e : kept_length at text (drop i gs) ≡ length (part text at g.start) + kept_length g.block text (drop (i + 1) gs) = ap (kept_length at text) (next_of gs i z h) in
        record {
          left = omega arith;
          few = v.few;
          short = v.short;
          same = rw q (omega (arith, v.same, e));
          low = rw q (omega (arith, v.low, v.short, part_short text at g.start));
        }

  pub counting_done : length gs ≤ i → (b : List ℕ) → b ≡ part text at (length text) → kept + length b ≡ kept_length 0 text gs
  unfolding kept_length
  counting_done h b q =
      let e : kept_length at text (drop i gs) ≡ length (drop at text) = ap (kept_length at text) (none_of gs i h) in
      rw q (omega (arith, v.same, e, ap (λ (x : List ℕ). length x) (part_rest text at)))

-- how the first lines ended, by the segments as the reader answers them
pub ends_seen : (gs : List rule.Segment) → ends_of (map seen gs) ≡ ends_in gs
ends_seen [] = refl
ends_seen (g ∷ gs) = ap (λ (es : List End). g.ended ∷ es) (ends_seen gs)
