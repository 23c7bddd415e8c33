-- Serves the code: the written forms of a book's segments, one behind the other, and the text with them in the place of its blocks.
use Rattle.std.specs.Prelude.{ℕ, suc, ◌+◌, ◌*◌, ◌≤◌, ◌≡◌, true, List, [], ◌∷◌, ◌++◌, map, length, take, drop}
use Rattle.refusal.specs.Answer.{ok}
use Rattle.lines.specs.Spans.{part}
use Rattle.lines.specs.declared.End.{End}
use Rattle.codes.specs.Written.{in_order}
use Rattle.writing.specs.Write.{written_block}
use Rattle.writing.specs.Pen.{written_block_most}
use Rattle.segments.specs.Seen.{segments_held, Sized}
use Rattle.segments.specs.declared.Segment.{Segment}
use Rattle.segments.specs.declared.Segments.{Segments}
use Rattle.blocks.specs.Block.{block_of, book_length, Bytes}
use Rattle.blocks.specs.Content.{content_of}
use Rattle.layout.specs.Layout.{book_of}
use Rattle.layout.specs.Tests.{is_sound}
use Rattle.forms.specs.Edited.{written_forms}
use Rattle.forms.specs.declared.Sizes.{Sizes}

-- bytes that are a sound book
pub record SoundBook (l : List ℕ) : Type 0 where
  pub long : length l ≡ book_length
  pub sound : is_sound l ≡ true
  pub bytes : Bytes l

-- room for eight forms
abbrev pub forms_room : ℕ
forms_room = 9728

-- room for n of them, and no more than for eight
pub record RoomFor (n : ℕ) (forms : List ℕ) : Type 0 where
  pub each : written_block_most * n ≤ length forms
  pub most : length forms ≤ forms_room

-- the form of segment i, counted from 0, went to the front of an output
pub record Formed (end : End) (l : List ℕ) (i : ℕ) (before after : List ℕ) (r : ℕ) : Type 0 where
  pub form : List ℕ
  pub given : written_block end (content_of (block_of (suc i) l)).places (content_of (block_of (suc i) l)).purge ≡ ok form
  pub size : r ≡ length form
  pub most : r ≤ written_block_most
  pub output : after ≡ form ++ drop (length form) before

-- bytes, cut into parts of these lengths
unfoldable pub cut_into : List ℕ → List ℕ → List (List ℕ)
cut_into [] bytes = []
cut_into (n ∷ ns) bytes = take n bytes ∷ cut_into ns (drop n bytes)

unfoldable pub sum_of : List ℕ → ℕ
sum_of [] = 0
sum_of (n ∷ ns) = n + sum_of ns

-- how the first lines of these segments' blocks ended
abbrev pub ends_of : List Segment → List End
ends_of gs = map (λ (g : Segment). g.ended) gs

-- all forms of a book, with these ends, stand one behind the other, and these are their lengths
pub record Laid (ends : List End) (l forms : List ℕ) (r : Sizes) : Type 0 where
  pub blocks : List (List ℕ)
  pub given : written_forms ends (book_of l).segments ≡ ok blocks
  pub bytes : take r.total forms ≡ in_order blocks
  pub sizes : take (length blocks) r.each ≡ map (λ (b : List ℕ). length b) blocks
  pub total : r.total ≡ length (in_order blocks)
  pub most : r.total ≤ length forms
  pub short : length forms ≤ forms_room
  pub wide : length r.each ≡ 8

-- how many bytes of the text are kept from a place on, and the text with the new blocks, by the segments as the reader answers them
unfoldable pub kept_length : ℕ → List ℕ → List Segment → ℕ
kept_length at text [] = length (drop at text)
kept_length at text (g ∷ gs) = length (part text at g.start) + kept_length g.block text gs

unfoldable pub with_forms : ℕ → List ℕ → List Segment → List (List ℕ) → List ℕ
with_forms at text [] blocks = drop at text
with_forms at text (g ∷ gs) [] = drop at text
with_forms at text (g ∷ gs) (b ∷ blocks) = part text at g.start ++ (b ++ with_forms g.block text gs blocks)

-- the text with the new blocks, which are parts of these lengths of bytes that stand one behind the other
abbrev pub filled_in : List ℕ → Segments → List ℕ → List ℕ → List ℕ
filled_in text gs forms each = with_forms 0 text (segments_held gs) (cut_into (take gs.count each) forms)

-- the bytes have room for parts of these lengths, one for each segment
pub record Cuttable (gs : Segments) (forms each : List ℕ) : Type 0 where
  pub sized : Sized gs
  pub wide : length each ≡ 8
  pub low : sum_of (take gs.count each) ≤ length forms
  pub short : length forms ≤ forms_room
