-- Document 01, "The book": what a block of the three kinds holds.
use Rattle.std.specs.Prelude.{ℕ, ◌*◌, ◌-◌, List, [], ◌∷◌, ◌++◌, Bool, ◌&&◌, length, drop, get_or, replicate}
use Rattle.std.specs.Prelude.{Option, None, Some}
use Rattle.calendar.specs.Purge.{is_purge}
use Rattle.codes.specs.Places.{is_set}
use Rattle.codes.specs.Block.{Content}
use Rattle.checks.specs.Seal.{block_length, sealed}
use Rattle.blocks.specs.Block.{bytes32, number_at, numbers_of, flat}

-- "A used block of these three kinds: 0..3 purge minute, 4 count 1..120, from 8 the place numbers, four bytes each, strictly ascending."
unfoldable pub content_bytes : Content → List ℕ
content_bytes c =
    (bytes32 c.purge ++ (length c.places ∷ 0 ∷ 0 ∷ 0 ∷ []))
    ++ (flat bytes32 c.places ++ replicate (504 - 4 * length c.places) 0)

-- what a block holds: a content, or it is unused
unfoldable pub holding : Option Content → List ℕ
holding None = sealed (replicate block_length 0)
holding (Some c) = sealed (content_bytes c)

-- what the bytes of a used block say
unfoldable pub content_of : List ℕ → Content
content_of b = record { purge = number_at b 0; places = numbers_of (get_or b 4 0) (drop 8 b) }

-- ---- soundness of a content, under the book's issue: "place numbers are below 1,352,000" and ascend, "and every purge minute is what its DDHHMM gives under the issue"
unfoldable pub is_content : ℕ → Content → Bool
is_content issue c = is_set c.places && is_purge issue c.purge
