-- Serves the code: the tests that it makes of a used block's bytes. layout/proofs/SoundIff joins them to document 01's sentence on a sound book.
use Rattle.std.specs.Prelude.{ℕ, ◌+◌, ◌*◌, List, Bool, ◌&&◌, drop, get_or, leb}
use Rattle.std.specs.List.{slice_range}
use Rattle.calendar.specs.Purge.{is_purge}
use Rattle.codes.specs.Places.{capacity, ascends}
use Rattle.checks.specs.Seal.{checked, all_zero}
use Rattle.blocks.specs.Block.{number_at, numbers_of}

-- a used one
unfoldable pub is_used : ℕ → List ℕ → Bool
is_used issue b =
    checked b && (leb 1 (get_or b 4 0) && leb (get_or b 4 0) capacity) && all_zero (slice_range b 5 8)
    && all_zero (slice_range b (8 + 4 * get_or b 4 0) 510)
    && ascends 0 (numbers_of (get_or b 4 0) (drop 8 b))
    && is_purge issue (number_at b 0)
