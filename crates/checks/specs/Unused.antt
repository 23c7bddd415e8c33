-- Serves the code: the test that it makes of an unused block's bytes. layout/proofs/SoundIff joins it to document 01's sentence on a sound book.
use Rattle.std.specs.Prelude.{List, Bool, ◌&&◌, ℕ}
use Rattle.std.specs.List.{slice_range}
use Rattle.checks.specs.Seal.{checked, all_zero}

-- an unused one
unfoldable pub is_unused : List ℕ → Bool
is_unused b = checked b && all_zero (slice_range b 0 510)
