-- Serves the code: a content held by value.
use Rattle.std.specs.Prelude.{◌≤◌, ◌≡◌, length, take}
use Rattle.codes.specs.Places.{capacity}
use Rattle.codes.specs.Block.{Content}
use Rattle.blocks.specs.declared.Held.{Held}

abbrev pub held_content : Held → Content
held_content h = record { purge = h.purge; places = take h.count h.places }

-- there is room for 120 places
pub record Fits (h : Held) : Type 0 where
  pub long : length h.places ≡ capacity
  pub few : h.count ≤ capacity
