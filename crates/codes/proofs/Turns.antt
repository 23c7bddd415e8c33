-- Reading, one element after the other. Assumes nothing.
use Prim.Native.Nat.{ℕ, ◌+◌}
use mathlib.Core.Path.{◌≡◌}
use mathlib.Core.List.{List, ◌∷◌}
use Rattle.std.specs.Prelude.{Option, Some}
use lib.ListN.{length}
use Rattle.calendar.specs.declared.Stamp.{Stamp}
use Rattle.codes.specs.Elements.{Element, covers, purge, wrong, said}
use Rattle.codes.specs.Block.{insert_covered, block, wrong_at, ended, read_from}

module _ (stop : ℕ) (last : Option ℕ) (got : List ℕ) (e : Element) (es : List Element) where
  pub read_covers : (p n m : ℕ) → said last e.bytes ≡ covers p n m → read_from stop last got (e ∷ es) ≡ read_from stop (Some p) (insert_covered p n m got) es
  unfolding read_from
  read_covers p n m s = rw (s, read_from)

  pub read_purge_lem : (t : Stamp) → said last e.bytes ≡ purge t → read_from stop last got (e ∷ es) ≡ ended e.last (block got t e.at) (e.at + length e.bytes)
  unfolding read_from
  read_purge_lem t s = rw (s, read_from)

  pub read_wrong : said last e.bytes ≡ wrong → read_from stop last got (e ∷ es) ≡ wrong_at e.at
  unfolding read_from
  read_wrong s = rw (s, read_from)
