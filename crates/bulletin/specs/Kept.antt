-- The places that the reader keeps for its caller: those of segment i, counted from 0, in the lent numbers from 120 * i on, if there is room for 120 there. Every other
-- number is as it was; on a refusal all are.
use Rattle.std.specs.Prelude.{ℕ, ◌≡◌, List}
use Rattle.std.specs.Prelude.{Result}
use Rattle.refusal.specs.Answer.{Answer, ok, no}
use Rattle.refusal.specs.declared.Refusal.{Refusal}
use Rattle.segments.specs.Segments.{Segment}
use Rattle.segments.specs.KeptAt.{keep_each}
use Rattle.bulletin.specs.Bulletin as rule
use Rattle.bulletin.specs.Report.{Reads}
use Rattle.bulletin.specs.declared.Bulletin.{Bulletin}

abbrev pub places_of : ℕ → Segment → List ℕ
places_of i g = g.content.places

abbrev pub kept_places : Answer rule.Bulletin → List ℕ → List ℕ
kept_places (ok b) ks = keep_each places_of 0 b.segments ks
kept_places (no number place) ks = ks

-- the promise: the answer, and the lent numbers afterwards
pub record KeepsPlaces (before after text : List ℕ) (year month : ℕ) (r : Result Bulletin Refusal) : Type 0 where
  pub answer : Reads text year month r
  pub left : after ≡ kept_places (rule.read_bulletin text year month) before
