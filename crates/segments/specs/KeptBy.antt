-- Serves the code: what its functions say to each other of the places that they keep.
use Rattle.std.specs.Prelude.{ℕ, ◌≡◌, ◌*◌, Option, None, Some, Result, Ok, Err, List, [], take, drop}
use Rattle.refusal.specs.Answer.{Answer, ok, no}
use Rattle.refusal.specs.declared.Refusal.{Refusal}
use Rattle.codes.specs.Places.{capacity}
use Rattle.codes.specs.Block.{Content, content_at}
use Rattle.segments.specs.KeptAt.{keep_at, keep_each}
use Rattle.segments.specs.Seen.{segments_for, segments_held, Sized}
use Rattle.segments.specs.declared.Segment.{Segment}
use Rattle.segments.specs.declared.Segments.{Segments}

abbrev pub places_said : Answer Content → List ℕ
places_said (ok c) = c.places
places_said (no number place) = []

-- the places of the segment that starts where this one does
abbrev pub places_at : List ℕ → ℕ → ℕ → Segment → List ℕ
places_at text issue i g = places_said (content_at text issue g.start)

-- the places of the segment that is read are kept
abbrev pub kept_one : List ℕ → ℕ → ℕ → Result Segment Refusal → List ℕ → List ℕ
kept_one text issue at (Ok g) ks = keep_at at (places_at text issue 0 g) ks
kept_one text issue at (Err r) ks = ks

-- and in one step of the reader
abbrev pub kept_by : List ℕ → ℕ → ℕ → Result (Option Segment) Refusal → List ℕ → List ℕ
kept_by text issue at (Ok None) ks = ks
kept_by text issue at (Ok (Some g)) ks = keep_at at (places_at text issue 0 g) ks
kept_by text issue at (Err r) ks = ks

-- all of them, the first of which is segment i
abbrev pub kept_from : List ℕ → ℕ → ℕ → List Segment → List ℕ → List ℕ
kept_from text issue i gs ks = keep_each (places_at text issue) i gs ks

-- those of some segments, of which there are not too many
pub record KeptSome (text : List ℕ) (issue : ℕ) (before after : List ℕ) : Type 0 where
  pub segments : Segments
  pub whole : segments ≡ segments_for (segments_held segments)
  pub sized : Sized segments
  pub kept : after ≡ kept_from text issue 0 (segments_held segments) before

-- the places that were kept for segment i
abbrev pub places_from : List ℕ → ℕ → Segment → List ℕ
places_from own i g = take g.count (drop (capacity * i) own)

-- those of all segments, handed on to other numbers
abbrev pub handed_on : List ℕ → List Segment → List ℕ → List ℕ
handed_on own gs ks = keep_each (places_from own) 0 gs ks
