-- Serves the code: what its functions say to each other while the segments are read.
use Rattle.std.specs.Prelude.{ℕ, ◌-◌, ◌<◌, ◌≡◌, List, [], ◌∷◌, ◌++◌, map}
use Rattle.std.specs.Prelude.{Option, None, Some, Result, Ok, Err}
use Rattle.refusal.specs.Answer.{Answer, ok, no, refused}
use Rattle.refusal.specs.declared.Refusal.{Refusal}
use Rattle.segments.specs.Searching.{lines_on}
use Rattle.segments.specs.Segments as segments
use Rattle.segments.specs.Segments.{segments_from, opened}
use Rattle.segments.specs.Seen.{seen, Few}
use Rattle.segments.specs.declared.Segment.{Segment}

abbrev pub seen_of : Answer (List segments.Segment) → Answer (List Segment)
seen_of (ok gs) = ok (map seen gs)
seen_of (no number place) = no number place

-- the segments from a place on, at most n
abbrev pub seen_from : ℕ → List ℕ → ℕ → ℕ → Answer (List Segment)
seen_from n text issue at = seen_of (segments_from n text issue (lines_on text at))

-- these segments before those
abbrev pub seen_before : List Segment → Answer (List Segment) → Answer (List Segment)
seen_before gs (ok hs) = ok (gs ++ hs)
seen_before gs (no number place) = no number place

-- what the reading of a segment says of those from a place on
abbrev pub begun_seen : List ℕ → ℕ → ℕ → Result Segment Refusal → Answer (List Segment)
begun_seen text issue n (Ok g) = seen_before (g ∷ []) (seen_from n text issue g.past)
begun_seen text issue n (Err r) = refused r.reason r.place

-- and one step of the reader
abbrev pub then_seen : List ℕ → ℕ → ℕ → Result (Option Segment) Refusal → Answer (List Segment)
then_seen text issue n (Ok None) = ok []
then_seen text issue n (Ok (Some g)) = seen_before (g ∷ []) (seen_from n text issue g.past)
then_seen text issue n (Err r) = refused r.reason r.place

-- the segment that a line opens, whatever number of them may still come
pub record Begun (text : List ℕ) (issue start : ℕ) (r : Result Segment Refusal) : Type 0 where
  pub same : (n : ℕ) → seen_of (opened text issue (segments_from n text issue) (lines_on text start)) ≡ begun_seen text issue n r
  pub few : (g : Segment) → r ≡ Ok g → Few g

-- at most n segments are left to read
pub record Stepped (text : List ℕ) (issue n at : ℕ) (r : Result (Option Segment) Refusal) : Type 0 where
  pub same : seen_from n text issue at ≡ then_seen text issue (n - 1) r
  pub room : (g : Segment) → r ≡ Ok (Some g) → 0 < n
  pub few : (g : Segment) → r ≡ Ok (Some g) → Few g
