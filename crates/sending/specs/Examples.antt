-- Document 02, R-1: texts, and what is written out of each with the book that is made of it. The issue is of 2002-04.
use Rattle.std.specs.Prelude.{ℕ, List, [], ◌∷◌, ◌++◌, map, Bool, true, false, ◌&&◌, length, eqb}
use Prim.Native.String.{String}
use Rattle.refusal.specs.Answer.{Answer, ok, no, and_then}
use Rattle.lines.specs.Bytes.{bytes}
use Rattle.segments.specs.Segments.{Segment}
use Rattle.bulletin.specs.Bulletin.{read_bulletin}
use Rattle.blocks.specs.Block.{same_list}
use Rattle.forms.specs.Edited.{edited, ends_in, written_forms}

-- below the heading of two lines: what stands there, what is written out, and how many bytes the whole is
pub record EditedRow : Type 0 where
  pub given : String
  pub out : String
  pub long : ℕ

abbrev pub below_heading : String → List ℕ
below_heading text = bytes "FPUS51 KXYZ 240822\nZFPXYZ\n" ++ bytes text

abbrev pub own_forms : List ℕ → List Segment → Answer (List ℕ)
own_forms text gs = and_then (written_forms (ends_in gs) (map (λ (g : Segment). g.content) gs)) (λ blocks. ok (edited text gs blocks))

abbrev pub unedited : List ℕ → Answer (List ℕ)
unedited text = and_then (read_bulletin text 2002 4) (λ r. own_forms text r.segments)

abbrev pub is_text : List ℕ → ℕ → Answer (List ℕ) → Bool
is_text text n (ok out) = same_list text out && eqb (length out) n
is_text text n (no number at) = false

abbrev pub all_edited : List EditedRow → Bool
all_edited [] = true
all_edited (r ∷ rs) = is_text (below_heading r.out) r.long (unedited (below_heading r.given)) && all_edited rs

abbrev pub edited_row : String → String → ℕ → EditedRow
edited_row given out long = record { given = given; out = out; long = long }

abbrev pub edited_table : List EditedRow
edited_table =
    edited_row "MDC001-242100-\n$$\n" "MDC001-242100-\n$$\n" 44
    -- nobody edited it, and still it is replaced; all its lines end as its first one did
    ∷ edited_row "MDC005-003-\n242100-\r\nTEXT\n$$\n" "MDC003-005-242100-\nTEXT\n$$\n" 53
    ∷ edited_row "MDC005-\r\n003-242100-\nTEXT\n$$\n" "MDC003-005-242100-\r\nTEXT\n$$\n" 54
    -- what stands between and behind is kept, as it ended
    ∷ edited_row "\nNWS X\r\n\n005-\nMDCALL-242100-\n$$\r\nX\nVAZ053-250000-\n\n$$\nY\n" "\nNWS X\r\n\n005-\nMDC000-242100-\n$$\r\nX\nVAZ053-250000-\n\n$$\nY\n" 82
    -- a later segment's block within the MND block, and each block by its own first line
    ∷ edited_row "MDC001-242100-\n$$\n\nMDC003-002-\r\r\n001-242100-\nNWS X AL042005\n$$\n" "MDC001-242100-\n$$\n\nMDC001>003-242100-\r\r\nNWS X AL042005\n$$\n" 84
    ∷ []
