-- Document 01, "Text and lines": the MND block, its office line and the storm.
use Rattle.std.specs.Prelude.{◌+◌, ◌-◌, List, [], ◌∷◌, length}
use Rattle.std.specs.Prelude.{Option, None, Some}
use Rattle.refusal.specs.declared.Reason.TheVariants.{WrongStorm}
use Rattle.refusal.specs.Answer.{Answer, ok, refused}
use Rattle.lines.specs.Lines.{Line, blank}
use Rattle.heading.specs.Storm as storm
use Rattle.heading.specs.Storm.{is_office, StormName, StormSaid, storm_of}
use Rattle.segments.specs.Search.{from_first, up_to_first, lines_after, after_first, closes}

-- "the lines after the first blank line that follows line 2"
abbrev pub below_blank : List Line → List Line
below_blank lines = after_first blank (lines_after (lines_after lines))

-- up to the line that closes the block
abbrev pub mnd_lines : List Line → List Line
mnd_lines lines = up_to_first closes (below_blank lines)

-- "after the MND block and the line that closes it"
abbrev pub past_mnd : List Line → List Line
past_mnd lines = after_first closes (below_blank lines)

-- "Its first line that begins `NATIONAL WEATHER SERVICE ` or `NWS ` is the office line."
abbrev pub office_lines : List Line → List Line
office_lines lines = from_first is_office (mnd_lines lines)

-- | 10 | storm identifier | its start |
abbrev pub storm_said : Line → StormSaid → Answer (Option StormName)
storm_said l storm.no_storm = ok None
storm_said l (storm.storm name) = ok (Some name)
storm_said l storm.refused_storm = refused WrongStorm (l.start + (length l.body - 8))

abbrev pub office_storm : List Line → Answer (Option StormName)
office_storm [] = ok None
office_storm (l ∷ ls) = storm_said l (storm_of l.body)

unfoldable pub storm_in : List Line → Answer (Option StormName)
storm_in lines = office_storm (office_lines lines)
