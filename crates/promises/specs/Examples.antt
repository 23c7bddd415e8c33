-- Document 01, "Examples on both sides": the lines marked P, as document 02 amends them, as one table of what the written rules say.
use Rattle.std.specs.Prelude.{ℕ, List, [], ◌∷◌, ◌++◌, Bool, false, ◌&&◌, length, drop, eqb}
use Prim.Native.String.{String}
use Rattle.std.specs.Prelude.{Option, None, Some}
use Rattle.refusal.specs.Answer.{Answer, ok, no, and_then}
use Rattle.lines.specs.Bytes.{bytes}
use Rattle.calendar.specs.Calendar.{minute_of}
use Rattle.calendar.specs.Purge.{gives}
use Rattle.calendar.specs.declared.Date.{Date}
use Rattle.codes.specs.Places.{place_of, prefix_of, three_of, place_bytes}
use Rattle.codes.specs.Block.{Content, content_at}
use Rattle.blocks.specs.Block.{same_list}
use Rattle.lines.specs.declared.End.TheVariants.{CrCrLf}
use Rattle.writing.specs.Write.{written_block}
use Rattle.heading.specs.Storm.{ClassName, cyclone, internal, training, disturbance, StormName}
use Rattle.bulletin.specs.Bulletin.{Bulletin, issued, read_bulletin}

-- a date's year, month, day, hour and minute
abbrev pub date_at : ℕ → ℕ → ℕ → ℕ → ℕ → Date
date_at year month day hour minute = record { year = year; month = month; stamp = record { day = day; hour = hour; minute = minute } }

-- the issue under which the blocks of the table are read, where a row names none
abbrev pub usual : Date
usual = date_at 2002 4 24 8 22

pub data Row : Type 0 where
  -- a date is this minute
  minute_is : Date → ℕ → Row
  -- under an issue, a block's purge is this minute
  purge_is : Date → String → ℕ → Row
  -- six bytes have this number, and the number these bytes
  place_is : String → ℕ → Row
  -- a block has so many places, and is written so, in so many bytes before the line end
  written_back : String → ℕ → String → ℕ → Row
  -- a block has so many places
  places_are : String → ℕ → Row
  -- under an issue, a block is refused with this number, at this place
  block_refused : Date → String → ℕ → ℕ → Row
  -- a bulletin with this BBB on line 1 is accepted, and has it
  bbb_is : String → Row
  -- a bulletin whose office line ends with these bytes is accepted, and has a storm of this class
  storm_is : String → ClassName → Row
  -- a bulletin with this BBB and these bytes at its office line's end is refused with this number, at this place
  bulletin_refused : String → String → ℕ → ℕ → Row

-- ---- a block on a line of its own, read under an issue
abbrev pub block_under : Date → String → Answer Content
block_under date text = and_then (issued (minute_of date)) λ issue. content_at (bytes text ++ bytes "\n") issue 0

abbrev pub has_purge : ℕ → Answer Content → Bool
has_purge minute (ok c) = eqb c.purge minute
has_purge minute (no number at) = false

abbrev pub has_places : ℕ → Answer Content → Bool
has_places n (ok c) = eqb (length c.places) n
has_places n (no number at) = false

abbrev pub is_block : List ℕ → Answer (List ℕ) → Bool
is_block text (ok block) = same_list block text
is_block text (no number at) = false

abbrev pub is_written_as : String → Answer Content → Bool
is_written_as text (ok c) = is_block (bytes text ++ bytes "\r\r\n") (written_block CrCrLf c.places c.purge)
is_written_as text (no number at) = false

-- ---- a bulletin of 2002-04 with this BBB on line 1 and these bytes at its office line's end
abbrev pub bulletin_with : String → String → List ℕ
bulletin_with bbb end = bytes "FPUS51 KXYZ 240822 " ++ (bytes bbb ++ (bytes "\nZFPXYZ\n\nNWS ANYTOWN MD " ++ (bytes end ++ bytes "\n\nMDC005-242100-\n$$\n")))

abbrev pub bulletin_read : String → String → Answer Bulletin
bulletin_read bbb end = read_bulletin (bulletin_with bbb end) 2002 4

abbrev pub is_bbb : String → Option (List ℕ) → Bool
is_bbb bbb None = false
is_bbb bbb (Some bs) = same_list bs (bytes bbb)

abbrev pub has_bbb : String → Answer Bulletin → Bool
has_bbb bbb (ok b) = is_bbb bbb b.heading.bbb
has_bbb bbb (no number at) = false

-- a class by its first number: no two classes have the same
abbrev pub first_number : ClassName → ℕ
first_number cyclone = 1
first_number internal = 50
first_number training = 80
first_number disturbance = 90

abbrev pub is_of_class : ClassName → Option StormName → Bool
is_of_class c None = false
is_of_class c (Some s) = eqb (first_number c) (first_number s.class)

abbrev pub has_storm : ClassName → Answer Bulletin → Bool
has_storm c (ok b) = is_of_class c b.storm
has_storm c (no number at) = false

-- ---- what a row says
abbrev pub is_refused : {A : Type 0} → ℕ → ℕ → Answer A → Bool
is_refused r start (ok x) = false
is_refused r start (no number at) = eqb number r && eqb at start

abbrev pub holds : Row → Bool
holds (minute_is date minute) = gives (minute_of date) minute
holds (purge_is date text minute) = has_purge minute (block_under date text)
holds (place_is text n) = eqb (place_of (prefix_of (bytes text)) (three_of (drop 3 (bytes text)))) n && same_list (place_bytes n) (bytes text)
holds (written_back text n block long) = has_places n (block_under usual text) && is_written_as block (block_under usual text) && eqb (length (bytes block)) long
holds (places_are text n) = has_places n (block_under usual text)
holds (block_refused date text r start) = is_refused r start (block_under date text)
holds (bbb_is bbb) = has_bbb bbb (bulletin_read bbb "")
holds (storm_is end c) = has_storm c (bulletin_read "CCA" end)
holds (bulletin_refused bbb end r start) = is_refused r start (bulletin_read bbb end)

-- the lines in document 01's order, with its numerals, and document 02's beside the line that they amend
abbrev pub table : List Row
table =
    written_back "MDC003-005>007-VAZ053-242100-" 5 "MDC003-005>007-VAZ053-242100-" 29
    ∷ written_back "MDC005-003-006>007-242100-" 4 "MDC003-005>007-242100-" 22
    -- document 02, R-3: a place named twice is refused, where it is named again; 6 goes before, 5 and 11 come after
    ∷ block_refused usual "MDC005-003-006>007-005-242100-" 25 19
    ∷ block_refused usual "MDCALL-000-242100-" 25 7
    ∷ block_refused usual "MDC001-DCC001-MDC001-242100-" 25 14
    ∷ block_refused usual "MDC001-001-X-242100-" 6 11
    ∷ block_refused (date_at 2003 1 31 12 1) "MDC001-001-301200-" 25 7
    ∷ block_refused usual "MDC001>250-001-242100-" 25 11
    ∷ place_is "MDC003" 630_003
    ∷ place_is "VAZ053" 1_093_053
    ∷ place_is "ZZZ999" 1_351_999
    ∷ block_refused usual "MDC007>007-" 6 0
    ∷ block_refused usual "MDC007>005-" 6 0
    ∷ places_are "MDC001>120-242100-" 120
    ∷ block_refused usual "MDC001>121-242100-" 11 0
    ∷ minute_is (date_at 2002 4 24 8 22) 16_993_942
    ∷ purge_is (date_at 2002 4 24 8 22) "MDC001-240822-" 16_993_942
    ∷ purge_is (date_at 2001 12 31 23 0) "MDC001-010500-" 16_831_020
    -- document 02, R-2: this was refused
    ∷ purge_is (date_at 2003 1 31 0 0) "MDC001-301200-" 17_398_800
    -- this still is: 30 January is a minute too early, and February has no 30th
    ∷ block_refused (date_at 2003 1 31 12 1) "MDC001-301200-" 5 7
    ∷ purge_is (date_at 2002 5 1 1 0) "MDC001-302300-" 17_003_460
    -- 1,440 minutes before the issue, and 1,441
    ∷ purge_is (date_at 2002 4 24 8 22) "MDC001-230822-" 16_992_502
    ∷ purge_is (date_at 2002 4 24 8 22) "MDC001-230821-" 17_035_701
    -- the month before January is December of the year before; before January 1970 there is none
    ∷ purge_is (date_at 2002 1 1 1 0) "MDC001-312300-" 16_830_660
    ∷ purge_is (date_at 1970 1 1 1 0) "MDC001-312300-" 44_580
    -- a minute too early in January, no 31st in February: 31 March
    ∷ purge_is (date_at 2003 2 1 0 51) "MDC001-310050-" 17_484_530
    ∷ purge_is (date_at 2099 12 31 23 0) "MDC001-010500-" 68_374_380
    ∷ bbb_is "CCX"
    ∷ bbb_is "CCZ"
    ∷ bulletin_refused "CCY" "" 3 0
    ∷ storm_is "AL492005" cyclone
    ∷ storm_is "AL502005" internal
    ∷ bulletin_refused "CCA" "AT042005" 10 46
    ∷ []
