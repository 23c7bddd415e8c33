-- What the code's answers mean in document 01's values, and what a function inside says of the bytes behind DDHHMM.
use Rattle.std.specs.Prelude.{ℕ, ◌-◌, ◌^◌, List, [], ◌∷◌, ◌++◌, Bool, ◌||◌}
use Rattle.std.specs.Prelude.{Option, None, Some, option_map, Result, Ok, Err}
use Rattle.std.specs.Fmt.{format_spec, styled_decimal}
use Prim.Native.String.{String}
use Rattle.refusal.specs.declared.Reason.{Reason}
use Rattle.lines.specs.Bytes.{Kind, bytes, word, exactly}
use Rattle.heading.specs.Heading as heading
use Rattle.heading.specs.Storm.{ClassName, cyclone, internal, training, disturbance, StormName, StormSaid, no_storm, storm, refused_storm}
use Rattle.heading.specs.declared.Bbb.{Bbb}
use Rattle.heading.specs.declared.Heading.{Heading}
use Rattle.heading.specs.declared.Basin.{Basin}
use Rattle.heading.specs.declared.Basin.TheVariants.{Al, Sl, Ep, Cp, Wp}
use Rattle.heading.specs.declared.Class.{Class}
use Rattle.heading.specs.declared.Class.TheVariants.{Cyclone, Internal, Training, Disturbance}
use Rattle.heading.specs.declared.StormId.{StormId}
use Rattle.heading.specs.declared.Storm.{Storm}
use Rattle.heading.specs.declared.Storm.TheVariants as found

-- ---- line 1
-- a space and BBB, and nothing more
abbrev pub bbb_form : String → List Kind
bbb_form pair = word " " ++ (word pair ++ (heading.amendment ∷ []))

unfoldable pub is_amendment : List ℕ → Bool
is_amendment s = exactly (bbb_form "AA") s || exactly (bbb_form "CC") s || exactly (bbb_form "RR") s

abbrev pub paper_bbb : Bbb → List ℕ
paper_bbb b = b.0 ∷ b.1 ∷ b.2 ∷ []

abbrev pub paper_heading : Heading → heading.Heading
paper_heading h = record { stamp = h.stamp; bbb = option_map paper_bbb h.bbb }

-- ---- the storm
abbrev pub paper_basin : Basin → List ℕ
paper_basin Al = bytes "AL"
paper_basin Sl = bytes "SL"
paper_basin Ep = bytes "EP"
paper_basin Cp = bytes "CP"
paper_basin Wp = bytes "WP"

abbrev pub paper_class : Class → ClassName
paper_class Cyclone = cyclone
paper_class Internal = internal
paper_class Training = training
paper_class Disturbance = disturbance

abbrev pub paper_id : StormId → StormName
paper_id id = record { basin = paper_basin id.basin; class = paper_class id.class; number = id.number; year = id.year }

abbrev pub paper_storm : Storm → Option StormName
paper_storm found.None = None
paper_storm (found.Found id) = Some (paper_id id)

abbrev pub paper_named : Result Storm Reason → StormSaid
paper_named (Ok found.None) = no_storm
paper_named (Ok (found.Found id)) = storm (paper_id id)
paper_named (Err reason) = refused_storm

-- ---- what is printed
-- a number in at least so many digits, with zeros before it: std's word for `{:02}` where the width is 2
abbrev pub zero_padded : ℕ → ℕ → List ℕ
zero_padded width n = styled_decimal (format_spec 32 0 4 width (2 ^ 64 - 1)) n

-- "two capitals and six digits": the basin, the number and the year
abbrev pub storm_text : StormId → List ℕ
storm_text id = paper_basin id.basin ++ (zero_padded 2 id.number ++ zero_padded 4 id.year)
