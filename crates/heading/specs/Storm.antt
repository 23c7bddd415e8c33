-- Document 01, "Text and lines": the office line and its storm identifier.
use Rattle.std.specs.Prelude.{ℕ, ◌+◌, ◌-◌, ◌*◌, List, [], ◌∷◌, ◌++◌, Bool, cond, ◌||◌, length, drop}
use Rattle.std.specs.Prelude.{Option, None, Some}
use Prim.Native.String.{String}
use Rattle.lines.specs.Bytes.{Kind, bytes, between, capital, digit, word, begins, exactly}
use Rattle.codes.specs.Places.{two_of}
use Rattle.heading.specs.Heading.{times}

-- "line that begins `NATIONAL WEATHER SERVICE ` or `NWS `"
unfoldable pub is_office : List ℕ → Bool
is_office s = begins (word "NATIONAL WEATHER SERVICE ") s || begins (word "NWS ") s

-- "If that line's last eight bytes are two capitals and six digits, with a space before them"
abbrev pub storm_form : List Kind
storm_form = word " " ++ (times 2 capital ++ times 6 digit)

unfoldable pub names_storm : List ℕ → Bool
names_storm s = exactly storm_form (drop (length s - 9) s)

-- "basin AL, SL, EP, CP or WP"
abbrev pub basin_names : List String
basin_names = "AL" ∷ "SL" ∷ "EP" ∷ "CP" ∷ "WP" ∷ []

-- the one of these words that stands in front, as its bytes
abbrev pub in_front : List String → List ℕ → Option (List ℕ)
in_front [] e = None
in_front (w ∷ ws) e = cond (begins (word w) e) (Some (bytes w)) (in_front ws e)

unfoldable pub basin_of : List ℕ → Option (List ℕ)
basin_of e = in_front basin_names e

-- "number 01..49 cyclone, 50..79 internal, 80..89 training, 90..99 disturbance"; 00 is none
pub data ClassName : Type 0 where
  cyclone : ClassName
  internal : ClassName
  training : ClassName
  disturbance : ClassName

unfoldable pub class_of : ℕ → Option ClassName
class_of n =
    cond (between 1 49 n) (Some cyclone)
    (cond (between 50 79 n) (Some internal)
    (cond (between 80 89 n) (Some training)
    (cond (between 90 99 n) (Some disturbance) None)))

-- a storm: its basin's two letters, its class, number and year
pub record StormName : Type 0 where
  pub basin : List ℕ
  pub class : ClassName
  pub number : ℕ
  pub year : ℕ

pub data StormSaid : Type 0 where
  -- "Otherwise the answer is `no storm`."
  no_storm : StormSaid
  -- "A found storm carries one of the four classes within it."
  storm : StormName → StormSaid
  -- "Another basin, or 00, is refused."
  refused_storm : StormSaid

-- the storm of eight bytes; "four digits of year, any"
abbrev pub identified : Option (List ℕ) → Option ClassName → ℕ → ℕ → StormSaid
identified None c n y = refused_storm
identified (Some b) None n y = refused_storm
identified (Some b) (Some c) n y = storm (record { basin = b; class = c; number = n; year = y })

abbrev pub storm_spelled : List ℕ → StormSaid
storm_spelled e = identified (basin_of e) (class_of (two_of (drop 2 e))) (two_of (drop 2 e)) (100 * two_of (drop 4 e) + two_of (drop 6 e))

-- what an office line says of a storm
unfoldable pub storm_of : List ℕ → StormSaid
storm_of s = cond (names_storm s) (storm_spelled (drop (length s - 8) s)) no_storm
