-- Document 01, "Text and lines": line 1 and line 2.
use Rattle.std.specs.Prelude.{ℕ, zero, suc, List, [], ◌∷◌, ◌++◌, Bool, cond, ◌&&◌, ◌||◌, drop}
use Rattle.std.specs.Prelude.{Option, None, Some}
use Prim.Native.String.{String}
use Rattle.lines.specs.Bytes.{Kind, between, capital, digit, is, word, exactly}
use Rattle.calendar.specs.Calendar.{is_time}
use Rattle.calendar.specs.declared.Stamp.{Stamp}
use Rattle.codes.specs.Elements.{stamp_of}

-- n bytes of one kind
abbrev pub times : ℕ → Kind → List Kind
times zero k = []
times (suc n) k = k ∷ times n k

-- ---- line 1: "`TTAAii CCCC DDHHMM`, single spaces, four capitals then two digits; four capitals"
abbrev pub heading_form : List Kind
heading_form = times 4 capital ++ (times 2 digit ++ (word " " ++ (times 4 capital ++ (word " " ++ times 6 digit))))

-- "A..X or Z. Y is refused."
abbrev pub amendment : Kind
amendment b = between 65 88 b || is 90 b

-- "optionally a space and BBB: AA, CC or RR, then A..X or Z .. Nothing follows."
abbrev pub amended_form : String → List Kind
amended_form pair = heading_form ++ (word " " ++ (word pair ++ (amendment ∷ [])))

unfoldable pub is_heading : List ℕ → Bool
is_heading s =
    (exactly heading_form s || exactly (amended_form "AA") s || exactly (amended_form "CC") s || exactly (amended_form "RR") s)
    && is_time (stamp_of (drop 12 s))

-- its DDHHMM, and the three bytes of its BBB where it has one
pub record Heading : Type 0 where
  pub stamp : Stamp
  pub bbb : Option (List ℕ)

-- what follows DDHHMM: nothing, or a space and BBB
abbrev pub bbb_after : List ℕ → Option (List ℕ)
bbb_after [] = None
bbb_after (space ∷ bbb) = Some bbb

unfoldable pub heading_of : List ℕ → Option Heading
heading_of s = cond (is_heading s) (Some (record { stamp = stamp_of (drop 12 s); bbb = bbb_after (drop 18 s) })) None

-- ---- line 2: "exactly six bytes. The first four are capitals or digits; each of the last two is a capital, digit or space, and nothing but space follows a space."
abbrev pub capital_or_digit : Kind
capital_or_digit b = capital b || digit b

abbrev pub identifier_form : List Kind → List Kind
identifier_form end = times 4 capital_or_digit ++ end

unfoldable pub is_identifier : List ℕ → Bool
is_identifier s =
    exactly (identifier_form (times 2 capital_or_digit)) s || exactly (identifier_form (capital_or_digit ∷ word " ")) s || exactly (identifier_form (word "  ")) s
