-- Document 01: "The listing program reads standard input: `YYYY MM` and LF (eight bytes), then the bulletin."
use Rattle.std.specs.Prelude.{ℕ, ◌+◌, ◌*◌, List, ◌++◌, cond, drop}
use Rattle.std.specs.Prelude.{Option, None, Some}
use Rattle.lines.specs.Bytes.{Kind, digit, word, begins}
use Rattle.heading.specs.Heading.{times}
use Rattle.codes.specs.Places.{two_of}
use Rattle.printing.specs.declared.YearMonth.{YearMonth}

abbrev pub asked_form : List Kind
asked_form = times 4 digit ++ (word " " ++ (times 2 digit ++ word "\n"))

unfoldable pub asked_of : List ℕ → Option YearMonth
asked_of s = cond (begins asked_form s) (Some (record { year = 100 * two_of s + two_of (drop 2 s); month = two_of (drop 5 s) })) None
