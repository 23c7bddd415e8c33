-- The lines of a text: document 01, "Text and lines", and the lines that "Segments and place code blocks" tells apart.
use Rattle.std.specs.Prelude.{ℕ, ◌+◌, List, [], ◌∷◌, Bool, true, false, cond, ◌&&◌, ◌||◌, length, drop, eqb}
use Rattle.lines.specs.Bytes.{Kind, bytes, lf, capital, digit, one_of, word, begins, exactly}
use Rattle.lines.specs.declared.End.{End}
use Rattle.lines.specs.declared.End.TheVariants.{Lf, CrLf, CrCrLf, Nothing}

-- ---- pieces: each up to and with the next `sep`, and what is left after the last one
abbrev pub glue : ℕ → List (List ℕ) → List (List ℕ)
glue b [] = (b ∷ []) ∷ []
glue b (p ∷ ps) = (b ∷ p) ∷ ps

unfoldable pub pieces : ℕ → List ℕ → List (List ℕ)
pieces sep [] = []
pieces sep (b ∷ s) = cond (eqb b sep) ((b ∷ []) ∷ pieces sep s) (glue b (pieces sep s))

-- ---- "A line ends at LF, with the one or two CR before it"
unfoldable pub line_end : List ℕ → Bool
line_end s = exactly (word "\n") s || exactly (word "\r\n") s || exactly (word "\r\r\n") s

-- a line's bytes without its end
unfoldable pub body_of : List ℕ → List ℕ
body_of [] = []
body_of (b ∷ s) = cond (line_end (b ∷ s)) [] (b ∷ body_of s)

-- "whether it ended LF, CR LF or CR CR LF" (document 02, R-5): the bytes of each of the three; a last line that does not end has none of them
abbrev pub end_bytes : End → List ℕ
end_bytes Lf = bytes "\n"
end_bytes CrLf = bytes "\r\n"
end_bytes CrCrLf = bytes "\r\r\n"
end_bytes Nothing = []

-- it is one of the three
abbrev pub ends_line : End → Bool
ends_line Lf = true
ends_line CrLf = true
ends_line CrCrLf = true
ends_line Nothing = false

-- which of them these bytes are
unfoldable pub end_named : List ℕ → End
end_named s = cond (exactly (word "\n") s) Lf (cond (exactly (word "\r\n") s) CrLf (cond (exactly (word "\r\r\n") s) CrCrLf Nothing))

-- how a line ended: by the bytes that are none of its body
unfoldable pub ended_by : List ℕ → End
ended_by p = end_named (drop (length (body_of p)) p)

-- the place of its first byte, its bytes without its end, the place after its end, and how it ended
pub record Line : Type 0 where
  pub start : ℕ
  pub body : List ℕ
  pub next : ℕ
  pub ended : End

-- the lines of these pieces, the first of which has the place `at`
unfoldable pub lines_at : ℕ → List (List ℕ) → List Line
lines_at at [] = []
lines_at at (p ∷ ps) = record { start = at; body = body_of p; next = at + length p; ended = ended_by p } ∷ lines_at (at + length p) ps

-- the lines of a text whose first byte has the place `at`
abbrev pub lines_from : ℕ → List ℕ → List Line
lines_from at text = lines_at at (pieces lf text)

abbrev pub lines_of : List ℕ → List Line
lines_of text = lines_from 0 text

-- ---- what a line's bytes are
-- "A line is blank if it has no byte but spaces."
unfoldable pub blank : List ℕ → Bool
blank [] = true
blank (b ∷ s) = eqb b 32 && blank s

-- "the line that is exactly `$$`"
unfoldable pub is_end : List ℕ → Bool
is_end s = exactly (word "$$") s

-- two capitals, C or Z
abbrev pub prefix_form : List Kind
prefix_form = capital ∷ capital ∷ one_of "CZ" ∷ []

abbrev pub three_digits : List Kind
three_digits = digit ∷ digit ∷ digit ∷ []

-- "A line opens a block if it begins with two capitals, C or Z, then three digits or `ALL`, then `-` or `>`."
unfoldable pub opens : List ℕ → Bool
opens s = begins prefix_form s && (begins three_digits (drop 3 s) || begins (word "ALL") (drop 3 s)) && begins (one_of "->" ∷ []) (drop 6 s)
