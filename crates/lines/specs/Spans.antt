-- What the code's types mean: it serves the code, and is none of document 01.
use Rattle.std.specs.Prelude.{ℕ, ◌+◌, ◌-◌, List, [], ◌∷◌, cond, length, take, drop}
use Rattle.std.specs.Prelude.{Option, None, Some}
use Rattle.lines.specs.Bytes.{word, begins}
use Rattle.lines.specs.Lines.{Line, lines_from}
use Rattle.lines.specs.declared.Span.{Span}
use Rattle.lines.specs.declared.End.{End}
use Rattle.lines.specs.declared.End.TheVariants.{Lf, CrLf, CrCrLf, Nothing}

-- the places of the first of these lines, if there is one
abbrev pub span_of : List Line → Option Span
span_of [] = None
span_of (l ∷ ls) = Some (record { start = l.start; end = l.start + length l.body; next = l.next; ended = l.ended })

-- the line of the text that starts at `at`, if one starts there
unfoldable pub span_at : List ℕ → ℕ → Option Span
span_at text at = span_of (lines_from at (drop at text))

-- the bytes from one place up to another, as far as the text has them
abbrev pub part : List ℕ → ℕ → ℕ → List ℕ
part text from to = take (to - from) (drop from text)

-- the line's end at the front of s: LF, CR LF, CR CR LF, or none
unfoldable pub end_at : List ℕ → End
end_at s = cond (begins (word "\n") s) Lf (cond (begins (word "\r\n") s) CrLf (cond (begins (word "\r\r\n") s) CrCrLf Nothing))
