-- Refusal 2 of document 01: "byte, line length or last line end wrong", at the "least of: bad byte, 133rd byte of a line, text length".
use Rattle.std.specs.Prelude.{ℕ, suc, ◌+◌, min, List, [], ◌∷◌, Bool, true, cond, ◌&&◌, ◌||◌, length, ltb}
use Rattle.std.specs.Prelude.{Option, None, Some}
use Rattle.lines.specs.Bytes.{lf, cr, between, is, word, begins}
use Rattle.lines.specs.Lines.{Line, lines_of}
use Rattle.refusal.specs.Answer.{Answer, refused_at}
use Rattle.refusal.specs.declared.Reason.TheVariants.{WrongText}

-- "Allowed: bytes 32 to 126, LF, and CR only directly before LF or directly before the pair CR LF." s is what follows the byte b.
abbrev pub allowed : ℕ → List ℕ → Bool
allowed b s = between 32 126 b || is lf b || is cr b && (begins (word "\n") s || begins (word "\r\n") s)

-- the place of the first byte that is not allowed; the first byte of s has the place `at`
unfoldable pub bad_byte : ℕ → List ℕ → Option ℕ
bad_byte at [] = None
bad_byte at (b ∷ s) = cond (allowed b s) (bad_byte (suc at) s) (Some at)

-- "A line has at most 132 bytes without its end."
abbrev pub line_most : ℕ
line_most = 132

-- the place of the 133rd byte of the first line that has one
unfoldable pub long_line : List Line → Option ℕ
long_line [] = None
long_line (l ∷ ls) = cond (ltb line_most (length l.body)) (Some (l.start + line_most)) (long_line ls)

-- "the last line must end": with LF, the text's last byte
unfoldable pub last_ends : List ℕ → Bool
last_ends [] = true
last_ends (b ∷ []) = is lf b
last_ends (b ∷ (c ∷ s)) = last_ends (c ∷ s)

-- the text's length, where the last line does not end
unfoldable pub unended : List ℕ → Option ℕ
unended text = cond (last_ends text) None (Some (length text))

unfoldable pub least : Option ℕ → Option ℕ → Option ℕ
least None o = o
least (Some m) None = Some m
least (Some m) (Some n) = Some (min m n)

unfoldable pub text_fault : List ℕ → Option ℕ
text_fault text = least (bad_byte 0 text) (least (long_line (lines_of text)) (unended text))

-- | 2 | byte, line length or last line end wrong | least of: bad byte, 133rd byte of a line, text length |
unfoldable pub check_text : List ℕ → Answer Unit
check_text text = refused_at WrongText (text_fault text)
