-- Serves the code: what every work of a draft on a segment asks first, of the refusals that document 01 numbers.
use Rattle.std.specs.Prelude.{ℕ, Bool, true, false, List, length, eqb}
use Rattle.std.specs.Prelude.{Option, None, Some}
use Rattle.refusal.specs.declared.Reason.TheVariants.{WrongLength, NotSound, NoDraft, NoSuchSegment, OutOfRange}
use Rattle.refusal.specs.Answer.{Answer, must, and_then}
use Rattle.codes.specs.Block.{Content}
use Rattle.blocks.specs.Block.{book_length}
use Rattle.steps.specs.Book.{Draft, closed, working, at, draft_at}
use Rattle.layout.specs.Layout.{book_of}
use Rattle.layout.specs.Tests.{is_sound}

abbrev pub is_open : Draft → Bool
is_open closed = false
is_open (working ks stale) = true

abbrev pub exists : Option Content → Bool
exists None = false
exists (Some c) = true

-- "Book calls: 1, 12, 13, 24 (place or time), 15"
unfoldable pub admission : List ℕ → ℕ → Bool → ℕ → Answer Unit
admission l d in_range s =
    and_then (must (eqb (length l) book_length) WrongLength 0) λ _.
    and_then (must (is_sound l) NotSound 0) λ _.
    and_then (must (is_open (draft_at (book_of l).drafts d)) NoDraft 0) λ _.
    and_then (must in_range OutOfRange 0) λ _.
    must (exists (at (book_of l).segments s)) NoSuchSegment 0
