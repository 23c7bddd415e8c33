-- Document 01, "Numbered refusals", and what document 02 adds: the number of each row of the table. Each has its sentence, as the variants of `Reason` do.
use Rattle.std.specs.Prelude.{ℕ}
use Rattle.refusal.specs.declared.Reason.{Reason}
use Rattle.refusal.specs.declared.Reason.TheVariants.{WrongLength, WrongText, WrongHeading, WrongIdentifier, WrongTime, WrongBlock, NoSegment, NoEnd, NinthSegment, WrongStorm, TooManyPlaces, NotSound, NoDraft, AllOpen, NoSuchSegment, NotTaken, TakenAlready, TwoTaken, SegmentFull, OnlyPlace, StaleDraft, NoStep, OutputShort, OutOfRange, PlaceTwice, NotBelonging}

abbrev pub number_of : Reason → ℕ
-- text or book length wrong
number_of WrongLength = 1
-- byte, line length or last line end wrong
number_of WrongText = 2
-- line 1
number_of WrongHeading = 3
-- line 2
number_of WrongIdentifier = 4
-- year, month, issue day, or purge has no minute
number_of WrongTime = 5
-- block wrong
number_of WrongBlock = 6
-- no segment
number_of NoSegment = 7
-- no `$$`
number_of NoEnd = 8
-- a ninth segment
number_of NinthSegment = 9
-- storm identifier
number_of WrongStorm = 10
-- over 120 places
number_of TooManyPlaces = 11
-- book not sound
number_of NotSound = 12
-- draft not 1..4 or not open
number_of NoDraft = 13
-- four open
number_of AllOpen = 14
-- no such segment
number_of NoSuchSegment = 15
-- not taken
number_of NotTaken = 16
-- taken already
number_of TakenAlready = 17
-- two taken
number_of TwoTaken = 18
-- adding an absent place to 120
number_of SegmentFull = 19
-- removing the only place
number_of OnlyPlace = 20
-- commit of a stale draft
number_of StaleDraft = 21
-- no step to undo
number_of NoStep = 22
-- output shorter than the block
number_of OutputShort = 23
-- a place, DD, HH, MM or index handed in out of range
number_of OutOfRange = 24
-- two elements of a block cover one place (document 02, R-3)
number_of PlaceTwice = 25
-- the text does not belong to the book (document 02, R-1)
number_of NotBelonging = 27
