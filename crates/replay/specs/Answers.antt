-- What the replay program prints for a line: docs/REPLAY.md, the table of lines. Each number is written in decimal digits.
use Rattle.std.specs.Prelude.{ℕ, List, ◌++◌, Bool, cond, decimal, Result, Ok, Err}
use Rattle.refusal.specs.declared.Refusal.{Refusal}
use Rattle.lines.specs.Bytes.{bytes}
use Rattle.layout.specs.declared.Changed.{Changed}
use Rattle.layout.specs.declared.Changed.TheVariants as changed
use Rattle.layout.specs.declared.Reply.{Reply}
use Rattle.layout.specs.declared.Reply.TheVariants as reply
use Rattle.printing.specs.Answer.{refusal_line}

-- "A line of any other form, or with a number out of the range given here, prints `?`."
abbrev pub unknown_line : List ℕ
unknown_line = bytes "?\n"

-- "`K`"
abbrev pub done_line : List ℕ
done_line = bytes "K\n"

-- "`D` and the draft's number"
abbrev pub draft_line : ℕ → List ℕ
draft_line d = bytes "D " ++ (decimal d ++ bytes "\n")

-- "`V` and the minute", the count, or the place
abbrev pub value_line : ℕ → List ℕ
value_line n = bytes "V " ++ (decimal n ++ bytes "\n")

-- "`V 1` where it was there, `V 0` where not"
abbrev pub was_line : Bool → List ℕ
was_line there = cond there (bytes "V 1\n") (bytes "V 0\n")

-- "`S` and the changed segments, each after a space"
abbrev pub changed_line : Changed → List ℕ
changed_line changed.Nothing = bytes "S\n"
changed_line (changed.One a) = bytes "S " ++ (decimal a ++ bytes "\n")
changed_line (changed.Two a b) = bytes "S " ++ (decimal a ++ (bytes " " ++ (decimal b ++ bytes "\n")))

-- the answer of a call on a book: "A refused call prints `R`, the number and the place."
abbrev pub reply_line : Result Reply Refusal → List ℕ
reply_line (Ok (reply.Draft d)) = draft_line d
reply_line (Ok reply.Done) = done_line
reply_line (Ok (reply.Number n)) = value_line n
reply_line (Ok (reply.Was there)) = was_line there
reply_line (Ok (reply.Segments c)) = changed_line c
reply_line (Err r) = refusal_line r

-- that of make
abbrev pub verdict_line : Result Unit Refusal → List ℕ
verdict_line (Ok done) = done_line
verdict_line (Err r) = refusal_line r

-- "`G`, its start and its length"
abbrev pub viewed_line : ℕ → ℕ → List ℕ
viewed_line start size = bytes "G " ++ (decimal start ++ (bytes " " ++ (decimal size ++ bytes "\n")))

-- "`W`, the length, and the n bytes afterwards in hex": its front
abbrev pub written_front : ℕ → List ℕ
written_front n = bytes "W " ++ (decimal n ++ bytes " ")

-- "`F`, the length, and" the sum over the output
abbrev pub sent_line : ℕ → ℕ → List ℕ
sent_line n sum = bytes "F " ++ (decimal n ++ (bytes " " ++ (decimal sum ++ bytes "\n")))

-- "`Z` and the value"
abbrev pub sum_line : ℕ → List ℕ
sum_line sum = bytes "Z " ++ (decimal sum ++ bytes "\n")
