-- What is printed of a listing with numbers in it, each in decimal digits.
use Rattle.std.specs.Prelude.{ℕ, List, ◌++◌, decimal}
use Rattle.refusal.specs.Numbers.{number_of}
use Rattle.refusal.specs.declared.Refusal.{Refusal}
use Rattle.lines.specs.Bytes.{bytes}
use Rattle.segments.specs.declared.Segment.{Segment}

-- a refusal: `R`, its number and its place
abbrev pub refusal_line : Refusal → List ℕ
refusal_line r = bytes "R " ++ (decimal (number_of r.reason) ++ (bytes " " ++ (decimal r.place ++ bytes "\n")))

-- the front of a segment's line: `S`, its number, its purge minute and how many places it names; its codes follow
abbrev pub segment_front : ℕ → Segment → List ℕ
segment_front n g = bytes "S " ++ (decimal n ++ (bytes " " ++ (decimal g.purge ++ (bytes " " ++ (decimal g.count ++ bytes " ")))))
