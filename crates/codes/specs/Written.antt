-- Document 01, "Written form", in stages: places, runs, elements, lines, bytes.
use Rattle.std.specs.Prelude.{ℕ, suc, zero, ◌+◌, ◌/◌, ◌%◌, List, [], ◌∷◌, ◌++◌, Bool, cond, ◌&&◌, not, length, leb, eqb}
use Rattle.std.specs.Prelude.{Option, None, Some}
use Rattle.lines.specs.Bytes.{bytes}
use Rattle.lines.specs.Lines.{end_bytes}
use Rattle.lines.specs.declared.End.{End}
use Rattle.calendar.specs.declared.Stamp.{Stamp}
use Rattle.codes.specs.Places.{two_bytes, three_bytes, prefix_bytes}

-- ---- runs: a place and how many more follow it
pub record Run : Type 0 where
  pub first : ℕ
  pub more : ℕ

-- "runs of three or more numbers from 001 up": q follows p, and neither is 000, which is "never joined to a run"
abbrev pub joins : ℕ → ℕ → Bool
joins p q = eqb (suc p) q && not (eqb (p % 1000) 0) && not (eqb (q % 1000) 0)

abbrev pub single : ℕ → Run
single p = record { first = p; more = 0 }

-- a place joins the run that starts right after it, or is a run of its own
unfoldable pub join : ℕ → List Run → List Run
join p [] = single p ∷ []
join p (r ∷ rs) = cond (joins p r.first) (record { first = p; more = suc r.more } ∷ rs) (single p ∷ (r ∷ rs))

unfoldable pub runs_of : List ℕ → List Run
runs_of [] = []
runs_of (p ∷ ps) = join p (runs_of ps)

-- "three or more numbers .. as one range, a run of two as two singles"
abbrev pub parted : ℕ → ℕ → List Run
parted p zero = single p ∷ []
parted p (suc zero) = single p ∷ single (suc p) ∷ []
parted p (suc (suc n)) = record { first = p; more = suc (suc n) } ∷ []

unfoldable pub spans_of : List Run → List Run
spans_of [] = []
spans_of (r ∷ rs) = parted r.first r.more ++ spans_of rs

-- ---- elements, each with its `-`
-- "each prefix once"
abbrev pub new_prefix : Option ℕ → ℕ → List ℕ
new_prefix None p = prefix_bytes p
new_prefix (Some q) p = cond (eqb q p) [] (prefix_bytes p)

-- the end of a range of so many more
abbrev pub up_to : ℕ → ℕ → List ℕ
up_to n zero = []
up_to n (suc k) = bytes ">" ++ three_bytes (n + suc k)

unfoldable pub element_of : Option ℕ → Run → List ℕ
element_of last r = new_prefix last (r.first / 1000) ++ (three_bytes (r.first % 1000) ++ (up_to (r.first % 1000) r.more ++ bytes "-"))

unfoldable pub elements_of : Option ℕ → List Run → List (List ℕ)
elements_of last [] = []
elements_of last (r ∷ rs) = element_of last r ∷ elements_of (Some (r.first / 1000)) rs

unfoldable pub purge_element : Stamp → List ℕ
purge_element s = two_bytes s.day ++ (two_bytes s.hour ++ (two_bytes s.minute ++ bytes "-"))

-- "Places ascending by number; .. then the purge": the elements of a block
unfoldable pub block_elements : List ℕ → Stamp → List (List ℕ)
block_elements ps s = elements_of None (spans_of (runs_of ps)) ++ (purge_element s ∷ [])

-- ---- lines: "A new line begins before an element (with its `-`) that would carry the line past 66 bytes."
-- what still goes on this line, and the lines after it
pub record Wrapped : Type 0 where
  pub line : List (List ℕ)
  pub lines : List (List (List ℕ))

abbrev pub on_line : List ℕ → Wrapped → Wrapped
on_line e w = record { line = e ∷ w.line; lines = w.lines }

abbrev pub on_next : List ℕ → Wrapped → Wrapped
on_next e w = record { line = []; lines = (e ∷ w.line) ∷ w.lines }

abbrev pub written_most : ℕ
written_most = 66

-- e goes on a line that has n bytes so far
abbrev pub fits : ℕ → List ℕ → Bool
fits n e = leb (n + length e) written_most

-- this line has n bytes so far
unfoldable pub wrap_from : ℕ → List (List ℕ) → Wrapped
wrap_from n [] = record { line = []; lines = [] }
wrap_from n (e ∷ es) = cond (fits n e) (on_line e (wrap_from (n + length e) es)) (on_next e (wrap_from (length e) es))

abbrev pub wrapped : List (List ℕ) → List (List (List ℕ))
wrapped es = (wrap_from 0 es).line ∷ (wrap_from 0 es).lines

-- ---- bytes
-- "Lines end CR CR LF": those of the write call. An edited bulletin "ends each new block's lines as that block's first line in the text ended" (document 02, R-5), so that the line end is an argument.
unfoldable pub in_order : List (List ℕ) → List ℕ
in_order [] = []
in_order (e ∷ es) = e ++ in_order es

unfoldable pub rendered : End → List (List (List ℕ)) → List ℕ
rendered end [] = []
rendered end (l ∷ ls) = in_order l ++ (end_bytes end ++ rendered end ls)

unfoldable pub written : End → List ℕ → Stamp → List ℕ
written end ps s = rendered end (wrapped (block_elements ps s))
