-- The elements of what is written are those that were put together, they say the places and the purge, and so they are read back. Assumes nothing.
use Prim.Native.Nat.{ℕ, ◌<◌}
use native.Mathlib.Omega.{arith}
use mathlib.Core.Path.{◌≡◌, refl, ap, ◌∙◌, subst}
use mathlib.Core.Bool.{true, false}
use mathlib.Core.List.{List, [], ◌∷◌, ◌++◌}
use Rattle.std.specs.Prelude.{Option, None, Some}
use borrow.Author.Tests.{lt-leb}
use Rattle.laws.specs.Lists.{All, all_nil, all_cons}
use Rattle.laws.proofs.Lists.{all_map}
use Rattle.lines.specs.declared.End.{End}
use Rattle.calendar.specs.Calendar.{is_time}
use Rattle.calendar.specs.declared.Stamp.{Stamp}
use Rattle.codes.specs.Places.{Ascending}
use Rattle.codes.specs.Elements.{Element, elements_from}
use Rattle.codes.specs.Block.{block, read_from, Stretch, stretch_of, covered_before, twice_from}
use Rattle.codes.specs.Written.{Run, runs_of, spans_of, elements_of, purge_element, block_elements, wrapped, rendered, written}
use Rattle.lines.specs.Lines.{ends_line}
use Rattle.roundtrip.proofs.Split.{Starts, last_one, next_one, starts_nothing, starts_rendered}
use Rattle.roundtrip.proofs.Said.{element_short, purge_short}
use Rattle.roundtrip.proofs.Runs.{places_of, spans_places, spans_fine, Reads, stops, goes, reads_nothing, words_spans, reads_spans, Rising, rising_end, rising_on, rising_nothing, rising_spans}
use Rattle.codes.proofs.Turns.{read_covers, read_purge_lem}
use Rattle.codes.proofs.Twice.{twice_covers, twice_purge}

-- ---- elements that begin with words which say a block are read as that block
pub read_starts : (stop : ℕ) {s : Stamp} {ps : List ℕ} {last : Option ℕ} {got : List ℕ} {bs : List (List ℕ)} {es : List Element}
    → Starts bs es → Reads s ps last got bs → (z : ℕ) × (read_from stop last got es ≡ block ps s z)
read_starts stop {s} (last_one {e} {es} x t) (stops {l} {g} a q) =
    (e.at, read_purge_lem stop l g e es s (rw x a) ∙ rw t (ap (λ (y : List ℕ). block y s e.at) q))
read_starts stop (last_one x t) (goes p n m a r) = absurd (reads_nothing r)
read_starts stop (next_one x t) (stops a q) = absurd (starts_nothing t)
read_starts stop (next_one {e} {es} x t) (goes {l} {g} p n m a r) =
    let y = read_starts stop {last = Some p} t r in
    (y.0, read_covers stop l g e es p n m (rw x a) ∙ y.1)

-- ---- and where each covers places above those before it, none covers a place again
above_free : (a : Stretch) {before : List Stretch} → All (λ b. b.to < a.from) before → covered_before a before ≡ false
unfolding covered_before
above_free a all_nil = refl
above_free a (all_cons {x = b} h u) = rw (lt-leb a.from b.to h) (above_free a u)

once_starts : {last : Option ℕ} {bound : ℕ} {bs : List (List ℕ)} {es : List Element} → Starts bs es → Rising last bound bs
    → {before : List Stretch} → All (λ b. b.to < bound) before → twice_from last before es ≡ None
once_starts (last_one {e} {es} x t) (rising_end {l} s a) {before} u = twice_purge l before e es s (rw x a)
once_starts (last_one x t) (rising_on p n m a h k r) u = absurd (rising_nothing r)
once_starts (next_one x t) (rising_end s a) u = absurd (starts_nothing t)
once_starts (next_one {e} {es} x t) (rising_on {l} p n m a h k r) {before} u =
    let free : covered_before (stretch_of p n m) before ≡ false = above_free (stretch_of p n m) (all_map (λ b g. omega arith) u) in
    twice_covers l before e es p n m (rw x a) ∙ rw free (once_starts {last = Some p} t r (all_cons {x = stretch_of p n m} (omega arith) (all_map (λ b g. omega arith) u)))

-- ---- the elements of what is written say the places and the purge
pub written_reads : (ps : List ℕ) (s : Stamp) → Ascending 0 ps → is_time s ≡ true → Reads s ps None [] (block_elements ps s)
unfolding block_elements
written_reads ps s a t =
    let e : places_of (spans_of (runs_of ps)) ≡ ps = spans_places ps in
    subst (λ (x : List ℕ). Reads s x None [] (block_elements ps s)) e (reads_spans s t None [] {b = 0} (spans_fine a) (rw e a) all_nil)

-- and each covers places above those before it
written_rising : (ps : List ℕ) (s : Stamp) → Ascending 0 ps → is_time s ≡ true → Rising None 0 (block_elements ps s)
unfolding block_elements
written_rising ps s a t = rising_spans s t None (spans_fine a) (rw (spans_places ps) a)

-- ---- what is written, its lines ending so, begins with them
module _ (end : End) (so : ends_line end ≡ true) where
  spans_start : (at : ℕ) (s : Stamp) (rest : List ℕ) (rs : List Run)
      → Starts (elements_of None rs ++ (purge_element s ∷ [])) (elements_from at (rendered end (wrapped (elements_of None rs ++ (purge_element s ∷ []))) ++ rest))
  unfolding elements_of
  spans_start at s rest [] = starts_rendered end so at rest (purge_short s) (words_spans s None [])
  spans_start at s rest (r ∷ rs) = starts_rendered end so at rest (element_short None r) (words_spans s None (r ∷ rs))

  pub written_starts : (at : ℕ) (ps rest : List ℕ) (s : Stamp) → Starts (block_elements ps s) (elements_from at (written end ps s ++ rest))
  unfolding written block_elements
  written_starts at ps rest s = spans_start at s rest (spans_of (runs_of ps))

  -- The written form never repeats a place.
  pub written_once : (at : ℕ) (ps rest : List ℕ) (s : Stamp) → Ascending 0 ps → is_time s ≡ true → twice_from None [] (elements_from at (written end ps s ++ rest)) ≡ None
  written_once at ps rest s a t = once_starts (written_starts at ps rest s) (written_rising ps s a t) all_nil
