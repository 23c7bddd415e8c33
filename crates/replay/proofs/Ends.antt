-- Where a line ends, byte by byte. Assumes nothing.
use Prim.Native.Nat.{ℕ, ◌+◌, ◌≤◌, ◌<◌}
use native.Mathlib.Numerals.{add-one}
use native.Mathlib.Omega.{arith}
use mathlib.Core.Path.{◌≡◌, refl, sym, ◌∙◌}
use mathlib.Core.List.{List}
use lib.ListN.{length, get_or, drop, drop_of_length-le}
use lib.Seq.{drop-cons}
use borrow.Author.Tests.{eq-eqb, ne_eqb}
use Rattle.lines.specs.Bytes.{lf}
use Rattle.replay.specs.Lines.{line_up_to}

-- No LF stands from `at` up to i.
pub record Passes (s : List ℕ) (at i : ℕ) : Type 0 where
  pub low : at ≤ i
  pub high : i ≤ length s
  pub same : at + length (line_up_to lf (drop at s)) ≡ i + length (line_up_to lf (drop i s))

pub passes_start : (s : List ℕ) (at : ℕ) → at ≤ length s → Passes s at at
passes_start s at h = record { low = omega arith; high = h; same = refl }

module _ (s : List ℕ) (at i : ℕ) (r : Passes s at i) where
  pub passes_on : i < length s → (get_or s i 0 ≡ 10 → ⊥) → Passes s at (i + 1)
  unfolding line_up_to
  passes_on h n =
      rw add-one
      record { low = omega (arith, r.low); high = omega arith; same = r.same ∙ rw (drop-cons s i 0 h, ne_eqb (get_or s i 0) 10 n) (omega arith) }

  pub passes_lf : i < length s → get_or s i 0 ≡ 10 → i ≡ at + length (line_up_to lf (drop at s))
  unfolding line_up_to
  passes_lf h e = sym (r.same ∙ rw (drop-cons s i 0 h, eq-eqb (get_or s i 0) 10 e) (omega arith))

  pub passes_end : length s ≤ i → i ≡ at + length (line_up_to lf (drop at s))
  unfolding line_up_to
  passes_end h = sym (r.same ∙ rw (drop_of_length-le s h) (omega arith))
