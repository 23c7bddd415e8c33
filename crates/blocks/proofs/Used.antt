-- Whether a block is used: a law for a count out of range, and one for the tests that are made of any other. Assumes nothing.
use Prim.Native.Nat.{ℕ, ◌+◌, ◌*◌, ◌≤◌, ◌<◌}
use native.Mathlib.Omega.{arith}
use mathlib.Core.Path.{◌≡◌, refl, ap, ◌∙◌}
use mathlib.Core.Bool.{Bool, true, false, ◌&&◌, and-false, and_comm}
use mathlib.Core.List.{List}
use lib.ListN.{length, drop, get_or}
use Rattle.std.specs.List.{slice_range}
use lib.Seq.{}
use lib.Dec.{leb}
use borrow.Author.Tests.{le-leb, lt-leb}
use Rattle.calendar.specs.Purge.{is_purge}
use Rattle.calendar.specs.Window.{within, WindowOf}
use Rattle.calendar.specs.declared.Window.{Window}
use Rattle.codes.specs.Places.{ascends, capacity}
use Rattle.checks.specs.Seal.{block_length, checked, all_zero}
use Rattle.blocks.specs.Block.{number_at, numbers_of}
use Rattle.blocks.specs.Good.{is_used}
use Rattle.checks.proofs.Zeros.{zero_join}

-- the tests in the code's order
tests_join : (c g t r a p : Bool) → (c && g && t && r && a && p) ≡ (c && (true && true) && g && (r && t) && a && p)
tests_join false g t r a p = refl
tests_join true false t r a p = refl
tests_join true true t r a p = ap (λ (z : Bool). z && a && p) (and_comm t r)

module _ (b : List ℕ) where
  -- a count that is out of range
  pub used_none : get_or b 4 0 < 1 → (issue : ℕ) → false ≡ is_used issue b
  unfolding is_used
  used_none h issue = rw (lt-leb 1 (get_or b 4 0) h, and-false)

  pub used_many : capacity < get_or b 4 0 → (issue : ℕ) → false ≡ is_used issue b
  unfolding is_used
  used_many h issue = rw (lt-leb (get_or b 4 0) capacity h, and-false, and-false)

  -- one that is in it
  module _ (n : ℕ) (count : n ≡ get_or b 4 0) (long : length b ≡ block_length) (some : 1 ≤ n) (few : n ≤ capacity) (w : Window) (c g t r a : Bool) (p : ℕ) (q : Bool)
      (ce : c ≡ checked b) (ge : g ≡ all_zero (slice_range b 5 8)) (te : t ≡ all_zero (slice_range b 488 510))
      (re : r ≡ all_zero (slice_range b (8 + 4 * n) 488)) (ae : a ≡ ascends 0 (numbers_of n (drop 8 b))) (pe : p ≡ number_at b 0) (qe : q ≡ within w p) where
    pub used_tests : (issue : ℕ) → WindowOf issue w → (c && g && t && r && a && q) ≡ is_used issue b
    unfolding is_used
    used_tests issue window =
        let one : leb 1 n ≡ true = le-leb 1 n some in
        let most : leb n capacity ≡ true = le-leb n capacity few in
        let zeros : (r && t) ≡ all_zero (slice_range b (8 + 4 * n) 510) =
        rw (re, te) (zero_join (8 + 4 * n) 488 488 510 b (omega arith) (omega arith) (omega arith) (omega arith)) in
        let purge : q ≡ is_purge issue (number_at b 0) = qe ∙ window p ∙ ap (is_purge issue) pe in
        tests_join c g t r a q ∙ rw (← count, one, most, ← ce, ← ge, ← zeros, ← ae, ← purge)
