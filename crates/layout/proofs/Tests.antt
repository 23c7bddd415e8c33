-- Laws of the tests that decide whether a book's bytes are sound. Assumes nothing.
use Prim.Native.Nat.{ℕ, zero, suc, ◌<◌}
use native.Mathlib.Numerals.{add-one}
use native.Mathlib.Omega.{arith}
use mathlib.Core.Path.{◌≡◌, refl, sym, ap}
use mathlib.Core.Bool.{Bool, true, false, ◌&&◌}
use mathlib.Core.List.{List}
use lib.ListN.{get_or}
use lib.Dec.{leb, ltb}
use borrow.Author.Tests.{lt-leb}
use Rattle.std.specs.List.{list_all, range_with_len}
use Rattle.months.proofs.Laws.{start_issues}
use Rattle.codes.specs.Places.{upward}
use Rattle.steps.specs.Calls.{steps_most}
use Rattle.laws.specs.Lists.{every}
use Rattle.layout.specs.Sound.{is_issue}
use Rattle.layout.specs.Tests.{is_index}

-- ---- a test of all numbers from one on, in the library's words
pub all_upward : (p : ℕ → Bool) (first count : ℕ) → list_all p (range_with_len first count) ≡ every p (upward first count)
unfolding every upward
all_upward p first zero = refl
all_upward p first (suc n) = ap (λ (t : Bool). p first && t) (rw add-one (all_upward p (suc first) n))

-- ---- block 0
pub issue_is : (issue : ℕ) → ltb issue 68374080 ≡ is_issue issue
unfolding is_issue
issue_is issue = ap (ltb issue) (sym start_issues)

and_false : (t : Bool) → (t && false) ≡ false
and_false true = refl
and_false false = refl

-- no block 0 has more than 16 steps
pub index_many : (b : List ℕ) (m : ℕ) → m ≡ get_or b 24 0 → steps_most < m → false ≡ is_index b
unfolding is_index
index_many b m e h =
    let f : leb (get_or b 24 0) steps_most ≡ false = lt-leb (get_or b 24 0) steps_most (omega arith) in
    sym (rw (f, and_false))
