-- The issue of a good block 0 has a window, which tells its purge minutes. Assumes nothing.
use Prim.Native.Nat.{ℕ}
use mathlib.Core.Path.{◌≡◌, sym, ◌∙◌, subst}
use mathlib.Core.Bool.{Bool, true}
use mathlib.Core.List.{List}
use Rattle.std.specs.Prelude.{Option, None, Some}
use borrow.Author.Tests.{ltb-true}
use Rattle.laws.proofs.Tests.{apart}
use Rattle.months.specs.Months.{start_of, issue_months}
use Rattle.calendar.specs.Window.{window_of, WindowOf}
use Rattle.calendar.specs.declared.Window.{Window}
use Rattle.calendar.proofs.Windows.{window_tells, window_some}
use Rattle.blocks.specs.Block.{number_at, block_of}
use Rattle.layout.specs.Sound.{is_issue}
use Rattle.layout.specs.Tests.{is_index}
use Rattle.layout.proofs.Parts.{index_parts, number_0}

-- the issue of a good block 0 is of the years 1970..2099
pub index_issue : (l : List ℕ) → is_index (block_of 0 l) ≡ true → is_issue (number_at l 0) ≡ true
index_issue l h = subst (λ (issue : ℕ). is_issue issue ≡ true) (number_0 l) (index_parts (block_of 0 l) h).year

module _ (l : List ℕ) (issue : ℕ) (e : issue ≡ number_at l 0) (r : Option Window) (g : r ≡ window_of issue) where
  -- so it has a window: where there is none, whatever is answered is right
  pub window_there : is_issue (number_at l 0) ≡ true → r ≡ None → (answer whole : Bool) → answer ≡ whole
  unfolding is_issue
  window_there h q answer whole =
      let known : window_of issue ≡ None = sym g ∙ q in
      let low : is_issue issue ≡ true = subst (λ (x : ℕ). is_issue x ≡ true) (sym e) h in
      let w = window_some issue (ltb-true issue (start_of issue_months) low) in
      let found : window_of issue ≡ Some w.0 = w.1 in
      let z : ◌≡◌ {A = ℕ} 0 1 = cc in
      apart z

  -- which tells the purge minutes
  pub window_told : (w : Window) → r ≡ Some w → WindowOf (number_at l 0) w
  window_told w q = subst (λ (x : ℕ). WindowOf x w) e (window_tells issue w (sym g ∙ q))
