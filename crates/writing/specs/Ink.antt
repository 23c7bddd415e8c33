-- Serves the code and its proofs only: the written form, seen by a pen that goes from left to right, with one open run and one column.
use Rattle.std.specs.Prelude.{ℕ, suc, ◌≡◌, true, List, ◌∷◌}
use Rattle.lines.specs.declared.End.{End}
use Rattle.codes.specs.Written.{joins, wrap_from, rendered}

-- an open run: lo, and n more, each of which joins the one before
pub data Open : ℕ → ℕ → Type 0 where
  open_one : {lo : ℕ} → Open lo 0
  open_more : {lo n : ℕ} → joins lo (suc lo) ≡ true → Open (suc lo) n → Open lo (suc n)

-- the rest of the text whose lines end so, on a line that has n bytes so far
unfoldable pub ink_from : End → ℕ → List (List ℕ) → List ℕ
ink_from end n es = rendered end ((wrap_from n es).line ∷ (wrap_from n es).lines)
