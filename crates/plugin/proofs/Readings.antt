-- How many segments a bulletin has. Assumes nothing.
use Prim.Native.Nat.{ℕ}
use native.Mathlib.Omega.{arith}
use mathlib.Core.Path.{◌≡◌, refl, sym, ap, ◌∙◌}
use mathlib.Core.List.{List}
use lib.Seq.{length-take-le}
use Rattle.std.specs.Prelude.{Result, Ok, IfOk}
use Rattle.refusal.specs.Answer.{answer_by}
use Rattle.refusal.specs.declared.Refusal.{Refusal}
use Rattle.segments.specs.Seen.{Sized}
use Rattle.bulletin.specs.Bulletin.{read_bulletin}
use Rattle.bulletin.specs.Report.{Reads, report_said, reported}
use Rattle.bulletin.specs.declared.Bulletin.{Bulletin}
use Rattle.packing.specs.Packing.{cell, pack}
use Rattle.plugin.specs.Rules.{count_in}

pub count_told : (r : Result Bulletin Refusal) → IfOk r (λ b. Sized b.segments) → (b : Bulletin) → r ≡ Ok b
    → (n : ℕ) → n ≡ b.segments.count → n ≡ count_in (report_said b)
count_told r z b q n e =
    let s : Sized b.segments = rw q at z in
    e ∙ sym (length-take-le b.segments.count b.segments.held (omega (arith, s.long, s.few)))

-- so is the answer packed
pub read_count_lem : (s : List ℕ) (year month : ℕ) (r : Result Bulletin Refusal) → Reads s year month r → IfOk r (λ b. Sized b.segments)
    → (b : Bulletin) → r ≡ Ok b → (c : ℕ) → c ≡ cell 0 b.segments.count → c ≡ pack count_in (reported (read_bulletin s year month))
unfolding pack
read_count_lem s year month r reads z b q c e =
    e ∙ ap (cell 0) (count_told r z b q b.segments.count refl)
    ∙ ap (λ (x : Result Bulletin Refusal). pack count_in (answer_by report_said x)) (sym q)
    ∙ ap (pack count_in) reads.says
