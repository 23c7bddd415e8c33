-- Another content for the copy of a segment: none is there, or it is the content that the copy has. Assumes nothing.
use Prim.Native.Nat.{ℕ}
use mathlib.Core.Path.{◌≡◌, refl, sym, ap, ap₂, ◌∙◌}
use mathlib.Core.Bool.{true, false}
use mathlib.Core.List.{List, [], ◌∷◌}
use Rattle.std.specs.Prelude.{Some}
use lib.Dec.{eqb}
use borrow.Author.Tests.{eqb-true}
use Rattle.laws.proofs.Tests.{by, apart}
use Rattle.codes.specs.Block.{Content}
use Rattle.steps.specs.Book.{Copy}
use Rattle.steps.specs.Calls.{copy_of, recopy, has}
use Rattle.layout.specs.Sound.{Distinct, first_once}

-- another content for a segment that has no copy
pub recopy_absent : (s : ℕ) (c : Content) (ks : List Copy) → has s ks ≡ false → recopy s c ks ≡ ks
unfolding recopy has
recopy_absent s c [] e = refl
recopy_absent s c (k ∷ ks) e =
    by (eqb s k.segment) (λ t. let f : true ≡ false = rw t at e in apart cc)
    (λ t. let f : has s ks ≡ false = rw t at e in rw t (ap (λ (r : List Copy). k ∷ r) (recopy_absent s c ks f)))

-- the same content again
pub recopy_same : (s : ℕ) (c : Content) (ks : List Copy) → copy_of s ks ≡ Some c → Distinct ks → recopy s c ks ≡ ks
unfolding copy_of recopy
recopy_same s c [] e x = refl
recopy_same s c (k ∷ ks) e (first_once absent x) =
    by (eqb s k.segment)
    (λ t. let f : Some k.held ≡ Some c = rw t at e in let g : k.held ≡ c = cc in
    let m : s ≡ k.segment = eqb-true s k.segment t in
    rw t (ap₂ (λ (h : Content) (r : List Copy). record { segment = k.segment; held = h } ∷ r) (sym g)
    (recopy_absent s c ks (ap (λ (n : ℕ). has n ks) m ∙ absent))))
    (λ t. let f : copy_of s ks ≡ Some c = rw t at e in rw t (ap (λ (r : List Copy). k ∷ r) (recopy_same s c ks f x)))
