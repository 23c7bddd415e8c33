-- The first line, by its bytes. Assumes nothing.
use Rattle.std.specs.Prelude.{None, Some}
use Prim.Native.Nat.{ℕ, ◌+◌, ◌*◌}
use mathlib.Core.Path.{◌≡◌, refl}
use mathlib.Core.List.{List}
use mathlib.Core.Bool.{Bool, true, false, ◌&&◌, and-true, and_assoc}
use lib.ListN.{get_or, drop}
use lib.Dec.{eqb}
use Rattle.lines.specs.Bytes.{digit, begins}
use Rattle.lines.proofs.Strings.{begins_is}
use Rattle.codes.specs.Places.{two_of}
use Rattle.printing.specs.Asked.{asked_form, asked_of}

module _ (s : List ℕ) (a b c d e f : Bool) (space end : ℕ) (ea : a ≡ digit (get_or s 0 0)) (eb : b ≡ digit (get_or s 1 0)) (ec : c ≡ digit (get_or s 2 0)) (ed : d ≡ digit (get_or s 3 0))
    (es : space ≡ get_or s 4 0) (ee : e ≡ digit (get_or s 5 0)) (ef : f ≡ digit (get_or s 6 0)) (en : end ≡ get_or s 7 0) where
  form_is : begins asked_form s ≡ (a && b && c && d && eqb space 32 && (e && f) && eqb end 10)
  form_is =
      simp (begins_is asked_form s 0 (refl, (refl, (refl, (refl, (refl, (refl, (refl, (refl, tt)))))))), ea, eb, ec, ed, es, ee, ef, en, and-true, and_assoc)

  pub asked_month : (a && b && c && d && eqb space 32 && (e && f) && eqb end 10) ≡ true → (x y m : ℕ) → x ≡ two_of (drop 0 s) → y ≡ two_of (drop 2 s) → m ≡ two_of (drop 5 s)
      → Some (record { year = 100 * x + y; month = m }) ≡ asked_of s
  unfolding asked_of
  asked_month t x y m p q r = rw (form_is, t, p, q, r)

  pub asked_wrong : (a && b && c && d && eqb space 32 && (e && f) && eqb end 10) ≡ false → None ≡ asked_of s
  unfolding asked_of
  asked_wrong t = rw (form_is, t)
