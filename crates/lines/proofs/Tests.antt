-- What a line's bytes are: opening a block, byte by byte. Assumes nothing.
use Prim.Native.Nat.{ℕ}
use mathlib.Core.Path.{◌≡◌, refl}
use mathlib.Core.List.{List, [], ◌∷◌}
use mathlib.Core.Bool.{◌&&◌, ◌||◌, and-true, and_assoc}
use lib.ListN.{get_or}
use lib.Dec.{eqb}
use Rattle.lines.specs.Bytes.{capital, digit, one_of, word}
use Rattle.lines.specs.Lines.{opens, prefix_form, three_digits}
use Rattle.lines.proofs.Strings.{begins_is}

pub opens_is : (s : List ℕ)
    → opens s
    ≡ (capital (get_or s 0 0) && capital (get_or s 1 0) && one_of "CZ" (get_or s 2 0)
    && (digit (get_or s 3 0) && digit (get_or s 4 0) && digit (get_or s 5 0) || eqb (get_or s 3 0) 65 && eqb (get_or s 4 0) 76 && eqb (get_or s 5 0) 76)
    && one_of "->" (get_or s 6 0))
unfolding opens
opens_is s =
    simp (begins_is prefix_form s 0 (refl, (refl, (refl, tt))), begins_is three_digits s 3 (refl, (refl, (refl, tt))), begins_is (word "ALL") s 3 (refl, (refl, (refl, tt))), begins_is (one_of "->" ∷ []) s 6 (refl, tt), and-true, and_assoc)
