-- Kinds of bytes and strings of them: the words in which document 01 describes lines, headings and place codes.
use Rattle.std.specs.Prelude.{ℕ, List, [], ◌∷◌, map, Bool, true, false, ◌&&◌, ◌||◌, leb, eqb}
use Prim.Native.String.{String, [] as empty, ◌∷◌ as ◌∷ₛ◌}
use Prim.Native.Char.{code}

-- ---- fixed bytes, written as text
abbrev pub bytes : String → List ℕ
bytes empty = []
bytes (c ∷ₛ s) = code c ∷ bytes s

-- the two bytes that text cannot show
abbrev pub lf : ℕ
lf = 10

abbrev pub cr : ℕ
cr = 13

-- ---- kinds of bytes
abbrev pub Kind : Type 0
Kind = ℕ → Bool

abbrev pub between : ℕ → ℕ → Kind
between low high b = leb low b && leb b high

abbrev pub capital : Kind
capital = between 65 90

abbrev pub digit : Kind
digit = between 48 57

-- this byte alone
abbrev pub is : ℕ → Kind
is c b = eqb b c

-- one of these bytes
abbrev pub among : List ℕ → Kind
among [] b = false
among (c ∷ []) b = is c b
among (c ∷ (d ∷ cs)) b = is c b || among (d ∷ cs) b

abbrev pub one_of : String → Kind
one_of cs = among (bytes cs)

-- ---- strings of kinds
-- just these bytes
abbrev pub literally : List ℕ → List Kind
literally = map is

abbrev pub word : String → List Kind
word w = literally (bytes w)

-- bytes of these kinds at the front
unfoldable pub begins : List Kind → List ℕ → Bool
begins [] s = true
begins (k ∷ ks) [] = false
begins (k ∷ ks) (b ∷ s) = k b && begins ks s

-- bytes of these kinds and nothing more
unfoldable pub exactly : List Kind → List ℕ → Bool
exactly [] [] = true
exactly [] (b ∷ s) = false
exactly (k ∷ ks) [] = false
exactly (k ∷ ks) (b ∷ s) = k b && exactly ks s
