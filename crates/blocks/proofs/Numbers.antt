-- Bytes, and the numbers of four bytes: what is written is read back, and what is read is written back. Assumes nothing.
use mathlib.Core.Path.{◌≡◌, refl, sym, ap, ap₂, ◌∙◌}
use mathlib.Core.List.{List, [], ◌∷◌, ◌++◌}
use Prim.Native.Nat.{ℕ, zero, suc, ◌+◌, ◌*◌, ◌/◌, ◌%◌, ◌≤◌, ◌<◌}
use native.Mathlib.Nat.{zero-add, add-mul-mod_self_left, mod-eq_of_lt, mod-add-div, add-mul-div_left, div-eq_of_lt, div-div-eq-div-mul, div-lt_iff_lt-mul}
use native.Mathlib.Omega.{arith}
use lib.ListN.{length, take, drop, get_or, length-drop}
use lib.Seq.{get_or-drop, take-add}
use Rattle.checks.specs.Seal.{block_length}
use Rattle.blocks.specs.Block.{bytes32, number_at, numbers_of, block_of, Bytes, flat}

-- ---- bytes
-- one of them
pub byte_at : (l : List ℕ) (i : ℕ) → Bytes l → get_or l i 0 < 256
unfolding Bytes
byte_at l i y = y i

-- the parts of lists of bytes, and lists made of bytes
pub bytes_nil : Bytes []
unfolding Bytes
bytes_nil i = omega arith

pub bytes_cons : (x : ℕ) (l : List ℕ) → x < 256 → Bytes l → Bytes (x ∷ l)
unfolding Bytes
bytes_cons x l h y zero = h
bytes_cons x l h y (suc i) = y i

pub bytes_tail : (x : ℕ) (l : List ℕ) → Bytes (x ∷ l) → Bytes l
unfolding Bytes
bytes_tail x l y i = y (suc i)

pub bytes_drop : (n : ℕ) (l : List ℕ) → Bytes l → Bytes (drop n l)
unfolding Bytes
bytes_drop n l y i = rw get_or-drop (y (n + i))

pub bytes_take : (n : ℕ) (l : List ℕ) → Bytes l → Bytes (take n l)
bytes_take zero l y = bytes_nil
bytes_take (suc n) [] y = bytes_nil
bytes_take (suc n) (x ∷ l) y = bytes_cons x (take n l) (byte_at (x ∷ l) 0 y) (bytes_take n l (bytes_tail x l y))

-- the bytes of a book's block
pub bytes_block : (k : ℕ) (book : List ℕ) → Bytes book → Bytes (block_of k book)
unfolding block_of
bytes_block k book y = bytes_take block_length (drop (k * block_length) book) (bytes_drop (k * block_length) book y)

-- ---- a number and its bytes
-- the low byte of a number, and the rest
pub low_byte : (a h : ℕ) → a < 256 → (a + 256 * h) % 256 ≡ a
low_byte a h k = add-mul-mod_self_left a 256 h ∙ mod-eq_of_lt k

pub high_part : (a h : ℕ) → a < 256 → (a + 256 * h) / 256 ≡ h
high_part a h k = add-mul-div_left a h {y = 256} (omega arith) ∙ ap (λ (z : ℕ). z + h) (div-eq_of_lt k) ∙ zero-add h

-- the bytes of the number that four bytes make
pub digits : (a b c d : ℕ) → a < 256 → b < 256 → c < 256 → d < 256 → bytes32 (a + 256 * b + 65536 * c + 16777216 * d) ≡ a ∷ b ∷ c ∷ d ∷ []
digits a b c d ha hb hc hd =
    let cd : ℕ = c + 256 * d in
    let bcd : ℕ = b + 256 * cd in
    let v : ℕ = a + 256 * bcd in
    let e : a + 256 * b + 65536 * c + 16777216 * d ≡ v = omega arith in
    let v1 : v / 256 ≡ bcd = high_part a bcd ha in
    let v2 : v / 65536 ≡ cd = sym (div-div-eq-div-mul v 256 256) ∙ ap (λ (z : ℕ). z / 256) v1 ∙ high_part b cd hb in
    let v3 : v / 16777216 ≡ d = sym (div-div-eq-div-mul v 65536 256) ∙ ap (λ (z : ℕ). z / 256) v2 ∙ high_part c d hc in
    rw (e, low_byte a bcd ha, v1, low_byte b cd hb, v2, low_byte c d hc, v3, mod-eq_of_lt hd)

-- the number that the bytes of a number make
pub number_forth : (p : ℕ) → p < 4294967296 → number_at (bytes32 p) 0 ≡ p
number_forth p h =
    let a = mod-add-div p 256 in
    let b = mod-add-div (p / 256) 256 in
    let c = mod-add-div (p / 65536) 256 in
    let b' : p / 256 / 256 ≡ p / 65536 = div-div-eq-div-mul p 256 256 in
    let c' : p / 65536 / 256 ≡ p / 16777216 = div-div-eq-div-mul p 65536 256 in
    let d : p / 16777216 < 256 = (div-lt_iff_lt-mul {k = 16777216} (omega arith)).1 h in
    let e : p / 16777216 % 256 ≡ p / 16777216 = mod-eq_of_lt d in
    omega arith

-- the first four
pub first4 : (l : List ℕ) → 4 ≤ length l → take 4 l ≡ get_or l 0 0 ∷ get_or l 1 0 ∷ get_or l 2 0 ∷ get_or l 3 0 ∷ []
first4 (a ∷ b ∷ c ∷ d ∷ l) h = refl
first4 [] h = absurd (omega arith)
first4 (a ∷ []) h = absurd (omega arith)
first4 (a ∷ b ∷ []) h = absurd (omega arith)
first4 (a ∷ b ∷ c ∷ []) h = absurd (omega arith)

-- four bytes are the bytes of their number
pub word_back : (l : List ℕ) → 4 ≤ length l → Bytes l → take 4 l ≡ bytes32 (number_at l 0)
word_back l h y =
    first4 l h
    ∙ sym (digits (get_or l 0 0) (get_or l 1 0) (get_or l 2 0) (get_or l 3 0) (byte_at l 0 y) (byte_at l 1 y) (byte_at l 2 y) (byte_at l 3 y))

-- ---- numbers one after another
-- a number of a part
pub number_drop : (o : ℕ) (l : List ℕ) (at : ℕ) → number_at (drop o l) at ≡ number_at l (o + at)
number_drop o l at =
    let e1 : o + (at + 1) ≡ o + at + 1 = omega arith in
    let e2 : o + (at + 2) ≡ o + at + 2 = omega arith in
    let e3 : o + (at + 3) ≡ o + at + 3 = omega arith in
    rw (get_or-drop o l at 0, get_or-drop o l (at + 1) 0, get_or-drop o l (at + 2) 0, get_or-drop o l (at + 3) 0, e1, e2, e3)

-- how many there are
pub numbers_length : (n : ℕ) (l : List ℕ) → length (numbers_of n l) ≡ n
unfolding numbers_of
numbers_length zero l = refl
numbers_length (suc n) l = ap suc (numbers_length n (drop 4 l))

-- number i
pub numbers_at : (n : ℕ) (l : List ℕ) (i : ℕ) → i < n → get_or (numbers_of n l) i 0 ≡ number_at l (4 * i)
unfolding numbers_of
numbers_at zero l i h = absurd (omega arith)
numbers_at (suc n) l zero h = refl
numbers_at (suc n) l (suc i) h =
    let e : 4 + 4 * i ≡ 4 * suc i = omega arith in
    numbers_at n (drop 4 l) i (omega arith) ∙ number_drop 4 l (4 * i) ∙ ap (number_at l) e

-- the bytes are those of the numbers
pub numbers_back : (n : ℕ) (l : List ℕ) → 4 * n ≤ length l → Bytes l → take (4 * n) l ≡ flat bytes32 (numbers_of n l)
unfolding numbers_of flat
numbers_back zero l h y = refl
numbers_back (suc n) l h y =
    let e : 4 * suc n ≡ 4 + 4 * n = omega arith in
    ap (λ (k : ℕ). take k l) e
    ∙ take-add 4 (4 * n) l
    ∙ ap₂ (λ (p q : List ℕ). p ++ q) (word_back l (omega arith) y) (numbers_back n (drop 4 l) (rw length-drop (omega arith)) (bytes_drop 4 l y))
