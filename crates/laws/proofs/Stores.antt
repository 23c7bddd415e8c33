-- Bytes stored one after the other, and texts that grow. Assumes nothing.
use Prim.Native.Nat.{ℕ, suc, ◌+◌, ◌≤◌, ◌<◌}
use native.Mathlib.Omega.{arith}
use native.Mathlib.Numerals.{add-one}
use native.Mathlib.Nat.{add-suc, suc-add, add-zero, zero-add}
use mathlib.Core.Path.{◌≡◌, refl, sym, ap, ◌∙◌}
use mathlib.Core.List.{List, [], ◌∷◌, ◌++◌}
use lib.ListN.{length, get_or, set, take, drop, length-set}
use lib.Seq.{sets, sets-eq, take-suc, take-suc-set, length-take-le}

sets_append : (l : List ℕ) (i : ℕ) (a b : List ℕ) → sets l i (a ++ b) ≡ sets (sets l i a) (i + length a) b
sets_append l i [] b = rw add-zero
sets_append l i (x ∷ a) b = sets_append (set l i x) (suc i) a b ∙ rw (suc-add, ← add-suc)

-- one text behind the other
pub sets_then : (a : List ℕ) (i : ℕ) (s t : List ℕ) {b c : List ℕ} {j : ℕ}
    → b ≡ sets a i s → j ≡ i + length s → c ≡ sets b j t → c ≡ sets a i (s ++ t)
sets_then a i s t {j = j} eb ej ec =
    ec ∙ ap (λ (x : List ℕ). sets x j t) eb ∙ ap (λ (k : ℕ). sets (sets a i s) k t) ej ∙ sym (sets_append a i s t)

-- a turn of a loop that copies
sets_more : (l : List ℕ) (pos : ℕ) (b : List ℕ) (i : ℕ) → i < length b
    → set (sets l pos (take i b)) (pos + i) (get_or b i 0) ≡ sets l pos (take (i + 1) b)
sets_more l pos b i h =
    let n : length (take i b) ≡ i = length-take-le i b (omega arith) in
    sym (rw (add-one, take-suc b i 0 h) (sets_append l pos (take i b) (get_or b i 0 ∷ []) ∙ rw n))

-- a text stored at the front
pub sets_front : (l t : List ℕ) → length t ≤ length l → sets l 0 t ≡ t ++ drop (length t) l
sets_front l t h = rw (← zero-add (length t)) (sets-eq t l 0 (omega arith))

-- a byte pushed
pub push_text : (l : List ℕ) (i b : ℕ) → i < length l → take (i + 1) (set l i b) ≡ take i l ++ (b ∷ [])
push_text l i b h = rw add-one (take-suc-set l i b h)

-- ---- a loop that copies n bytes of a text to pos: i of them are there
pub record Copied (out₀ out : List ℕ) (pos : ℕ) (text : List ℕ) (n i : ℕ) : Type 0 where
  pub left : i ≤ n
  pub bytes : out ≡ sets out₀ pos (take i text)
  pub long : length out ≡ length out₀

pub copied_start : (out : List ℕ) (pos : ℕ) (text : List ℕ) (n : ℕ) → Copied out out pos text n 0
copied_start out pos text n = record { left = omega arith; bytes = refl; long = refl }

module _ (out₀ out : List ℕ) (pos : ℕ) (text : List ℕ) (n i : ℕ) (v : Copied out₀ out pos text n i) where
  pub copied_on : n ≤ length text → i < n → Copied out₀ (set out (pos + i) (get_or text i 0)) pos text n (i + 1)
  copied_on h l = record { left = omega arith; bytes = rw v.bytes (sets_more out₀ pos text i (omega arith)); long = simp length-set v.long }

  pub copied_done : n ≤ i → out ≡ sets out₀ pos (take n text)
  copied_done h = let e : i ≡ n = omega (arith, v.left) in rw (← e) v.bytes
