-- A content's bytes stored in a block, and its numbers read from one. Assumes nothing.
use mathlib.Core.Path.{◌≡◌, refl, sym, ap, ap₂, ◌∙◌}
use mathlib.Core.List.{List, [], ◌∷◌, ◌++◌, append_assoc, append-nil}
use Rattle.std.specs.Prelude.{Some}
use Prim.Native.Nat.{ℕ, zero, suc, ◌+◌, ◌*◌, ◌-◌, ◌≤◌, ◌<◌}
use native.Mathlib.Numerals.{add-one}
use native.Mathlib.Omega.{arith}
use lib.ListN.{length, take, drop, get_or, set, replicate, length-replicate}
use lib.Seq.{sets, sets-eq, drop-drop, take-suc, length-take-le}
use Rattle.blocks.proofs.Chunks.{flat_length}
use Rattle.blocks.proofs.Numbers.{number_drop}
use borrow.Rule.Slice.PartMut.{put_mid}
use Rattle.laws.proofs.Lists.{drop_alike}
use Rattle.laws.proofs.Stores.{sets_then, push_text}
use Rattle.codes.specs.Places.{capacity}
use Rattle.checks.specs.Seal.{sealed}
use Rattle.blocks.specs.Block.{bytes32, number_at, numbers_of, flat}
use Rattle.blocks.specs.Content.{content_bytes, holding}

-- ---- numbers read: i of them
numbers_suc : (i : ℕ) (l : List ℕ) → numbers_of (suc i) l ≡ numbers_of i l ++ (number_at l (4 * i) ∷ [])
unfolding numbers_of
numbers_suc zero l = refl
numbers_suc (suc i) l =
    let e : 4 + 4 * i ≡ 4 * suc i = omega arith in
    ap (λ (r : List ℕ). number_at l 0 ∷ r)
    (numbers_suc i (drop 4 l)
    ∙ ap (λ (x : ℕ). numbers_of i (drop 4 l) ++ (x ∷ [])) (number_drop 4 l (4 * i) ∙ ap (λ (j : ℕ). number_at l j) e))

pub reading_more : (b into : List ℕ) (i : ℕ) → i < length into → take i into ≡ numbers_of i (drop 8 b) → (x : ℕ) → x ≡ number_at b (8 + 4 * i)
    → take (i + 1) (set into i x) ≡ numbers_of (i + 1) (drop 8 b)
reading_more b into i h v x e =
    push_text into i x h
    ∙ ap₂ (λ (p : List ℕ) (y : ℕ). p ++ (y ∷ [])) v (e ∙ sym (number_drop 8 b (4 * i)))
    ∙ sym (numbers_suc i (drop 8 b))
    ∙ ap (λ (j : ℕ). numbers_of j (drop 8 b)) (sym (add-one i))

-- ---- a number stored: a part of a list that is written
pub put_sets : (l ws : List ℕ) (i k : ℕ) → k ≡ length ws → i + k ≤ length l → put_mid i k l ws ≡ sets l i ws
put_sets l ws i k e h = rw (e, drop-drop) (sym (sets-eq ws l i (omega arith) ∙ append_assoc (take i l) ws (drop (i + length ws) l)))

-- ---- numbers stored: i of them
flat_snoc : (xs : List ℕ) (x : ℕ) → flat bytes32 (xs ++ (x ∷ [])) ≡ flat bytes32 xs ++ bytes32 x
unfolding flat
flat_snoc [] x = append-nil (bytes32 x)
flat_snoc (y ∷ xs) x = ap (λ (r : List ℕ). bytes32 y ++ r) (flat_snoc xs x) ∙ sym (append_assoc (bytes32 y) (flat bytes32 xs) (bytes32 x))

pub putting_more : (b₀ b places : List ℕ) (i : ℕ) → b ≡ sets b₀ 8 (flat bytes32 (take i places)) → i < length places → (d : List ℕ)
    → d ≡ sets b (8 + 4 * i) (bytes32 (get_or places i 0)) → d ≡ sets b₀ 8 (flat bytes32 (take (i + 1) places))
putting_more b₀ b places i v h d e =
    let s : List ℕ = flat bytes32 (take i places) in
    let t : length (take i places) ≡ i = length-take-le i places (omega arith) in
    let m : length s ≡ 4 * length (take i places) = omega (arith, flat_length bytes32 4 (λ (n : ℕ). refl) (take i places)) in
    let j : 8 + 4 * i ≡ 8 + length s = omega arith in
    sets_then b₀ 8 s (bytes32 (get_or places i 0)) v j e
    ∙ ap (sets b₀ 8)
    (sym (flat_snoc (take i places) (get_or places i 0)) ∙ ap (flat bytes32) (sym (take-suc places i 0 h)) ∙ ap (λ (n : ℕ). flat bytes32 (take n places)) (sym (add-one i)))

-- ---- the whole block
-- the bytes before the numbers
front : ℕ → ℕ → List ℕ
front p n = bytes32 p ++ (n ∷ 0 ∷ 0 ∷ 0 ∷ [])

front_stored : (p n : ℕ) → set (sets (replicate 512 0) 0 (bytes32 p)) 4 n ≡ front p n ++ replicate 504 0
unfolding front
front_stored p n = refl

content_stored : (p : ℕ) (places : List ℕ) → length places ≤ capacity
    → sets (set (sets (replicate 512 0) 0 (bytes32 p)) 4 (length places)) 8 (flat bytes32 places) ≡ content_bytes (record { purge = p; places = places })
unfolding content_bytes front
content_stored p places h =
    let n : ℕ = length places in
    let f : List ℕ = flat bytes32 places in
    let m : length f ≡ 4 * n = omega (arith, flat_length bytes32 4 (λ (n : ℕ). refl) places) in
    ap (λ (l : List ℕ). sets l 8 f) (front_stored p n)
    ∙ sets-eq f (front p n ++ replicate 504 0) 8 (omega (arith, length-replicate {A = ℕ} 504 0))
    ∙ ap (λ (r : List ℕ). front p n ++ (f ++ r))
    (sym (drop-drop (length f) 8 (front p n ++ replicate 504 0))
    ∙ drop_alike 0 (length f) 504 (omega arith)
    ∙ ap (λ (k : ℕ). replicate (504 - k) 0) m)

pub content_made : (b₁ b₂ b₃ : List ℕ) (p : ℕ) (places : List ℕ) → length places ≤ capacity → b₁ ≡ sets (replicate 512 0) 0 (bytes32 p)
    → b₂ ≡ sets (set b₁ 4 (length places)) 8 (flat bytes32 places) → b₃ ≡ sealed b₂ → b₃ ≡ holding (Some (record { purge = p; places = places }))
unfolding holding
content_made b₁ b₂ b₃ p places h e₁ e₂ e₃ =
    e₃ ∙ ap sealed (e₂ ∙ ap (λ (b : List ℕ). sets (set b 4 (length places)) 8 (flat bytes32 places)) e₁ ∙ content_stored p places h)
