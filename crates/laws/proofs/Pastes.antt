-- Copies within a list, one element a turn. Assumes nothing.
use mathlib.Core.Path.{◌≡◌, sym, ap, ◌∙◌}
use mathlib.Core.Logic.{◌⊎◌, ⊎_elim}
use mathlib.Core.List.{List, [], ◌∷◌, ◌++◌, append_assoc}
use Prim.Native.Nat.{ℕ, ◌+◌, ◌-◌, ◌≤◌, ◌<◌}
use native.Mathlib.Nat.{add-sub_of_le}
use native.Mathlib.Numerals.{add-one}
use native.Mathlib.Omega.{arith}
use lib.ListN.{length, take, drop, get_or, set, length-append, length-drop, get_or-append}
use lib.Seq.{paste, paste-suc, length_paste_head, get_or-append-add, get_or-drop, take-suc, drop-cons, get_or-take, length-take-le, set-append_left, set_at}

module _ {A : Type 0} (o : A) where
  -- what stands before the copied part is as it was
  pub paste_before : (d : List A) (at : ℕ) (s : List A) (n i : ℕ) → at ≤ length d → i < at → get_or (paste d at s n) i o ≡ get_or d i o
  paste_before d at s n i h k =
      let l : length (take at d) ≡ at = length-take-le at d h in
      get_or-append (take at d ++ take n s) (drop (at + n) d) o i (simp length-append (omega arith))
      ∙ get_or-append (take at d) (take n s) o i (omega arith)
      ∙ get_or-take at d i o k

  -- what stands after the copied part is as it was
  pub paste_after : (d : List A) (at : ℕ) (s : List A) (n i : ℕ) → at ≤ length d → n ≤ length s → at + n ≤ i → get_or (paste d at s n) i o ≡ get_or d i o
  paste_after d at s n i h m k =
      let p : List A = take at d ++ take n s in
      let l : length p ≡ at + n = length_paste_head d at s n h m in
      let e : length p + (i - (at + n)) ≡ i = omega arith in
      ap (λ (j : ℕ). get_or (p ++ drop (at + n) d) j o) (sym e)
      ∙ get_or-append-add p (drop (at + n) d) (i - (at + n)) o
      ∙ get_or-drop (at + n) d (i - (at + n)) o
      ∙ ap (λ (j : ℕ). get_or d j o) (add-sub_of_le k)

  -- one element more in front of what is pasted
  pub paste_down : (d s : List A) (at n : ℕ) (v : A) → at + 1 + n ≤ length d → set (paste d (at + 1) s n) at v ≡ paste d at (v ∷ s) (n + 1)
  paste_down d s at n v h =
      let t : length (take (at + 1) d) ≡ at + 1 = length-take-le (at + 1) d (omega arith) in
      let front : set (take (at + 1) d) at v ≡ take at d ++ (v ∷ []) =
      ap (λ (k : ℕ). set (take k d) at v) (add-one at) ∙ ap (λ (l : List A). set l at v) (take-suc d at o (omega arith))
      ∙ set_at (take at d) (get_or d at o) [] v at (length-take-le at d (omega arith)) in
      let e : at + 1 + n ≡ at + (n + 1) = omega arith in
      set-append_left (take (at + 1) d ++ take n s) (drop (at + 1 + n) d) at v (simp length-append (omega arith))
      ∙ ap (λ (l : List A). l ++ drop (at + 1 + n) d) (set-append_left (take (at + 1) d) (take n s) at v (omega arith) ∙ ap (λ (l : List A). l ++ take n s) front ∙ append_assoc (take at d) (v ∷ []) (take n s))
      ∙ ap (λ (k : ℕ). take at d ++ (v ∷ take n s) ++ drop k d) e
      ∙ ap (λ (k : ℕ). take at d ++ take k (v ∷ s) ++ drop (at + (n + 1)) d) (sym (add-one n))

  -- a turn of a copy up that goes down
  pub up_turn : (d : List A) (from to k n : ℕ) → from ≤ to → to + k + 1 + n ≤ length d
      → set (paste d (to + k + 1) (drop (from + k + 1) d) n) (to + k) (get_or (paste d (to + k + 1) (drop (from + k + 1) d) n) (from + k) o) ≡ paste d (to + k) (drop (from + k) d) (n + 1)
  up_turn d from to k n h g =
      let s : List A = drop (from + k + 1) d in
      ap (set (paste d (to + k + 1) s n) (to + k)) (paste_before d (to + k + 1) s n (from + k) (omega arith) (omega arith))
      ∙ paste_down d s (to + k) n (get_or d (from + k) o) g
      ∙ ap (λ (z : List A). paste d (to + k) z (n + 1)) (ap (λ (j : ℕ). get_or d (from + k) o ∷ drop j d) (add-one (from + k)) ∙ sym (drop-cons d (from + k) o (omega arith)))

  -- a turn of a copy within one list, where the source does not overlap the target from below
  pub copy_turn : (d : List A) (from to k : ℕ) → to + k < length d → from + k < length d → (from + k < to) ⊎ (to ≤ from)
      → set (paste d to (drop from d) k) (to + k) (get_or (paste d to (drop from d) k) (from + k) o) ≡ paste d to (drop from d) (k + 1)
  copy_turn d from to k h g way =
      let ls : length (drop from d) ≡ length d - from = length-drop from d in
      let e : get_or (paste d to (drop from d) k) (from + k) o ≡ get_or (drop from d) k o =
      ⊎_elim (λ w. paste_before d to (drop from d) k (from + k) (omega arith) w) (λ w. paste_after d to (drop from d) k (from + k) (omega arith) (omega arith) (omega arith)) way
      ∙ sym (get_or-drop from d k o) in
      ap (λ (v : A). set (paste d to (drop from d) k) (to + k) v) e
      ∙ paste-suc d to (drop from d) k o h (omega arith)
      ∙ ap (paste d to (drop from d)) (sym (add-one k))
