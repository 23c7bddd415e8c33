-- Places of a copy by value: one is sought, put in, taken out. Assumes nothing.
use Prim.Native.Nat.{ℕ, zero, suc, ◌+◌, ◌-◌, ◌≤◌, ◌<◌}
use native.Mathlib.Numerals.{add-one}
use native.Mathlib.Omega.{arith}
use mathlib.Core.Path.{◌≡◌, refl, sym, ap, ap₂, subst, ◌∙◌}
use mathlib.Core.List.{List, [], ◌∷◌, ◌++◌, append-nil}
use mathlib.Core.Bool.{Bool, true, false, ◌&&◌, ◌||◌}
use Rattle.std.specs.Prelude.{Some, None}
use Rattle.std.specs.List.{list_any, position, position_or_len}
use Rattle.std.specs.List.Sorted.{IsPartitionedBy, IsPartitionPoint}
use lib.ListN.{length, get_or, take, drop, set, length-drop, drop_of_length-le}
use lib.Seq.{paste, take-take, take_all, length-take-le}
use Rattle.std.proofs.lemmas.List.Edits.{take-paste}
use lib.Dec.{eqb, ltb, leb}
use borrow.Author.Tests.{eq-eqb, ne_eqb, eqb-true, eqb-false, leb-true, ltb-true, ltb-false, lt-ltb}
use Rattle.laws.proofs.Tests.{and_left, and_right, by, apart}
use Rattle.laws.proofs.Lists.{drop_take}
use Rattle.laws.proofs.Pastes.{paste_down}
use Rattle.codes.specs.Places.{places_end, capacity, ascends}
use Rattle.codes.specs.Serving.{First}
use Rattle.codes.specs.Block.{insert}
use Rattle.codes.proofs.Members.{insert_before, insert_after, first_none}
use Rattle.blocks.specs.Held.{held_content, Fits}
use Rattle.blocks.specs.declared.Held.{Held}
use Rattle.steps.specs.Calls.{member, without}

-- ---- member and without, by the first place
member_here : (p q : ℕ) (qs : List ℕ) → p ≡ q → member p (q ∷ qs) ≡ true
unfolding member
member_here p q qs e = rw (eq-eqb p q e)

member_later : (p q : ℕ) (qs : List ℕ) → (p ≡ q → ⊥) → member p (q ∷ qs) ≡ member p qs
unfolding member
member_later p q qs e = rw (ne_eqb p q e)

member_apart : (p q : ℕ) (qs : List ℕ) → member p (q ∷ qs) ≡ false → p ≡ q → ⊥
member_apart p q qs e h = let t : true ≡ false = sym (member_here p q qs h) ∙ e in let z : ◌≡◌ {A = ℕ} 0 1 = cc in omega arith

without_here : (p q : ℕ) (qs : List ℕ) → p ≡ q → without p (q ∷ qs) ≡ qs
unfolding without
without_here p q qs e = rw (eq-eqb p q e)

without_later : (p q : ℕ) (qs : List ℕ) → (p ≡ q → ⊥) → without p (q ∷ qs) ≡ q ∷ without p qs
unfolding without
without_later p q qs e = rw (ne_eqb p q e)

-- ---- ascending places, by the first
rise_low : (b p : ℕ) (ps : List ℕ) → ascends b (p ∷ ps) ≡ true → b ≤ p
unfolding ascends
rise_low b p ps h = leb-true b p (and_left (leb b p) (ltb p places_end) (and_left (leb b p && ltb p places_end) (ascends (suc p) ps) h))

rise_next : (b p : ℕ) (ps : List ℕ) → ascends b (p ∷ ps) ≡ true → ascends (suc p) ps ≡ true
unfolding ascends
rise_next b p ps h = and_right (leb b p && ltb p places_end) (ascends (suc p) ps) h

-- no place below the first is there
pub rise_absent : (p b : ℕ) (ps : List ℕ) → p < b → ascends b ps ≡ true → member p ps ≡ false
unfolding member
rise_absent p b [] h e = refl
rise_absent p b (q ∷ qs) h e =
    let l = rise_low b q qs e in
    member_later p q qs (omega arith) ∙ rise_absent p (suc q) qs (omega arith) (rise_next b q qs e)

-- ---- whether a place is there
eqb_turned : (x y : ℕ) → eqb x y ≡ eqb y x
eqb_turned x y = by (eqb x y) (λ t. t ∙ sym (eq-eqb y x (sym (eqb-true x y t)))) (λ t. t ∙ sym (ne_eqb y x (λ e. eqb-false x y t (sym e))))

pub member_any : (p : ℕ) (l : List ℕ) → list_any (λ y. eqb y p) l ≡ member p l
unfolding member
member_any p [] = refl
member_any p (q ∷ qs) = ap₂ (λ (a b : Bool). a || b) (eqb_turned q p) (member_any p qs)

-- ---- the first that is not less
rise_from_first : (b : ℕ) (l : List ℕ) → ascends b l ≡ true → (j d : ℕ) → j < length l → b ≤ get_or l j d
rise_from_first b [] e j d h = absurd (omega arith)
rise_from_first b (q ∷ qs) e zero d h = rise_low b q qs e
rise_from_first b (q ∷ qs) e (suc j) d h = omega (arith, rise_low b q qs e, rise_from_first (suc q) qs (rise_next b q qs e) j d (omega arith))

-- those that are less come first
pub rise_parted : (p b : ℕ) (l : List ℕ) → ascends b l ≡ true → IsPartitionedBy (λ y. ltb y p) l
rise_parted p b [] e i j d k h t = absurd (omega arith)
rise_parted p b (q ∷ qs) e zero zero d k h t = t
rise_parted p b (q ∷ qs) e zero (suc j) d k h t =
    lt-ltb q p (omega (arith, rise_from_first (suc q) qs (rise_next b q qs e) j d (omega arith), ltb-true (get_or qs j d) p t))
rise_parted p b (q ∷ qs) e (suc i) zero d k h t = absurd (omega arith)
rise_parted p b (q ∷ qs) e (suc i) (suc j) d k h t = rise_parted p (suc q) qs (rise_next b q qs e) i j d (omega arith) (omega arith) t

pub first_is : (p : ℕ) (l : List ℕ) (i : ℕ) → i ≤ length l → IsPartitionPoint (λ y. ltb y p ≡ true) (λ y. ltb y p ≡ false) l i → First p l i
first_is p l i h w =
    record {
      within = h;
      low = λ j k. ltb-true (get_or l j 0) p (w.0 j 0 (omega arith) k);
      high = λ k. ltb-false (get_or l i 0) p (w.1 i 0 (omega arith) k);
    }

-- a place that is not there is put in before it
insert_at : (p i : ℕ) (l : List ℕ) → First p l i → member p l ≡ false → insert p l ≡ take i l ++ (p ∷ drop i l)
unfolding insert
insert_at p zero [] f m = refl
insert_at p (suc i) [] f m = absurd (omega (arith, f.within))
insert_at p zero (q ∷ qs) f m = let a : p ≡ q → ⊥ = member_apart p q qs m in insert_before p q qs (omega (arith, f.high (omega arith)))
insert_at p (suc i) (q ∷ qs) f m =
    let a : p ≡ q → ⊥ = member_apart p q qs m in
    insert_after p q qs (f.low 0 (omega arith)) ∙ ap (λ (t : List ℕ). q ∷ t) (insert_at p i qs (first_none f) (sym (member_later p q qs a) ∙ m))

-- ---- a place that is sought
abbrev index_in : ℕ → List ℕ → ℕ
index_in p l = position_or_len (λ q. eqb q p) l

pub record Found (p : ℕ) (l : List ℕ) (i : ℕ) : Type 0 where
  pub is : i ≡ index_in p l
  pub low : i < length l

found_at : (p i : ℕ) (l : List ℕ) → position (λ q. eqb q p) l ≡ Some i → Found p l i
found_at p i l e =
    by (ltb (index_in p l) (length l))
    (λ t. let f : Some (index_in p l) ≡ Some i = rw t at e in
    let is : i ≡ index_in p l = cc in
    let low : index_in p l < length l = ltb-true (index_in p l) (length l) t in
    record { is = is; low = omega arith })
    (λ t. let f : None ≡ Some i = rw t at e in apart cc)

found_none : (p : ℕ) (l : List ℕ) → position (λ q. eqb q p) l ≡ None → length l ≤ index_in p l
found_none p l e =
    by (ltb (index_in p l) (length l)) (λ t. let f : Some (index_in p l) ≡ None = rw t at e in apart cc) (λ t. ltb-false (index_in p l) (length l) t)

index_later : (p q : ℕ) (qs : List ℕ) → eqb q p ≡ false → index_in p (q ∷ qs) ≡ suc (index_in p qs)
index_later p q qs e = rw e (omega arith)

without_at : (p : ℕ) (l : List ℕ) → without p l ≡ take (index_in p l) l ++ drop (suc (index_in p l)) l
unfolding without
without_at p [] = refl
without_at p (q ∷ qs) =
    by (eqb q p)
    (λ t. rw t (without_here p q qs (sym (eqb-true q p t))))
    λ t. let P : ℕ → Type 0 = λ n. without p (q ∷ qs) ≡ take n (q ∷ qs) ++ drop (suc n) (q ∷ qs) in
    subst P (sym (index_later p q qs t)) (without_later p q qs (λ e. eqb-false q p t (sym e)) ∙ ap (λ (l : List ℕ). q ∷ l) (without_at p qs))

-- ---- the ways out
module _ (h : Held) (p : ℕ) (f : Fits h) where
  abbrev l : List ℕ
  l = take h.count h.places

  l_long : length l ≡ h.count
  l_long = length-take-le h.count h.places (omega (arith, f.long, f.few))

  -- the places from index j on
  rest_of : (j : ℕ) → j ≤ h.count → drop j l ≡ take (h.count - j) (drop j h.places)
  rest_of j k = drop_take j h.count h.places k (omega (arith, f.long, f.few))

  module _ (i : ℕ) (w : First p l i) (m : member p l ≡ false) (room : h.count < capacity) (moved : List ℕ) (em : moved ≡ paste h.places (i + 1) (drop i h.places) (h.count - i)) where
    low : i ≤ h.count
    low = omega (arith, w.within, l_long)

    stored : set moved i p ≡ paste h.places i (p ∷ drop i h.places) (h.count - i + 1)
    stored = ap (λ (x : List ℕ). set x i p) em ∙ paste_down 0 h.places (drop i h.places) i (h.count - i) p (omega (arith, f.long, low))

    pub with_held : held_content (record { purge = h.purge; places = set moved i p; count = h.count + 1 }) ≡ record { purge = h.purge; places = insert p l }
    with_held =
        let n : h.count + 1 ≡ i + (h.count - i + 1) = omega (arith, low) in
        ap (λ (ps : List ℕ). record { purge = h.purge; places = ps })
        (ap₂ (λ (k : ℕ) (x : List ℕ). take k x) n stored
        ∙ take-paste h.places i (p ∷ drop i h.places) (h.count - i + 1) (omega (arith, f.long, low)) (omega (arith, length-drop i h.places, f.long, low))
        ∙ ap (λ (k : ℕ). take i h.places ++ take k (p ∷ drop i h.places)) (add-one (h.count - i))
        ∙ sym (insert_at p i l w m ∙ ap₂ (λ (x y : List ℕ). x ++ (p ∷ y)) (take-take i h.count h.places low) (rest_of i low)))

  -- nothing to take out
  pub without_none : position (λ q. eqb q p) l ≡ None → held_content h ≡ record { purge = h.purge; places = without p l }
  without_none e =
      let far : length l ≤ index_in p l = found_none p l e in
      ap (λ (ps : List ℕ). record { purge = h.purge; places = ps })
      (sym (without_at p l ∙ ap₂ (λ (x y : List ℕ). x ++ y) (take_all (index_in p l) l far) (drop_of_length-le l {i = suc (index_in p l)} (omega arith)) ∙ append-nil l))

  module _ (i : ℕ) (e : position (λ q. eqb q p) l ≡ Some i) (moved : List ℕ) (em : moved ≡ paste h.places i (drop (i + 1) h.places) (h.count - (i + 1))) where
    w : Found p l i
    w = found_at p i l e

    without_low : i < h.count
    without_low = omega (arith, w.low, l_long)

    pub without_held : held_content (record { purge = h.purge; places = moved; count = h.count - 1 }) ≡ record { purge = h.purge; places = without p l }
    without_held =
        let n : h.count - 1 ≡ i + (h.count - (i + 1)) = omega (arith, without_low) in
        let next : i + 1 ≡ suc i = add-one i in
        ap (λ (ps : List ℕ). record { purge = h.purge; places = ps })
        (ap₂ (λ (k : ℕ) (x : List ℕ). take k x) n em
        ∙ take-paste h.places i (drop (i + 1) h.places) (h.count - (i + 1)) (omega (arith, f.long, f.few, without_low)) (omega (arith, length-drop (i + 1) h.places, f.long, f.few))
        ∙ sym (without_at p l ∙ ap (λ (k : ℕ). take k l ++ drop (suc k) l) (sym w.is)
        ∙ ap₂ (λ (x y : List ℕ). x ++ y) (take-take i h.count h.places (omega (arith, without_low))) (ap (λ (k : ℕ). drop k l) (sym next) ∙ rest_of (i + 1) (omega (arith, without_low)))))
