-- The newest step taken away, and a step appended. Assumes nothing.
use mathlib.Core.Path.{◌≡◌, refl, sym, ap, ◌∙◌, subst}
use mathlib.Core.Logic.{◌≢◌}
use mathlib.Core.Bool.{Bool, cond}
use mathlib.Core.List.{List, [], ◌∷◌, ◌++◌, map}
use Rattle.std.specs.Prelude.{Option, None, Some}
use Prim.Native.Nat.{ℕ, zero, suc, ◌+◌, ◌*◌, ◌-◌, ◌≤◌, ◌<◌}
use native.Mathlib.Omega.{arith}
use lib.ListN.{length, take, get_or, set, length-append}
use Rattle.std.specs.Prelude.{slice_get}
use lib.Seq.{length-take-le, get_or-set_other, set-get_or}
use lib.Dec.{eqb}
use borrow.Author.Tests.{eq-eqb, ne_eqb, eqb-true}
use Rattle.laws.proofs.Tests.{by, by_order, impossible, apart}
use Rattle.laws.proofs.Lookups.{get_none, get_some, get_take, get_more, get_last}
use Rattle.codes.specs.Block.{Content}
use Rattle.blocks.specs.Block.{block_of, put_block}
use Rattle.blocks.specs.Content.{holding}
use Rattle.steps.specs.Book.{Copy, Book, at}
use Rattle.layout.specs.Layout.{segment_of, held_of, or_none}
use Rattle.steps.specs.Calls.{older, segments_named, old_of, or_else}
use Rattle.layout.specs.Lies.{Lies}
use Rattle.moves.specs.Undo.{with_kept}
use Rattle.moves.proofs.StepsStands.{Stands, upd, upd_other, upd_at, stands_set, stands_clear, stands_over, stands_same}
use Rattle.moves.proofs.StepsIndex.{slot_none, index_step}
use Rattle.moves.proofs.StepsLies.{bytes_in, parts_in, parts_segment, parts_past, lies_stands, lies_count, one_step}

-- the segments that the two bytes of a step name: the second is 0 if there is none
abbrev named : ℕ → ℕ → List ℕ
named first second = first ∷ cond (eqb second 0) [] (second ∷ [])

-- block 0 with another count, and other segments of step r
abbrev pub noted : List ℕ → ℕ → ℕ → ℕ → ℕ → List ℕ
noted l r n x y = set (set (set l 24 n) (32 + 2 * r) x) (33 + 2 * r) y

pub stands_noted : (l : List ℕ) (b : Book) (r n x y : ℕ) → r < 16 → Lies l b
    → Stands (noted l r n x y) (upd (upd (upd (bytes_in b) 24 n) (32 + 2 * r) x) (33 + 2 * r) y) (parts_in b)
stands_noted l b r n x y h lies =
    stands_set (stands_set (stands_set (lies_stands l b lies) 24 n (omega arith)) (32 + 2 * r) x (omega arith)) (33 + 2 * r) y (omega arith)

-- ---- the newest step goes
none_at : (steps : List (List Copy)) (r j : ℕ) → length steps ≤ r → slice_get (or_none (slice_get steps r)) j ≡ None
none_at steps r j h = ap (λ (o : Option (List Copy)). slice_get (or_none o) j) (get_none steps r h)

older_same : (old : List (List Copy)) (r : ℕ) → r ≡ length old - 1 → 1 ≤ length old → (s : ℕ) → s ≢ r → slice_get (take r old) s ≡ slice_get old s
older_same old r e one s d =
    let n : length (take r old) ≡ r = length-take-le r old (omega arith) in
    by_order s r (λ h. get_take r old s h) (λ h. get_none (take r old) s (omega arith) ∙ sym (get_none old s (omega arith)))

pub popped : (l : List ℕ) (b : Book) (r : ℕ) → r ≡ get_or l 24 0 - 1 → Lies l b → 1 ≤ length b.history.kept
    → Lies (put_block (18 + 2 * r) (holding None) (put_block (17 + 2 * r) (holding None) (noted l r r 0 0))) (with_kept b (older b.history.kept))
unfolding older
popped l b r e lies one =
    let old : List (List Copy) = b.history.kept in
    let count : get_or l 24 0 ≡ length old = lies_count l b lies in
    let most : length old ≤ 16 = lies.sixteen in
    let at : r ≡ length old - 1 = omega arith in
    let n : length (take r old) ≡ r = length-take-le r old (omega arith) in
    let past : length (take r old) ≤ r = omega arith in
    let s0 : Stands (noted l r r 0 0) (upd (upd (upd (bytes_in b) 24 r) (32 + 2 * r) 0) (33 + 2 * r) 0) (parts_in b) = stands_noted l b r r 0 0 (omega arith) lies in
    let s1 = stands_clear s0 (17 + 2 * r) (16 + 2 * r) (omega arith) (omega arith) in
    let s2 = stands_clear s1 (18 + 2 * r) (17 + 2 * r) (omega arith) (omega arith) in
    subst (λ (m : ℕ). Lies (put_block (18 + 2 * r) (holding None) (put_block (17 + 2 * r) (holding None) (noted l r r 0 0))) (with_kept b (take m old))) at
    (one_step b lies.four (take r old) r (omega arith) (older_same old r at one) r 0 0 None None s2 (sym n) (omega arith)
    (sym (ap segment_of (none_at (take r old) r 0 past))) (sym (ap segment_of (none_at (take r old) r 1 past)))
    (sym (ap held_of (none_at (take r old) r 0 past))) (sym (ap held_of (none_at (take r old) r 1 past))))

-- ---- a step is appended
-- the segments of a step's old contents
old_segment : (segments : List Content) (cs : List Copy) (j : ℕ) → get_or (segments_named cs) j 0 ≡ segment_of (slice_get (map (old_of segments) cs) j)
old_segment segments [] j = refl
old_segment segments (c ∷ cs) zero = refl
old_segment segments (c ∷ cs) (suc j) = old_segment segments cs j

-- the contents
at_there : (segments : List Content) (s : ℕ) (c : Content) → 1 ≤ s → s ≤ length segments → slice_get segments (s - 1) ≡ Some (or_else (at segments s) c)
at_there segments zero c h g = impossible (omega arith)
at_there segments (suc k) c h g =
    let e : suc k - 1 ≡ k = omega arith in
    let f : slice_get segments k ≡ Some (get_or segments k c) = get_some c segments k (omega arith) in
    ap (slice_get segments) e ∙ f ∙ ap (λ (o : Option Content). Some (or_else o c)) (sym f)

old_held : (segments : List Content) (cs : List Copy) (j s : ℕ) → slice_get (segments_named cs) j ≡ Some s → 1 ≤ s → s ≤ length segments
    → slice_get segments (s - 1) ≡ held_of (slice_get (map (old_of segments) cs) j)
old_held segments [] j s e h g = apart cc
old_held segments (c ∷ cs) zero s e h g =
    let f : c.segment ≡ s = cc in
    at_there segments s c.held h g ∙ ap (λ (n : ℕ). Some (or_else (at segments n) c.held)) (sym f)
old_held segments (c ∷ cs) (suc j) s e h g = old_held segments cs j s e h g

old_none : (segments : List Content) (cs : List Copy) (j : ℕ) → slice_get (segments_named cs) j ≡ None → None ≡ held_of (slice_get (map (old_of segments) cs) j)
old_none segments [] j e = refl
old_none segments (c ∷ cs) zero e = apart cc
old_none segments (c ∷ cs) (suc j) e = old_none segments cs j e

module _ (l : List ℕ) (b : Book) (n first second : ℕ) (count : n ≡ get_or l 24 0) (few : n ≤ 15) (lies : Lies l b)
    (cs : List Copy) (are : segments_named cs ≡ named first second)
    (one : 1 ≤ first) (eight : first ≤ 8) (eight2 : second ≤ 8) (there : first ≤ length b.segments) (there2 : second ≤ length b.segments) where
  -- the steps after it, and the bytes once the first block is copied
  steps : List (List Copy)
  steps = b.history.kept ++ (map (old_of b.segments) cs ∷ [])

  m4 : List ℕ
  m4 = put_block (17 + 2 * n) (block_of first (noted l n (n + 1) first second)) (noted l n (n + 1) first second)

  here : n ≡ length b.history.kept
  here = count ∙ lies_count l b lies

  last : (j : ℕ) → slice_get (map (old_of b.segments) cs) j ≡ slice_get (or_none (slice_get steps n)) j
  unfolding steps
  last j =
      ap (λ (o : Option (List Copy)). slice_get (or_none o) j)
      (sym (ap (slice_get (b.history.kept ++ (map (old_of b.segments) cs ∷ []))) here ∙ get_last b.history.kept (map (old_of b.segments) cs)))

  others : (s : ℕ) → s ≢ n → slice_get steps s ≡ slice_get b.history.kept s
  unfolding steps
  others s d = get_more b.history.kept (map (old_of b.segments) cs) s (λ e. d (e ∙ sym here))

  more : n + 1 ≡ length steps
  unfolding steps
  more = sym (length-append b.history.kept (map (old_of b.segments) cs ∷ []) ∙ ap (λ (m : ℕ). m + 1) (sym here))

  first_is : first ≡ segment_of (slice_get (or_none (slice_get steps n)) 0)
  first_is = ap (λ (z : List ℕ). get_or z 0 0) (sym are) ∙ old_segment b.segments cs 0 ∙ ap segment_of (last 0)

  second_at : second ≡ get_or (named first second) 1 0
  second_at = by (eqb second 0)
      (λ e. eqb-true second 0 e ∙ ap (λ (t : Bool). get_or (first ∷ cond t [] (second ∷ [])) 1 0) (sym e))
      (λ e. ap (λ (t : Bool). get_or (first ∷ cond t [] (second ∷ [])) 1 0) (sym e))

  second_is : second ≡ segment_of (slice_get (or_none (slice_get steps n)) 1)
  second_is = second_at ∙ ap (λ (z : List ℕ). get_or z 1 0) (sym are) ∙ old_segment b.segments cs 1 ∙ ap segment_of (last 1)

  first_held : parts_in b (first - 1) ≡ held_of (slice_get (or_none (slice_get steps n)) 0)
  first_held =
      parts_segment b (first - 1) (omega arith)
      ∙ old_held b.segments cs 0 first (ap (λ (z : List ℕ). slice_get z 0) are) one there
      ∙ ap held_of (last 0)

  stands4 : Stands m4 (upd (upd (upd (bytes_in b) 24 (n + 1)) (32 + 2 * n) first) (33 + 2 * n) second) (upd (parts_in b) (16 + 2 * n) (parts_in b (first - 1)))
  unfolding m4
  stands4 = stands_over (stands_noted l b n (n + 1) first second (omega arith) lies) first (17 + 2 * n) (first - 1) (16 + 2 * n) (omega arith) (omega arith) (omega arith) (omega arith)

  -- of one segment: the second block was unused
  idle : None ≡ parts_in b (17 + 2 * n)
  idle =
      let e : 17 + 2 * n ≡ 16 + (2 * n + 1) = omega arith in
      sym (ap (parts_in b) e ∙ parts_past b (2 * n + 1) ∙ ap held_of (slot_none b.history.kept (2 * n + 1) (omega (arith, here))))

  pub appended_one : second ≡ 0 → Lies (put_block (17 + 2 * n) (block_of first (noted l n (n + 1) first second)) (noted l n (n + 1) first second)) (with_kept b (b.history.kept ++ (map (old_of b.segments) cs ∷ [])))
  unfolding steps m4
  appended_one z =
      let h : ℕ → Option Content = parts_in b in
      let h1 : ℕ → Option Content = upd h (16 + 2 * n) (h (first - 1)) in
      let w : ℕ → ℕ = upd (upd (upd (bytes_in b) 24 (n + 1)) (32 + 2 * n) first) (33 + 2 * n) second in
      let d : 17 + 2 * n ≢ 16 + 2 * n = λ e. omega arith in
      let same : Stands m4 w (upd h1 (17 + 2 * n) None) = stands_same stands4 w (upd h1 (17 + 2 * n) None) (λ i g. refl)
      (λ k g. sym (upd_at h1 (17 + 2 * n) None k (h1 k)
      (λ e. idle ∙ sym (upd_other h (16 + 2 * n) (h (first - 1)) (17 + 2 * n) d) ∙ ap h1 (sym e)) (λ _. refl))) in
      one_step b lies.four steps n (omega arith) others (n + 1) first second (h (first - 1)) None same more (omega (arith, more)) first_is second_is first_held
      (old_none b.segments cs 1 (ap (λ (q : List ℕ). slice_get q 1) are ∙ ap (λ (t : Bool). slice_get (first ∷ cond t [] (second ∷ [])) 1) (eq-eqb second 0 z)) ∙ ap held_of (last 1))

  -- of two
  pub appended_two : second ≢ 0
      → Lies (put_block (18 + 2 * n) (block_of second (put_block (17 + 2 * n) (block_of first (noted l n (n + 1) first second)) (noted l n (n + 1) first second)))
      (put_block (17 + 2 * n) (block_of first (noted l n (n + 1) first second)) (noted l n (n + 1) first second)))
      (with_kept b (b.history.kept ++ (map (old_of b.segments) cs ∷ [])))
  unfolding steps m4
  appended_two z =
      let h : ℕ → Option Content = parts_in b in
      let h1 : ℕ → Option Content = upd h (16 + 2 * n) (h (first - 1)) in
      let d : second - 1 ≢ 16 + 2 * n = λ e. omega arith in
      let s5 = stands_over stands4 second (18 + 2 * n) (second - 1) (17 + 2 * n) (omega arith) (omega arith) (omega arith) (omega arith) in
      one_step b lies.four steps n (omega arith) others (n + 1) first second (h (first - 1)) (h1 (second - 1)) s5 more (omega (arith, more)) first_is second_is first_held
      (upd_other h (16 + 2 * n) (h (first - 1)) (second - 1) d
      ∙ parts_segment b (second - 1) (omega arith)
      ∙ old_held b.segments cs 1 second (ap (λ (q : List ℕ). slice_get q 1) are ∙ ap (λ (t : Bool). slice_get (first ∷ cond t [] (second ∷ [])) 1) (ne_eqb second 0 z)) (omega arith) there2
      ∙ ap held_of (last 1))

-- ---- as the code leaves it
pub pop_step_done : (l m1 m : List ℕ) (n r : ℕ) → n ≡ get_or l 24 0 → r ≡ n - 1 → m1 ≡ put_block (17 + 2 * r) (holding None) (noted l r r 0 0) → m ≡ put_block (18 + 2 * r) (holding None) m1
    → (b : Book) → Lies l b → 1 ≤ length b.history.kept → Lies m (with_kept b (older b.history.kept))
pop_step_done l m1 m n r count er e1 e2 b lies one =
    subst (λ (z : List ℕ). Lies z (with_kept b (older b.history.kept))) (sym (e2 ∙ ap (put_block (18 + 2 * r) (holding None)) e1))
    (popped l b r (omega arith) lies one)

module _ (l : List ℕ) (n : ℕ) (count : n ≡ get_or l 24 0) (few : get_or l 24 0 ≤ 15) where
  -- a step of one segment: the byte of the second is 0 already
  noted_one : (b : Book) → Lies l b → (s : ℕ) → noted l n (n + 1) s 0 ≡ set (set l 24 (n + 1)) (32 + 2 * n) s
  noted_one b lies s =
      let m : List ℕ = set (set l 24 (n + 1)) (32 + 2 * n) s in
      let here : n ≡ length b.history.kept = count ∙ lies_count l b lies in
      let d1 : 33 + 2 * n ≢ 32 + 2 * n = λ e. omega arith in
      let d2 : 33 + 2 * n ≢ 24 = λ e. omega arith in
      let e : 33 + 2 * n ≡ 32 + (2 * n + 1) = omega arith in
      let z : get_or m (33 + 2 * n) 0 ≡ 0 =
      get_or-set_other (set l 24 (n + 1)) (32 + 2 * n) (33 + 2 * n) s 0 d1 ∙ get_or-set_other l 24 (33 + 2 * n) (n + 1) 0 d2
      ∙ (lies_stands l b lies).bytes (33 + 2 * n) (omega arith) ∙ ap (bytes_in b) e ∙ index_step b lies.four (2 * n + 1)
      ∙ ap segment_of (slot_none b.history.kept (2 * n + 1) (omega (arith, here))) in
      ap (set m (33 + 2 * n)) (sym z) ∙ set-get_or m (33 + 2 * n) 0

  pub append_one_done : (m : List ℕ) (s : ℕ) → 1 ≤ s → s ≤ 8
      → m ≡ put_block (17 + 2 * n) (block_of s (set (set l 24 (n + 1)) (32 + 2 * n) s)) (set (set l 24 (n + 1)) (32 + 2 * n) s)
      → (b : Book) → Lies l b → (cs : List Copy) → segments_named cs ≡ s ∷ [] → s ≤ length b.segments
      → Lies m (with_kept b (b.history.kept ++ (map (old_of b.segments) cs ∷ [])))
  append_one_done m s one eight e b lies cs are there =
      subst (λ (q : List ℕ). Lies q (with_kept b (b.history.kept ++ (map (old_of b.segments) cs ∷ []))))
      (ap (λ (z : List ℕ). put_block (17 + 2 * n) (block_of s z) z) (noted_one b lies s) ∙ sym e)
      (appended_one l b n s 0 count (omega arith) lies cs are one eight (omega arith) there (omega arith) refl)

  pub append_two_done : (m1 m : List ℕ) (s t : ℕ) → 1 ≤ s → s ≤ 8 → 1 ≤ t → t ≤ 8
      → m1 ≡ put_block (17 + 2 * n) (block_of s (noted l n (n + 1) s t)) (noted l n (n + 1) s t) → m ≡ put_block (18 + 2 * n) (block_of t m1) m1
      → (b : Book) → Lies l b → (cs : List Copy) → segments_named cs ≡ s ∷ t ∷ [] → s ≤ length b.segments → t ≤ length b.segments
      → Lies m (with_kept b (b.history.kept ++ (map (old_of b.segments) cs ∷ [])))
  append_two_done m1 m s t one eight one2 eight2 e1 e2 b lies cs are there there2 =
      let some-t : t ≢ 0 = λ z. omega arith in
      let two : s ∷ t ∷ [] ≡ named s t = ap (λ (z : Bool). s ∷ cond z [] (t ∷ [])) (sym (ne_eqb t 0 some-t)) in
      subst (λ (q : List ℕ). Lies q (with_kept b (b.history.kept ++ (map (old_of b.segments) cs ∷ []))))
      (sym (e2 ∙ ap (λ (q : List ℕ). put_block (18 + 2 * n) (block_of t q) q) e1))
      (appended_two l b n s t count (omega arith) lies cs (are ∙ two) one eight eight2 there there2 some-t)
