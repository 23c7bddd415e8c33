-- An element told by the bytes at its place: no byte of a form ends it before the form does. Assumes nothing.
use Prim.Native.Nat.{ℕ, zero, suc, ◌+◌, ◌≤◌, ◌<◌}
use native.Mathlib.Omega.{arith}
use mathlib.Core.Path.{◌≡◌, refl, sym, ap, ◌∙◌}
use mathlib.Core.List.{List, [], ◌∷◌, ◌++◌}
use mathlib.Core.Bool.{Bool, true, false, cond, ◌&&◌, ◌||◌}
use lib.ListN.{length, get_or, drop}
use lib.Seq.{get_or-drop}
use lib.Dec.{eqb}
use borrow.Author.Tests.{eqb-true}
use Rattle.laws.proofs.Tests.{by, apart, and_left, and_right, or_no}
use Rattle.lines.specs.Bytes.{Kind, lf, word, begins, exactly}
use Rattle.lines.specs.Lines.{body_of}
use Rattle.lines.specs.Spans.{end_at}
use Rattle.lines.proofs.Ends.{end_some, first_piece, body_at_lem}
use Rattle.lines.proofs.Strings.{exactly_is}
use Rattle.codes.specs.Elements.{dash}
use Rattle.codes.specs.Places.{prefix_of, two_of, three_of}

-- the first element of a text
abbrev pub element_of : List ℕ → List ℕ
element_of t = first_piece dash (body_of (first_piece lf t))

-- a byte of this kind can end an element: `-`, CR or LF
abbrev pub ends_it : Kind → Bool
ends_it k = k 45 || (k 13 || k 10)

-- a form none of whose bytes ends an element
abbrev pub goes_on : List Kind → Bool
goes_on [] = true
goes_on (k ∷ ks) = cond (ends_it k) false (goes_on ks)

-- ---- the first byte of a text
body_cons : (b : ℕ) (t : List ℕ) → body_of (first_piece lf (b ∷ t)) ≡ cond (end_some (b ∷ t)) [] (b ∷ body_of (first_piece lf t))
body_cons b t = body_at_lem (b ∷ t) 0 (omega arith)

no_ending : (b : ℕ) (t : List ℕ) → eqb b 13 ≡ false → eqb b 10 ≡ false → end_some (b ∷ t) ≡ false
unfolding end_at begins
no_ending b t x y = simp (x, y)

element_on : (b : ℕ) (t : List ℕ) → eqb b 45 ≡ false → eqb b 13 ≡ false → eqb b 10 ≡ false → element_of (b ∷ t) ≡ b ∷ element_of t
unfolding first_piece
element_on b t d x y = rw (body_cons b t, no_ending b t x y, d)

element_dash : (t : List ℕ) → element_of (45 ∷ t) ≡ 45 ∷ []
unfolding first_piece
element_dash t = rw (body_cons 45 t, no_ending 45 t refl refl)

-- an element is empty, or it is the first byte alone, or goes on behind it
one_of : (P : List ℕ → Type 0) (b : ℕ) (t : List ℕ) → P [] → P (b ∷ []) → P (b ∷ element_of t) → P (element_of (b ∷ t))
unfolding first_piece
one_of P b t n o c = rw (body_cons b t) (by (end_some (b ∷ t)) (λ e. rw e n) (λ e. rw e (by (eqb b 45) (λ d. rw d o) (λ d. rw d c))))

front : (P : List ℕ → Type 0) (b : ℕ) (t : List ℕ) → P [] → ((r : List ℕ) → P (b ∷ r)) → P (element_of (b ∷ t))
front P b t n c = one_of P b t n (c []) (c (element_of t))

-- ---- along a form
differs : (k : Kind) (b c : ℕ) → k b ≡ true → k c ≡ false → eqb b c ≡ false
differs k b c y n = by (eqb b c) (λ e. let z : true ≡ false = sym y ∙ ap k (eqb-true b c e) ∙ n in apart cc) (λ e. e)

first_goes : (k : Kind) (ks : List Kind) → goes_on (k ∷ ks) ≡ true → ends_it k ≡ false
first_goes k ks g = by (ends_it k) (λ e. let z : false ≡ true = rw e at g in apart cc) (λ e. e)

rest_goes : (k : Kind) (ks : List Kind) → goes_on (k ∷ ks) ≡ true → goes_on ks ≡ true
rest_goes k ks g = rw (first_goes k ks g) at g

over_byte : (k : Kind) (ks : List Kind) (b : ℕ) (t : List ℕ) → goes_on (k ∷ ks) ≡ true → k b ≡ true → element_of (b ∷ t) ≡ b ∷ element_of t
over_byte k ks b t g y =
    let o = or_no (k 45) (k 13 || k 10) (first_goes k ks g) in
    let q = or_no (k 13) (k 10) o.1 in
    element_on b t (differs k b 45 y o.0) (differs k b 13 y q.0) (differs k b 10 y q.1)

-- The element has the form that the text has at its front, as far as nothing ends it,
pub begins_same : (js : List Kind) (t : List ℕ) → goes_on js ≡ true → begins js (element_of t) ≡ begins js t
unfolding begins first_piece body_of
begins_same [] t g = refl
begins_same (k ∷ ks) [] g = refl
begins_same (k ∷ ks) (b ∷ t) g =
    by (k b)
    (λ y. rw (over_byte k ks b t g y, y) (begins_same ks t (rest_goes k ks g)))
    λ n. front (λ (x : List ℕ). begins (k ∷ ks) x ≡ (k b && begins ks t)) b t (rw n) (λ r. rw n)

-- and is no longer than a form with its `-`.
pub exactly_same : (js : List Kind) (t : List ℕ) → goes_on js ≡ true → exactly (js ++ word "-") (element_of t) ≡ begins (js ++ word "-") t
unfolding begins exactly first_piece body_of
exactly_same [] [] g = refl
exactly_same [] (b ∷ t) g =
    by (eqb b 45)
    (λ y. let e : b ≡ 45 = eqb-true b 45 y in rw (e, element_dash t))
    λ n. front (λ (x : List ℕ). exactly (word "-") x ≡ (eqb b 45 && true)) b t (rw n) (λ r. rw n)
exactly_same (k ∷ ks) [] g = refl
exactly_same (k ∷ ks) (b ∷ t) g =
    by (k b)
    (λ y. rw (over_byte k ks b t g y, y) (exactly_same ks t (rest_goes k ks g)))
    λ n. front (λ (x : List ℕ). exactly (k ∷ (ks ++ word "-")) x ≡ (k b && begins (ks ++ word "-") t)) b t (rw n) (λ r. rw n)

-- Behind the form the element goes on as one that starts there.
pub drop_same : (js : List Kind) (t : List ℕ) → goes_on js ≡ true → begins js t ≡ true → drop (length js) (element_of t) ≡ element_of (drop (length js) t)
unfolding begins
drop_same [] t g e = refl
drop_same (k ∷ ks) [] g e = apart cc
drop_same (k ∷ ks) (b ∷ t) g e =
    let y : k b ≡ true = and_left (k b) (begins ks t) e in
    rw (over_byte k ks b t g y) (drop_same ks t (rest_goes k ks g) (and_right (k b) (begins ks t) e))

-- ---- lengths and bytes
pub begins_room : (ks : List Kind) (t : List ℕ) → begins ks t ≡ true → length ks ≤ length t
unfolding begins
begins_room [] t e = omega arith
begins_room (k ∷ ks) [] e = apart cc
begins_room (k ∷ ks) (b ∷ t) e = let r = begins_room ks t (and_right (k b) (begins ks t) e) in omega arith

pub begins_short : (ks : List Kind) (t : List ℕ) → length t < length ks → begins ks t ≡ false
begins_short ks t h = by (begins ks t) (λ e. let r = begins_room ks t e in let no : ⊥ = omega arith in absurd no) (λ e. e)

pub exactly_length : (ks : List Kind) (s : List ℕ) → exactly ks s ≡ true → length s ≡ length ks
exactly_length ks s e = eqb-true _ _ (and_left (eqb (length s) (length ks)) (begins ks s) (sym (exactly_is ks s) ∙ e))

byte_same : (t : List ℕ) (i : ℕ) → i < length (element_of t) → get_or (element_of t) i 0 ≡ get_or t i 0
unfolding first_piece body_of
byte_same [] i h = refl
byte_same (b ∷ t) zero h = front (λ (x : List ℕ). 0 < length x → get_or x 0 0 ≡ b) b t (λ k. let no : ⊥ = omega arith in absurd no) (λ r k. refl) h
byte_same (b ∷ t) (suc i) h =
    one_of (λ (x : List ℕ). suc i < length x → get_or x (suc i) 0 ≡ get_or t i 0) b t
    (λ k. let no : ⊥ = omega arith in absurd no) (λ k. let no : ⊥ = omega arith in absurd no) (λ k. byte_same t i (omega arith)) h

module _ (t : List ℕ) (k : ℕ) where
  part_byte : (j : ℕ) → k + j < length (element_of t) → get_or (drop k (element_of t)) j 0 ≡ get_or (drop k t) j 0
  part_byte j h = get_or-drop k (element_of t) j 0 ∙ byte_same t (k + j) h ∙ sym (get_or-drop k t j 0)

  -- what its bytes spell, the text's bytes spell
  pub two_same : k + 2 ≤ length (element_of t) → two_of (drop k (element_of t)) ≡ two_of (drop k t)
  two_same h = rw (part_byte 0 (omega arith), part_byte 1 (omega arith))

  pub three_same : k + 3 ≤ length (element_of t) → three_of (drop k (element_of t)) ≡ three_of (drop k t)
  three_same h = rw (part_byte 0 (omega arith), part_byte 1 (omega arith), part_byte 2 (omega arith))

  pub prefix_same : k + 3 ≤ length (element_of t) → prefix_of (drop k (element_of t)) ≡ prefix_of (drop k t)
  prefix_same h = rw (part_byte 0 (omega arith), part_byte 1 (omega arith), part_byte 2 (omega arith))
