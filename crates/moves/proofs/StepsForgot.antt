-- The oldest of 16 steps forgotten: the others move down. Assumes nothing.
use mathlib.Core.Path.{◌≡◌, refl, sym, ap, ◌∙◌, subst}
use mathlib.Core.Logic.{◌≢◌}
use mathlib.Core.Bool.{Bool, cond}
use mathlib.Core.List.{List, [], ◌∷◌, ◌++◌, map}
use Rattle.std.specs.Prelude.{Option, None}
use Prim.Native.Nat.{ℕ, ◌+◌, ◌-◌, ◌≤◌, ◌<◌}
use native.Mathlib.Omega.{arith}
use lib.ListN.{length, drop, get_or, set, length-append, length-drop, length-set}
use lib.Seq.{get_or-set_same, get_or-set_other, drop-append-le}
use lib.Dec.{ltb}
use borrow.Author.Tests.{lt-ltb, le-ltb}
use Rattle.laws.proofs.Tests.{by_order, impossible, apart}
use Rattle.codes.specs.Block.{Content}
use Rattle.blocks.specs.Block.{book_length, block_of, put_block}
use Rattle.blocks.specs.Content.{holding}
use Rattle.steps.specs.Book.{Copy, History, Book}
use Rattle.steps.specs.Calls.{segments_named, steps_most, old_of, latest, remember}
use Rattle.layout.specs.Layout.{segment_of, held_of}
use Rattle.layout.specs.Lies.{Lies}
use Rattle.layout.specs.Rule.{segments_said}
use Rattle.layout.specs.declared.Changed.{Changed}
use Rattle.layout.specs.declared.Changed.TheVariants.{Nothing, One, Two}
use Rattle.moves.specs.Named.{Among}
use Rattle.moves.specs.Undo.{with_history, with_kept, last_fifteen}
use Rattle.blocks.proofs.Contents.{unused_length}
use Rattle.blocks.proofs.Blocks.{block_length_lem, put_length}
use Rattle.moves.proofs.Segments.{one_to, first_to, second_to}
use Rattle.moves.proofs.StepsStands.{Stands, put_byte, upd, upd_other, upd_at, stands_set, stands_clear, stands_over, stands_same}
use Rattle.moves.proofs.StepsIndex.{slot_of, slot_none, slot_drop, index_step}
use Rattle.moves.proofs.StepsLies.{bytes_in, parts_in, parts_past, lies_stands, lies_count, steps_lie}

-- from a on, n values moved down by two
unfoldable pub moved : {A : Type 0} → (ℕ → A) → ℕ → ℕ → ℕ → A
moved f a n i = cond (ltb i a) (f i) (cond (ltb i (a + n)) (f (2 + i)) (f i))

module _ {A : Type 0} (f : ℕ → A) (a n i : ℕ) where
  pub moved_low : i < a → moved f a n i ≡ f i
  unfolding moved
  moved_low h = ap (λ (t : Bool). cond t (f i) (cond (ltb i (a + n)) (f (2 + i)) (f i))) (lt-ltb i a h)

  pub moved_in : a ≤ i → i < a + n → moved f a n i ≡ f (2 + i)
  unfolding moved
  moved_in h g =
      ap (λ (t : Bool). cond t (f i) (cond (ltb i (a + n)) (f (2 + i)) (f i))) (le-ltb i a h)
      ∙ ap (λ (t : Bool). cond t (f (2 + i)) (f i)) (lt-ltb i (a + n) g)

  pub moved_high : a + n ≤ i → moved f a n i ≡ f i
  unfolding moved
  moved_high h =
      ap (λ (t : Bool). cond t (f i) (cond (ltb i (a + n)) (f (2 + i)) (f i))) (le-ltb i a (omega arith))
      ∙ ap (λ (t : Bool). cond t (f (2 + i)) (f i)) (le-ltb i (a + n) h)

-- one more
moved_turn : {A : Type 0} (f : ℕ → A) (a n : ℕ) (x : A) → x ≡ f (2 + (a + n)) → (i : ℕ) → upd (moved f a n) (a + n) x i ≡ moved f a (n + 1) i
moved_turn f a n x is i = upd_at (moved f a n) (a + n) x i (moved f a (n + 1) i)
    (λ e. is ∙ ap (λ (j : ℕ). f (2 + j)) (sym e) ∙ sym (moved_in f a (n + 1) i (omega arith) (omega arith)))
    (λ d. by_order i a
    (λ h. moved_low f a n i h ∙ sym (moved_low f a (n + 1) i h))
    (λ h. by_order i (a + n)
    (λ g. moved_in f a n i h g ∙ sym (moved_in f a (n + 1) i h (omega arith)))
    (λ g. moved_high f a n i g ∙ sym (moved_high f a (n + 1) i (omega arith)))))

-- the book l as it was, and as it is after n places
pub record Moving (l m : List ℕ) (n : ℕ) : Type 0 where
  pub most : n ≤ 30
  pub long : length m ≡ book_length
  pub goes : (w : ℕ → ℕ) (h : ℕ → Option Content) → Stands l w h → Stands m (moved w 32 n) (moved h 16 n)

pub moving_start : (l : List ℕ) → length l ≡ book_length → Moving l l 0
moving_start l e =
    record {
      most = omega arith;
      long = e;
      goes = λ w h s. stands_same s (moved w 32 0) (moved h 16 0)
          (λ i g. by_order i 32 (λ p. sym (moved_low w 32 0 i p)) (λ p. sym (moved_high w 32 0 i (omega arith))))
          (λ i g. by_order i 16 (λ p. sym (moved_low h 16 0 i p)) (λ p. sym (moved_high h 16 0 i (omega arith))));
    }

moving_turn : (l m : List ℕ) (n : ℕ) → Moving l m n → n < 30
    → Moving l (put_block (17 + n) (block_of (19 + n) (set m (32 + n) (get_or m (34 + n) 0))) (set m (32 + n) (get_or m (34 + n) 0))) (n + 1)
moving_turn l m n s h =
    let long = s.long in
    let long0 : length (set m (32 + n) (get_or m (34 + n) 0)) ≡ book_length = length-set m (32 + n) (get_or m (34 + n) 0) ∙ s.long in
    let x : ℕ = get_or m (34 + n) 0 in
    record {
      most = omega arith;
      long = put_length (17 + n) (set m (32 + n) x) (block_of (19 + n) (set m (32 + n) x)) (omega arith) (block_length_lem (19 + n) (set m (32 + n) x) (omega arith)) ∙ long0;
      goes = λ w g z.
          let s0 : Stands m (moved w 32 n) (moved g 16 n) = s.goes w g z in
          let s1 : Stands (set m (32 + n) x) (upd (moved w 32 n) (32 + n) x) (moved g 16 n) = stands_set s0 (32 + n) x (omega arith) in
          let s2 = stands_over s1 (19 + n) (17 + n) (18 + n) (16 + n) (omega arith) (omega arith) (omega arith) (omega arith) in
          let p : 34 + n ≡ 2 + (32 + n) = omega arith in
          let q : 18 + n ≡ 2 + (16 + n) = omega arith in
          stands_same s2 (moved w 32 (n + 1)) (moved g 16 (n + 1))
          (λ i _. moved_turn w 32 n x (s0.bytes (34 + n) (omega arith) ∙ moved_high w 32 n (34 + n) (omega arith) ∙ ap w p) i)
          (λ k _. moved_turn g 16 n (moved g 16 n (18 + n)) (moved_high g 16 n (18 + n) (omega arith) ∙ ap g q) k);
    }

pub moving_on : (l m m1 : List ℕ) (n : ℕ) → Moving l m n → n < 30
    → m1 ≡ put_block (17 + n) (block_of (19 + n) (set m (32 + n) (get_or m (34 + n) 0))) (set m (32 + n) (get_or m (34 + n) 0)) → Moving l m1 (n + 1)
moving_on l m m1 n s h e = subst (λ (z : List ℕ). Moving l z (n + 1)) (sym e) (moving_turn l m n s h)

-- the places of the last step are cleared
abbrev pub forgotten : List ℕ → List ℕ
forgotten m = put_block 48 (holding None) (put_block 47 (holding None) (set (set (set m 24 15) 62 0) 63 0))

pub forgot : (l m : List ℕ) (b : Book) → Moving l m 30 → Lies l b → length b.history.kept ≡ 16
    → Lies (forgotten m) (with_kept b (drop 1 b.history.kept))
forgot l m b moving lies all =
    let old : List (List Copy) = b.history.kept in
    let new : List (List Copy) = drop 1 old in
    let size : length new ≡ 15 = length-drop 1 old ∙ omega arith in
    let w : ℕ → ℕ = moved (bytes_in b) 32 30 in
    let h : ℕ → Option Content = moved (parts_in b) 16 30 in
    let w1 : ℕ → ℕ = upd w 24 15 in
    let w2 : ℕ → ℕ = upd w1 62 0 in
    let h1 : ℕ → Option Content = upd h 46 None in
    let s0 : Stands m w h = moving.goes (bytes_in b) (parts_in b) (lies_stands l b lies) in
    let s1 : Stands (set m 24 15) w1 h = stands_set s0 24 15 (omega arith) in
    let s2 : Stands (set (set m 24 15) 62 0) w2 h = stands_set s1 62 0 (omega arith) in
    let s3 : Stands (set (set (set m 24 15) 62 0) 63 0) (upd w2 63 0) h = stands_set s2 63 0 (omega arith) in
    let s4 : Stands (put_block 47 (holding None) (set (set (set m 24 15) 62 0) 63 0)) (upd w2 63 0) h1 = stands_clear s3 47 46 refl (omega arith) in
    let s5 : Stands (forgotten m) (upd w2 63 0) (upd h1 47 None) = stands_clear s4 48 47 refl (omega arith) in
    steps_lie b lies.four new s5 (omega arith)
    (upd_at w2 63 0 24 (length new) (λ e. impossible (omega arith)) (λ _. upd_at w1 62 0 24 (length new) (λ e. impossible (omega arith))
    (λ _. upd_at w 24 15 24 (length new) (λ _. sym size) (λ d. impossible (d refl)))))
    (λ i g d. upd_at w2 63 0 i (bytes_in b i) (λ e. impossible (omega arith)) (λ _. upd_at w1 62 0 i (bytes_in b i) (λ e. impossible (omega arith))
    (λ _. upd_other w 24 15 i d ∙ moved_low (bytes_in b) 32 30 i g)))
    (λ t g. upd_at w2 63 0 (32 + t) (segment_of (slot_of new t))
    (λ e. sym (ap segment_of (slot_none new t (omega arith))))
    (λ d1. upd_at w1 62 0 (32 + t) (segment_of (slot_of new t))
    (λ e. sym (ap segment_of (slot_none new t (omega arith))))
    (λ d2.
    let f : 32 + t ≢ 24 = λ e. omega arith in
    let e : 2 + (32 + t) ≡ 32 + (2 + t) = omega arith in
    upd_other w 24 15 (32 + t) f
    ∙ by_order t 30
    (λ p. moved_in (bytes_in b) 32 30 (32 + t) (omega arith) (omega arith) ∙ ap (bytes_in b) e ∙ index_step b lies.four (2 + t)
    ∙ ap segment_of (slot_drop old t))
    (λ p. moved_high (bytes_in b) 32 30 (32 + t) (omega arith) ∙ index_step b lies.four t
    ∙ ap segment_of (slot_none old t (omega arith) ∙ sym (slot_none new t (omega arith)))))))
    (λ k g. upd_at h1 47 None k (parts_in b k) (λ e. impossible (omega arith)) (λ _. upd_at h 46 None k (parts_in b k) (λ e. impossible (omega arith))
    (λ _. moved_low (parts_in b) 16 30 k g)))
    (λ t g. upd_at h1 47 None (16 + t) (held_of (slot_of new t))
    (λ e. sym (ap held_of (slot_none new t (omega arith))))
    (λ d1. upd_at h 46 None (16 + t) (held_of (slot_of new t))
    (λ e. sym (ap held_of (slot_none new t (omega arith))))
    (λ d2.
    let e : 2 + (16 + t) ≡ 16 + (2 + t) = omega arith in
    moved_in (parts_in b) 16 30 (16 + t) (omega arith) (omega arith) ∙ ap (parts_in b) e ∙ parts_past b (2 + t) ∙ ap held_of (slot_drop old t))))

-- ---- as the code leaves it
module _ (l m m1 m2 : List ℕ) (k : ℕ) (moving : Moving l m k) (done : 30 ≤ k)
    (e1 : m1 ≡ put_block 47 (holding None) (set (set (set m 24 15) 62 0) 63 0)) (e2 : m2 ≡ put_block 48 (holding None) m1) where
  pub forget_done : (b : Book) → Lies l b → length b.history.kept ≡ 16 → Lies m2 (with_kept b (drop 1 b.history.kept))
  forget_done b lies all =
      let most = moving.most in
      let e : k ≡ 30 = omega arith in
      subst (λ (q : List ℕ). Lies q (with_kept b (drop 1 b.history.kept))) (sym (e2 ∙ ap (put_block 48 (holding None)) e1))
      (forgot l m b (subst (Moving l m) e moving) lies all)

  pub forget_count : get_or m2 24 0 ≡ 15
  forget_count =
      let long = moving.long in
      let m0 : List ℕ = set (set (set m 24 15) 62 0) 63 0 in
      let long0 : length m0 ≡ book_length = simp length-set long in
      let long1 : length m1 ≡ book_length = ap (length {A = ℕ}) e1 ∙ put_length 47 m0 (holding None) (omega arith) unused_length ∙ long0 in
      let d1 : ◌≢◌ {A = ℕ} 24 63 = λ e. omega arith in
      let d2 : ◌≢◌ {A = ℕ} 24 62 = λ e. omega arith in
      ap (λ (z : List ℕ). get_or z 24 0) e2 ∙ put_byte m1 48 (holding None) 24 long1 (omega arith) (omega arith) unused_length (omega arith)
      ∙ ap (λ (z : List ℕ). get_or z 24 0) e1 ∙ put_byte m0 47 (holding None) 24 long0 (omega arith) (omega arith) unused_length (omega arith)
      ∙ get_or-set_other (set (set m 24 15) 62 0) 63 24 0 0 d1 ∙ get_or-set_other (set m 24 15) 62 24 0 0 d2 ∙ get_or-set_same m 24 15 0 (omega arith)

-- ---- room for a step
room_full : (steps : List (List Copy)) → length steps ≡ 16 → drop 1 steps ≡ last_fifteen steps
unfolding last_fifteen
room_full steps h = let e : 1 ≡ length steps - 15 = omega arith in ap (λ (n : ℕ). drop n steps) e

room_few : (steps : List (List Copy)) → length steps ≤ 15 → steps ≡ last_fifteen steps
unfolding last_fifteen
room_few steps h = let e : 0 ≡ length steps - 15 = omega arith in ap (λ (n : ℕ). drop n steps) e

-- what making room promises of bytes l before and m after
abbrev pub MakesRoom : List ℕ → List ℕ → Type 0
MakesRoom l m = (b : Book) → Lies l b → Lies m (with_kept b (last_fifteen b.history.kept))

pub room_forgotten : (l m : List ℕ) (n : ℕ) → n ≡ get_or l 24 0 → n ≡ 16
    → ((b : Book) → Lies l b → length b.history.kept ≡ 16 → Lies m (with_kept b (drop 1 b.history.kept))) → MakesRoom l m
room_forgotten l m n is full forgets b lies =
    let count : get_or l 24 0 ≡ length b.history.kept = lies_count l b lies in
    let all : length b.history.kept ≡ 16 = omega arith in
    subst (λ (z : List (List Copy)). Lies m (with_kept b z)) (room_full b.history.kept all) (forgets b lies all)

-- fewer than 16 steps
pub room_there : (l : List ℕ) (n : ℕ) → n ≡ get_or l 24 0 → get_or l 24 0 ≤ steps_most → n ≢ 16 → MakesRoom l l
room_there l n is most d b lies =
    let few : n < 16 = by_order n 16 (λ h. h) (λ h. let e : n ≡ 16 = omega arith in impossible (d e)) in
    let count : get_or l 24 0 ≡ length b.history.kept = lies_count l b lies in
    subst (λ (z : List (List Copy)). Lies l (with_kept b z)) (room_few b.history.kept (omega arith)) lies

-- ---- a step remembered
latest_is : (steps : List (List Copy)) (ks : List Copy) → last_fifteen steps ++ (ks ∷ []) ≡ latest (steps ++ (ks ∷ []))
unfolding latest last_fifteen
latest_is steps ks =
    let e : length steps - 15 ≡ length (steps ++ (ks ∷ [])) - 16 = sym (ap (λ (n : ℕ). n - 16) (length-append steps (ks ∷ [])) ∙ omega arith) in
    sym (drop-append-le (length steps - 15) steps (ks ∷ []) (omega arith)) ∙ ap (λ (n : ℕ). drop n (steps ++ (ks ∷ []))) e

remember_is : (old : History) (f : Copy → Copy) (k : Copy) (ks : List Copy) → record { kept = last_fifteen old.kept ++ (map f (k ∷ ks) ∷ []) } ≡ remember (map f (k ∷ ks)) old
remember_is old f k ks = ap (λ (z : List (List Copy)). record { kept = z }) (latest_is old.kept (map f (k ∷ ks)))

-- what pushing a step promises of bytes l before and m after
abbrev pub Pushes : List ℕ → List ℕ → Changed → Type 0
Pushes l m c =
    (b : Book) → Lies l b → (cs : List Copy) → segments_named cs ≡ segments_said c → Among (length b.segments) c
    → Lies m (with_history b (remember (map (old_of b.segments) cs) b.history))

pub pushed_none : (l : List ℕ) (c : Changed) → c ≡ Nothing → Pushes l l c
pushed_none l c is b lies cs are among = nothing cs (are ∙ ap segments_said is)
  where
    nothing : (cs : List Copy) → segments_named cs ≡ [] → Lies l (with_history b (remember (map (old_of b.segments) cs) b.history))
    nothing [] e = lies
    nothing (k ∷ ks) e = apart cc

-- room was made, and these copies appended
pushed : (b : Book) (m : List ℕ) (cs : List Copy) (s : ℕ) (ss : List ℕ) → segments_named cs ≡ s ∷ ss
    → Lies m (with_kept b (last_fifteen b.history.kept ++ (map (old_of b.segments) cs ∷ []))) → Lies m (with_history b (remember (map (old_of b.segments) cs) b.history))
pushed b m [] s ss e lies = apart cc
pushed b m (k ∷ ks) s ss e lies = subst (λ (z : History). Lies m (with_history b z)) (remember_is b.history (old_of b.segments) k ks) lies

pub pushed_one : (l l1 m : List ℕ) (c : Changed) (s : ℕ) → c ≡ One s → MakesRoom l l1
    → ((b : Book) → Lies l1 b → (cs : List Copy) → segments_named cs ≡ s ∷ [] → s ≤ length b.segments
    → Lies m (with_kept b (b.history.kept ++ (map (old_of b.segments) cs ∷ []))))
    → Pushes l m c
pushed_one l l1 m c s is room appends b lies cs are among =
    let e : segments_named cs ≡ s ∷ [] = are ∙ ap segments_said is in
    pushed b m cs s [] e (appends (with_kept b (last_fifteen b.history.kept)) (room b lies) cs e (one_to among is))

pub pushed_two : (l l1 m : List ℕ) (c : Changed) (s t : ℕ) → c ≡ Two s t → MakesRoom l l1
    → ((b : Book) → Lies l1 b → (cs : List Copy) → segments_named cs ≡ s ∷ t ∷ [] → s ≤ length b.segments → t ≤ length b.segments
    → Lies m (with_kept b (b.history.kept ++ (map (old_of b.segments) cs ∷ []))))
    → Pushes l m c
pushed_two l l1 m c s t is room appends b lies cs are among =
    let e : segments_named cs ≡ s ∷ t ∷ [] = are ∙ ap segments_said is in
    pushed b m cs s (t ∷ []) e (appends (with_kept b (last_fifteen b.history.kept)) (room b lies) cs e (first_to among is) (second_to among is))
