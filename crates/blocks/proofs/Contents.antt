-- What a block holds: a good block is the bytes of what it says, and the bytes of a sound content are a good block that says it. Assumes nothing.
use mathlib.Core.Path.{◌≡◌, refl, sym, ap, ap₂, ◌∙◌, subst}
use mathlib.Core.Bool.{true, false≢true, ◌&&◌}
use mathlib.Core.List.{List, [], ◌∷◌, ◌++◌, append_assoc}
use Rattle.std.specs.Prelude.{Option, None, Some}
use Prim.Native.Nat.{ℕ, suc, ◌+◌, ◌*◌, ◌-◌, ◌/◌, ◌%◌, ◌≤◌, ◌<◌}
use native.Mathlib.Omega.{arith}
use lib.ListN.{length, take, drop, get_or, set, replicate, length-replicate, get_or-replicate, length-drop, length-append}
use Rattle.std.specs.List.{slice_range}
use lib.Seq.{get_or-drop, take-add, drop-set-add, get_or-append-add}
use lib.Dec.{eqb, leb, ltb}
use borrow.Author.Tests.{leb-true, le-leb, ltb-true, eqb-true, eq-eqb}
use Rattle.laws.proofs.Tests.{by_order, and_left, and_right}
use Rattle.calendar.specs.Purge.{is_purge}
use Rattle.calendar.proofs.Laws.{purge_own, purge_low}
use Rattle.codes.specs.Places.{capacity, places_end, is_set, ascends}
use Rattle.codes.specs.Block.{Content}
use Rattle.checks.specs.Seal.{block_length, check_of, sealed, checked, all_zero}
use Rattle.blocks.specs.Block.{bytes32, number_at, numbers_of, flat, same_list, Bytes}
use Rattle.blocks.specs.Content.{content_bytes, holding, content_of, is_content}
use Rattle.checks.specs.Unused.{is_unused}
use Rattle.blocks.specs.Good.{is_used}
use Rattle.blocks.proofs.Chunks.{set_append_right, flat_length}
use Rattle.checks.proofs.Seals.{sealed_length, sealed_at}
use Rattle.blocks.proofs.Numbers.{bytes_drop, number_forth, first4, word_back, numbers_length, numbers_back}
use Rattle.checks.proofs.Zeros.{slice_zero, zero_in}
use Rattle.blocks.proofs.Forms.{sealed_checked, sealed_form}

-- ---- the same bytes
-- the test is true of equal lists alone
pub same_list_lem : (a b : List ℕ) → same_list a b ≡ true → a ≡ b
unfolding same_list
same_list_lem [] [] e = refl
same_list_lem [] (y ∷ ys) e = absurd (false≢true e)
same_list_lem (x ∷ xs) [] e = absurd (false≢true e)
same_list_lem (x ∷ xs) (y ∷ ys) e =
    ap₂ (λ (z : ℕ) (zs : List ℕ). z ∷ zs)
    (eqb-true x y (and_left (eqb x y) (same_list xs ys) e))
    (same_list_lem xs ys (and_right (eqb x y) (same_list xs ys) e))

-- and it is true of them
pub same_refl : (a : List ℕ) → same_list a a ≡ true
unfolding same_list
same_refl [] = refl
same_refl (x ∷ xs) = rw (eq-eqb x x refl) (same_refl xs)

-- ---- lengths
-- four bytes a number
numbers_wide : (ps : List ℕ) → length (flat bytes32 ps) ≡ length ps * 4
numbers_wide ps = flat_length bytes32 4 (λ p. refl) ps

-- the bytes of a content fill a block
pub content_length : (c : Content) → length c.places ≤ capacity → length (content_bytes c) ≡ block_length
unfolding content_bytes
content_length c h =
    let a = numbers_wide c.places in
    let z = length-replicate {A = ℕ} (504 - 4 * length c.places) 0 in
    simp length-append (omega arith)

-- a used block's length, an unused one's, either's
pub used_length : (c : Content) → length c.places ≤ capacity → length (holding (Some c)) ≡ block_length
unfolding holding
used_length c h = sealed_length (content_bytes c) ∙ content_length c h

pub unused_length : length (holding None) ≡ block_length
unfolding holding
unused_length = sealed_length (replicate block_length 0) ∙ length-replicate {A = ℕ} block_length 0

pub holding_length : (o : Option Content) → ((c : Content) → o ≡ Some c → length c.places ≤ capacity) → length (holding o) ≡ block_length
holding_length None h = unused_length
holding_length (Some c) h = used_length c (h c refl)

-- ---- what the tests say
-- a sound content
pub record Sound (issue : ℕ) (c : Content) : Type 0 where
  pub some : 1 ≤ length c.places
  pub few : length c.places ≤ capacity
  pub up : ascends 0 c.places ≡ true
  pub purged : is_purge issue c.purge ≡ true

-- a content is sound where the test says so
pub sound_true : (issue : ℕ) (c : Content) → is_content issue c ≡ true → Sound issue c
unfolding is_content is_set
sound_true issue c e =
    let n = length c.places in
    let set = leb 1 n && leb n capacity && ascends 0 c.places in
    let p = and_left set (is_purge issue c.purge) e in
    let q = and_left (leb 1 n && leb n capacity) (ascends 0 c.places) p in
    record {
      some = leb-true 1 n (and_left (leb 1 n) (leb n capacity) q);
      few = leb-true n capacity (and_right (leb 1 n) (leb n capacity) q);
      up = and_right (leb 1 n && leb n capacity) (ascends 0 c.places) p;
      purged = and_right set (is_purge issue c.purge) e;
    }

-- and the test says so of what is
pub sound_is : (issue : ℕ) (c : Content) → Sound issue c → is_content issue c ≡ true
unfolding is_content is_set
sound_is issue c s = rw (le-leb 1 (length c.places) s.some, le-leb (length c.places) capacity s.few, s.up, s.purged)

-- a purge minute has 32 bits
pub purge_32 : (issue t : ℕ) → is_purge issue t ≡ true → t < 4294967296
purge_32 issue t e = let p = purge_own issue t e in omega (arith, purge_low issue p.date.stamp t p.given)

-- a good used block
pub record Used (issue : ℕ) (b : List ℕ) : Type 0 where
  pub check : checked b ≡ true
  pub some : 1 ≤ get_or b 4 0
  pub few : get_or b 4 0 ≤ capacity
  pub head : all_zero (slice_range b 5 8) ≡ true
  pub tail : all_zero (slice_range b (8 + 4 * get_or b 4 0) 510) ≡ true
  pub up : ascends 0 (numbers_of (get_or b 4 0) (drop 8 b)) ≡ true
  pub purged : is_purge issue (number_at b 0) ≡ true

-- a block is a good used one where the test says so
pub used_true : (issue : ℕ) (b : List ℕ) → is_used issue b ≡ true → Used issue b
unfolding is_used
used_true issue b e =
    let n = get_or b 4 0 in
    let one = leb 1 n in
    let most = leb n capacity in
    let t1 = checked b in
    let t2 = all_zero (slice_range b 5 8) in
    let t3 = all_zero (slice_range b (8 + 4 * n) 510) in
    let t4 = ascends 0 (numbers_of n (drop 8 b)) in
    let t5 = is_purge issue (number_at b 0) in
    let e4 = and_left (t1 && (one && most) && t2 && t3 && t4) t5 e in
    let e3 = and_left (t1 && (one && most) && t2 && t3) t4 e4 in
    let e2 = and_left (t1 && (one && most) && t2) t3 e3 in
    let e1 = and_left (t1 && (one && most)) t2 e2 in
    let e0 = and_right t1 (one && most) e1 in
    record {
      check = and_left t1 (one && most) e1;
      some = leb-true 1 n (and_left one most e0);
      few = leb-true n capacity (and_right one most e0);
      head = and_right (t1 && (one && most)) t2 e2;
      tail = and_right (t1 && (one && most) && t2) t3 e3;
      up = and_right (t1 && (one && most) && t2 && t3) t4 e4;
      purged = and_right (t1 && (one && most) && t2 && t3 && t4) t5 e;
    }

-- and the test says so of what is
pub used_is : (issue : ℕ) (b : List ℕ) → Used issue b → is_used issue b ≡ true
unfolding is_used
used_is issue b u = rw (u.check, le-leb 1 (get_or b 4 0) u.some, le-leb (get_or b 4 0) capacity u.few, u.head, u.tail, u.up) u.purged

-- ---- from a block to a content and back
module _ (issue : ℕ) (b : List ℕ) (len : length b ≡ block_length) (y : Bytes b) (u : Used issue b) where
  -- its first eight bytes
  head_back : take 8 b ≡ bytes32 (number_at b 0) ++ (get_or b 4 0 ∷ 0 ∷ 0 ∷ 0 ∷ [])
  head_back =
      take-add 4 4 b
      ∙ ap₂ (λ (p q : List ℕ). p ++ q) (word_back b (omega arith) y)
      (first4 (drop 4 b) (rw length-drop (omega arith))
      ∙ rw (
        get_or-drop 4 b 0 0,
        get_or-drop 4 b 1 0,
        get_or-drop 4 b 2 0,
        get_or-drop 4 b 3 0,
        zero_in 5 8 b u.head 5 (omega arith) (omega arith),
        zero_in 5 8 b u.head 6 (omega arith) (omega arith),
        zero_in 5 8 b u.head 7 (omega arith) (omega arith),
      ))

  -- it is the bytes of what it says
  pub block_back : holding (Some (content_of b)) ≡ b
  unfolding holding content_bytes content_of
  block_back =
      let n : ℕ = get_or b 4 0 in
      let few = u.few in
      let w = numbers_length n (drop 8 b) in
      let z : 512 - (8 + 4 * n) ≡ 504 - 4 * n = omega arith in
      let front : take (8 + 4 * n) b ≡ (bytes32 (number_at b 0) ++ (n ∷ 0 ∷ 0 ∷ 0 ∷ [])) ++ flat bytes32 (numbers_of n (drop 8 b)) =
      take-add 8 (4 * n) b
      ∙ ap₂ (λ (p q : List ℕ). p ++ q) head_back (numbers_back n (drop 8 b) (rw length-drop (omega arith)) (bytes_drop 8 b y)) in
      sym
      (sealed_form b len y (8 + 4 * n) (omega arith) u.check u.tail
      ∙ ap sealed
      (ap₂ (λ (l : List ℕ) (m : ℕ). l ++ replicate m 0) front z
      ∙ append_assoc (bytes32 (number_at b 0) ++ (n ∷ 0 ∷ 0 ∷ 0 ∷ [])) (flat bytes32 (numbers_of n (drop 8 b))) (replicate (504 - 4 * n) 0)
      ∙ rw w))

  -- what it says is sound
  pub block_sound : Sound issue (content_of b)
  unfolding content_of
  block_sound =
      let w = numbers_length (get_or b 4 0) (drop 8 b) in
      record { some = rw w u.some; few = rw w u.few; up = u.up; purged = u.purged }

-- what a good block says is sound, and the block is the bytes of it
pub content_back : (issue : ℕ) (b : List ℕ) → length b ≡ block_length → Bytes b → is_used issue b ≡ true
    → (holding (Some (content_of b)) ≡ b) × (is_content issue (content_of b) ≡ true)
content_back issue b len y e =
    let u = used_true issue b e in
    (block_back issue b len y u, sound_is issue (content_of b) (block_sound issue b len y u))

-- ---- from a content to a block and back
-- the first place, and those above it
rise : (low p : ℕ) (ps : List ℕ) → ascends low (p ∷ ps) ≡ true → (p < places_end) × (ascends (suc p) ps ≡ true)
unfolding ascends
rise low p ps h =
    let a = leb low p in
    let b = ltb p places_end in
    (ltb-true p places_end (and_right a b (and_left (a && b) (ascends (suc p) ps) h)), and_right (a && b) (ascends (suc p) ps) h)

-- places are what their bytes say
pub numbers_forth : (low : ℕ) (ps r : List ℕ) → ascends low ps ≡ true → numbers_of (length ps) (flat bytes32 ps ++ r) ≡ ps
unfolding numbers_of flat
numbers_forth low [] r h = refl
numbers_forth low (p ∷ ps) r h =
    let s = rise low p ps h in
    ap₂ (λ (x : ℕ) (xs : List ℕ). x ∷ xs) (number_forth p (omega (arith, s.0))) (numbers_forth (suc p) ps r s.1)

-- what holds of 5, 6 and 7 holds from 5 up to 8
three : (P : ℕ → Type 0) → P 5 → P 6 → P 7 → (i : ℕ) → 5 ≤ i → i < 8 → P i
three P a b c i h g =
    by_order i 6
    (λ l. let e : 5 ≡ i = omega arith in subst P e a)
    (λ l. by_order i 7 (λ m. let e : 6 ≡ i = omega arith in subst P e b) (λ m. let e : 7 ≡ i = omega arith in subst P e c))

module _ (issue : ℕ) (c : Content) (s : Sound issue c) where
  -- what the block's parts say
  count_is : get_or (holding (Some c)) 4 0 ≡ length c.places
  unfolding holding content_bytes
  count_is = sealed_at (content_bytes c) 4 (omega arith)

  purge_is_lem : number_at (holding (Some c)) 0 ≡ c.purge
  unfolding holding content_bytes
  purge_is_lem =
      let b : List ℕ = content_bytes c in
      rw (sealed_at b 0 (omega arith), sealed_at b 1 (omega arith), sealed_at b 2 (omega arith), sealed_at b 3 (omega arith))
      (number_forth c.purge (purge_32 issue c.purge s.purged))

  -- after the places something that does not matter
  rest_is : (r : List ℕ) × (drop 8 (holding (Some c)) ≡ flat bytes32 c.places ++ r)
  unfolding holding content_bytes sealed
  rest_is =
      let f : List ℕ = flat bytes32 c.places in
      let z : List ℕ = replicate (504 - 4 * length c.places) 0 in
      let x : ℕ = check_of (content_bytes c) % 256 in
      let y : ℕ = check_of (content_bytes c) / 256 % 256 in
      let a = numbers_wide c.places in
      let few = s.few in
      let p : 502 ≡ length f + (502 - length f) = omega arith in
      let q : 503 ≡ length f + (503 - length f) = omega arith in (
        set (set z (502 - length f) x) (503 - length f) y,
        drop-set-add 8 (set (content_bytes c) 510 x) 503 y
            ∙ ap (λ (l : List ℕ). set l 503 y) (drop-set-add 8 (content_bytes c) 502 x)
            ∙ ap₂ (λ (i j : ℕ). set (set (f ++ z) i x) j y) p q
            ∙ ap (λ (l : List ℕ). set l (length f + (503 - length f)) y) (set_append_right f z (502 - length f) x)
            ∙ set_append_right f (set z (502 - length f) x) (503 - length f) y,
      )

  places_are_lem : numbers_of (get_or (holding (Some c)) 4 0) (drop 8 (holding (Some c))) ≡ c.places
  places_are_lem = ap₂ numbers_of count_is rest_is.1 ∙ numbers_forth 0 c.places rest_is.0 s.up

  -- the block says the content
  pub content_said : content_of (holding (Some c)) ≡ c
  unfolding content_of
  content_said = λ i. record { purge = purge_is_lem i; places = places_are_lem i }

  -- and passes each test
  checked_is : checked (holding (Some c)) ≡ true
  unfolding holding
  checked_is = sealed_checked (content_bytes c) (content_length c s.few)

  head_is : all_zero (slice_range (holding (Some c)) 5 8) ≡ true
  unfolding holding content_bytes
  head_is =
      let b : List ℕ = content_bytes c in
      slice_zero 5 8 (sealed b) (omega (arith, used_length c s.few))
      (three (λ (i : ℕ). get_or (sealed b) i 0 ≡ 0) (sealed_at b 5 (omega arith)) (sealed_at b 6 (omega arith)) (sealed_at b 7 (omega arith)))

  tail_is : all_zero (slice_range (holding (Some c)) (8 + 4 * length c.places) 510) ≡ true
  unfolding holding content_bytes
  tail_is =
      let n : ℕ = length c.places in
      let f : List ℕ = flat bytes32 c.places in
      let z : List ℕ = replicate (504 - 4 * n) 0 in
      slice_zero (8 + 4 * n) 510 (sealed (content_bytes c)) (omega (arith, used_length c s.few))
      (λ i h g. let a = numbers_wide c.places in
      let m : ℕ = i - 8 - length f in
      let e : i ≡ 8 + (length f + m) = omega arith in
      sealed_at (content_bytes c) i g
      ∙ ap (λ (j : ℕ). get_or (content_bytes c) j 0) e
      ∙ get_or-append-add (bytes32 c.purge ++ (n ∷ 0 ∷ 0 ∷ 0 ∷ [])) (f ++ z) (length f + m) 0
      ∙ get_or-append-add f z m 0
      ∙ get_or-replicate (504 - 4 * n) m 0 0 (omega arith))

  pub content_used : Used issue (holding (Some c))
  content_used =
      record {
        check = checked_is;
        some = rw count_is s.some;
        few = rw count_is s.few;
        head = head_is;
        tail = rw count_is tail_is;
        up = rw places_are_lem s.up;
        purged = rw purge_is_lem s.purged;
      }

-- the bytes of a sound content are a good block, which says that content
pub content_forth : (issue : ℕ) (c : Content) → is_content issue c ≡ true
    → (content_of (holding (Some c)) ≡ c) × (is_used issue (holding (Some c)) ≡ true)
content_forth issue c e =
    let s = sound_true issue c e in
    (content_said issue c s, used_is issue (holding (Some c)) (content_used issue c s))

-- a block holds one content
pub holding_one : (issue : ℕ) (c d : Content) → is_content issue c ≡ true → is_content issue d ≡ true → holding (Some c) ≡ holding (Some d) → c ≡ d
holding_one issue c d p q e = sym (content_forth issue c p).0 ∙ ap content_of e ∙ (content_forth issue d q).0

-- ---- an unused block
-- it passes the test
pub unused_forth : is_unused (holding None) ≡ true
unfolding is_unused holding
unused_forth =
    let z : List ℕ = replicate block_length 0 in
    let n : length z ≡ block_length = length-replicate {A = ℕ} block_length 0 in
    let m = sealed_length z in
    rw (sealed_checked z n) (slice_zero 0 510 (sealed z) (omega arith) (λ i h g. sealed_at z i g ∙ get_or-replicate block_length i 0 0 (omega arith)))

-- and nothing else passes it
pub unused_back : (b : List ℕ) → length b ≡ block_length → Bytes b → is_unused b ≡ true → holding None ≡ b
unfolding is_unused holding
unused_back b len y e =
    sym (sealed_form b len y 0 (omega arith) (and_left (checked b) (all_zero (slice_range b 0 510)) e) (and_right (checked b) (all_zero (slice_range b 0 510)) e))
