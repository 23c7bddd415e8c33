-- The changes of a commit, the step that it leaves, and the steps that are kept. Assumes nothing.
use Prim.Native.Nat.{ℕ, suc, ◌-◌, ◌≤◌, ◌<◌}
use native.Mathlib.Omega.{arith}
use mathlib.Core.Path.{◌≡◌, refl, ap}
use mathlib.Core.Logic.{◌≢◌}
use mathlib.Core.Bool.{Bool, false}
use mathlib.Core.List.{List, [], ◌∷◌, ◌++◌, map}
use Rattle.std.specs.Prelude.{Option, None, Some}
use lib.ListN.{length, length-map, length-drop, length-take}
use lib.Dec.{eqb, ltb}
use borrow.Author.Tests.{ltb-true, ltb-false, eqb-false}
use Rattle.laws.proofs.Lists.{all_append, all_map, all_found, all_take, all_drop, all_each}
use Rattle.laws.specs.Lists.{All, all_nil, all_cons}
use Rattle.laws.proofs.Tests.{or_no, choose}
use Rattle.codes.specs.Block.{Content}
use Rattle.steps.specs.Book.{Copy, History, at}
use Rattle.steps.specs.Calls.{has, same_content, insert_copy, changes, or_else, old_of, steps_most, latest, remember, newest, older}
use Rattle.layout.specs.Sound.{Fine, FineCopy, Distinct, none_twice, first_once, UpCopies, none_up, one_up, FineTaken, FineStep, FineHistory}
use Rattle.keeping.proofs.Parts.{all_stands}

-- ---- a copy put among copies that ascend
pub copy_all : (P : Copy → Type 0) (k : Copy) {qs : List Copy} → P k → All P qs → All P (insert_copy k qs)
unfolding insert_copy
copy_all P k p all_nil = all_cons p all_nil
copy_all P k p (all_cons {x = q} {xs = qs} h a) =
    choose (All P) (ltb k.segment q.segment) (k ∷ q ∷ qs) (q ∷ insert_copy k qs) (λ e. all_cons p (all_cons h a)) (λ e. all_cons h (copy_all P k p a))

pub copy_length : (k : Copy) (qs : List Copy) → length (insert_copy k qs) ≡ suc (length qs)
unfolding insert_copy
copy_length k [] = refl
copy_length k (q ∷ qs) =
    choose (λ (l : List Copy). length l ≡ suc (suc (length qs))) (ltb k.segment q.segment) (k ∷ q ∷ qs) (q ∷ insert_copy k qs)
    (λ e. refl)
    (λ e. ap suc (copy_length k qs))

-- a copy of another segment
abbrev pub Other : ℕ → Copy → Type 0
Other s q = s ≢ q.segment

pub others : (s : ℕ) (ks : List Copy) → has s ks ≡ false → All (Other s) ks
unfolding has
others s [] h = all_nil
others s (k ∷ ks) h = let n = or_no (eqb s k.segment) (has s ks) h in all_cons (eqb-false s k.segment n.0) (others s ks n.1)

pub copy_up : (k : Copy) {qs : List Copy} → All (Other k.segment) qs → UpCopies qs → UpCopies (insert_copy k qs)
unfolding insert_copy
copy_up k all_nil none_up = one_up all_nil none_up
copy_up k (all_cons {x = q} {xs = qs} h a) (one_up g u) =
    choose UpCopies (ltb k.segment q.segment) (k ∷ q ∷ qs) (q ∷ insert_copy k qs)
    (λ e.
    let l : k.segment < q.segment = ltb-true k.segment q.segment e in
    one_up (all_cons l (all_map (λ y m. omega arith) g)) (one_up g u))
    (λ e.
    let l : q.segment ≤ k.segment = ltb-false k.segment q.segment e in
    let n : k.segment ≢ q.segment = h in
    one_up (copy_all (λ (y : Copy). q.segment < y.segment) k (omega arith) g) (copy_up k a u))

-- ---- the changed copies
pub changes_all : (P : Copy → Type 0) (segments : List Content) {ks : List Copy} → All P ks → All P (changes segments ks)
unfolding changes
changes_all P segments all_nil = all_nil
changes_all P segments (all_cons {x = k} {xs = ks} h a) =
    choose (All P) (same_content (at segments k.segment) k.held) (changes segments ks) (insert_copy k (changes segments ks))
    (λ e. changes_all P segments a)
    (λ e. copy_all P k h (changes_all P segments a))

pub changes_length : (segments : List Content) (ks : List Copy) → length (changes segments ks) ≤ length ks
unfolding changes
changes_length segments [] = omega arith
changes_length segments (k ∷ ks) =
    choose (λ (l : List Copy). length l ≤ suc (length ks)) (same_content (at segments k.segment) k.held)
    (changes segments ks) (insert_copy k (changes segments ks))
    (λ e. omega (arith, changes_length segments ks))
    (λ e. omega (arith, changes_length segments ks, copy_length k (changes segments ks)))

pub changes_up : (segments : List Content) {ks : List Copy} → Distinct ks → UpCopies (changes segments ks)
unfolding changes
changes_up segments none_twice = none_up
changes_up segments (first_once {k} {ks} e d) =
    choose UpCopies (same_content (at segments k.segment) k.held) (changes segments ks) (insert_copy k (changes segments ks))
    (λ q. changes_up segments d)
    (λ q. copy_up k (changes_all (Other k.segment) segments (others k.segment ks e)) (changes_up segments d))

-- copies of segments that exist, at most two, ascending
pub record FineChanges (issue n : ℕ) (cs : List Copy) : Type 0 where
  pub two : length cs ≤ 2
  pub copies : All (FineCopy issue n) cs
  pub up : UpCopies cs

-- the changed copies of a sound draft
pub changes_fine : (issue n : ℕ) (segments : List Content) (ks : List Copy) (stale : Bool) → FineTaken issue n ks stale
    → FineChanges issue n (changes segments ks)
changes_fine issue n segments ks stale h =
    record {
      two = omega (arith, changes_length segments ks, h.two);
      copies = changes_all (FineCopy issue n) segments h.copies;
      up = changes_up segments h.distinct;
    }

-- ---- what their segments held before
pub old_content : (issue : ℕ) (segments : List Content) (k : Copy) (o : Option Content) → at segments k.segment ≡ o
    → All (Fine issue) segments → Fine issue k.held → Fine issue (or_else o k.held)
old_content issue segments k None e f h = h
old_content issue segments k (Some c) e f h = (all_stands segments k.segment c f e).is

pub old_fine : (issue n : ℕ) (segments : List Content) (k : Copy) → All (Fine issue) segments → FineCopy issue n k → FineCopy issue n (old_of segments k)
old_fine issue n segments k f h = record { from = h.from; to = h.to; fine = old_content issue segments k (at segments k.segment) refl f h.fine }

pub old_up : (segments : List Content) {cs : List Copy} → UpCopies cs → UpCopies (map (old_of segments) cs)
old_up segments none_up = none_up
old_up segments (one_up a u) = one_up (all_each (old_of segments) (λ q h. h) a) (old_up segments u)

pub old_changes : (issue n : ℕ) (segments : List Content) (cs : List Copy) → All (Fine issue) segments → FineChanges issue n cs
    → FineChanges issue n (map (old_of segments) cs)
old_changes issue n segments cs f h =
    record {
      two = omega (arith, length-map cs (old_of segments), h.two);
      copies = all_each (old_of segments) (λ k g. old_fine issue n segments k f g) h.copies;
      up = old_up segments h.up;
    }

-- ---- the steps that are kept
pub latest_length : (steps : List (List Copy)) → length (latest steps) ≤ steps_most
unfolding latest
latest_length steps = omega (arith, length-drop (length steps - steps_most) steps)

pub latest_all : (P : List Copy → Type 0) {steps : List (List Copy)} → All P steps → All P (latest steps)
unfolding latest
latest_all P {steps} a = all_drop (length steps - steps_most) a

-- a step more, if there is any change
pub remember_fine : (issue n : ℕ) (cs : List Copy) (h : History) → FineChanges issue n cs → FineHistory issue n h → FineHistory issue n (remember cs h)
remember_fine issue n [] h c p = p
remember_fine issue n (k ∷ ks) h c p =
    record {
      sixteen = latest_length (h.kept ++ ((k ∷ ks) ∷ []));
      steps =
          latest_all (FineStep issue n)
          (all_append p.steps (all_cons (record { one = omega arith; two = c.two; copies = c.copies; up = c.up }) all_nil));
    }

-- the newest step, and those before it
pub newest_fine : (issue n : ℕ) (h : History) (cs : List Copy) → FineHistory issue n h → newest h.kept ≡ Some cs → FineStep issue n cs
unfolding newest
newest_fine issue n h cs p e = all_found (length h.kept - 1) p.steps e

pub older_fine : (issue n : ℕ) (h : History) → FineHistory issue n h → FineHistory issue n (record { kept = older h.kept })
unfolding older
older_fine issue n h p =
    record {
      sixteen = omega (arith, length-take (length h.kept - 1) h.kept, p.sixteen);
      steps = all_take (length h.kept - 1) p.steps;
    }
