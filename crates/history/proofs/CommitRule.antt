-- The ways out of a commit. Assumes nothing.
use Rattle.std.specs.Prelude.{Ok, Err}
use mathlib.Core.Path.{◌≡◌, refl, sym, ap, ◌∙◌, subst}
use mathlib.Core.Logic.{◌≢◌}
use mathlib.Core.Bool.{Bool, true, false}
use mathlib.Core.List.{List}
use Prim.Native.Nat.{ℕ, zero, suc, ◌+◌, ◌*◌, ◌≤◌, ◌<◌}
use native.Mathlib.Omega.{arith}
use lib.ListN.{length, get_or}
use lib.Dec.{eqb}
use borrow.Author.Tests.{eq-eqb, ne_eqb}
use Rattle.laws.proofs.Tests.{impossible}
use Rattle.laws.proofs.Lookups.{get_none}
use Rattle.blocks.specs.Block.{book_length, Bytes}
use Rattle.steps.specs.Book.{Copy, Draft, closed, working, Book, or_closed, draft_at}
use Rattle.refusal.specs.declared.Refusal.{Refusal}
use Rattle.refusal.specs.declared.Reason.TheVariants.{WrongLength, NotSound, NoDraft, StaleDraft}
use Rattle.refusal.specs.Answer.{ok, refusal_for}
use Rattle.steps.specs.Calls.{commit, changed, changes, segments_named, committed}
use Rattle.steps.proofs.Order as order
use Rattle.steps.proofs.Order.{commit_closed, commit_fresh}
use Rattle.layout.specs.Layout.{copies_at, book_of}
use Rattle.layout.specs.Sound.{FineTaken, FineDraft, closed_fine, working_fine, Sound}
use Rattle.layout.specs.Tests.{is_sound}
use Rattle.layout.specs.Lies.{Lies}
use Rattle.layout.specs.Rule.{Does}
use Rattle.layout.specs.declared.Changed.{Changed}
use Rattle.layout.specs.declared.Reply.TheVariants as reply
use Rattle.layout.proofs.Says.{DraftSays, shut, bare, one, two}
use Rattle.layout.proofs.Parts.{sound_parts, draft_cases}
use Rattle.layout.proofs.Said.{drafts_length, draft_of_lem, draft_shut, draft_open}
use Rattle.layout.proofs.Back.{sound_lies}
use Rattle.layout.proofs.SoundBack.{sound_book}
use Rattle.layout.proofs.Rules.{does_short, does_unsound, does_refused, does_step}
use Rattle.keeping.proofs.Parts.{draft_is}
use Rattle.history.specs.declared.Found.{Found}
use Rattle.history.specs.Changing.{AllPlaced, changes_in, Finds, Leaves}
use Rattle.history.proofs.CommitFound.{finds_copies, changes_placed}

-- ---- the draft that bytes tell
draft_0 : (ds : List Draft) (d : ℕ) → d < 1 → draft_at ds d ≡ closed
draft_0 ds zero h = refl
draft_0 ds (suc d) h = impossible (omega arith)

draft_5 : (ds : List Draft) (d : ℕ) → length ds ≡ 4 → 4 < d → draft_at ds d ≡ closed
draft_5 ds zero e h = refl
draft_5 ds (suc d) e h = ap or_closed (get_none ds d (omega arith))

draft_closed : (l : List ℕ) (d : ℕ) → 1 ≤ d → d ≤ 4 → get_or l (4 + 4 * d) 0 ≡ 0 → draft_at (book_of l).drafts d ≡ closed
draft_closed l zero h g e = impossible (omega arith)
draft_closed l (suc d) h g e =
    let q : 8 + 4 * d ≡ 4 + 4 * suc d = omega arith in
    draft_of_lem l d (omega arith) ∙ draft_shut l d (ap (λ (j : ℕ). get_or l j 0) q ∙ e)

-- its four bytes
bytes_say : (l : List ℕ) → is_sound l ≡ true → (d : ℕ) → 1 ≤ d → d ≤ 4
    → DraftSays (get_or l 4 0) (get_or l (4 + 4 * d) 0) (get_or l (5 + 4 * d) 0) (get_or l (6 + 4 * d) 0) (get_or l (7 + 4 * d) 0)
bytes_say l e zero h g = impossible (omega arith)
bytes_say l e (suc d) h g =
    let q0 : 8 + 4 * d ≡ 4 + 4 * suc d = omega arith in
    let q1 : 9 + 4 * d ≡ 5 + 4 * suc d = omega arith in
    let q2 : 10 + 4 * d ≡ 6 + 4 * suc d = omega arith in
    let q3 : 11 + 4 * d ≡ 7 + 4 * suc d = omega arith in
    subst (λ (i : ℕ). DraftSays (get_or l 4 0) (get_or l i 0) (get_or l (5 + 4 * suc d) 0) (get_or l (6 + 4 * suc d) 0) (get_or l (7 + 4 * suc d) 0)) q0
    (subst (λ (i : ℕ). DraftSays (get_or l 4 0) (get_or l (8 + 4 * d) 0) (get_or l i 0) (get_or l (6 + 4 * suc d) 0) (get_or l (7 + 4 * suc d) 0)) q1
    (subst (λ (i : ℕ). DraftSays (get_or l 4 0) (get_or l (8 + 4 * d) 0) (get_or l (9 + 4 * d) 0) (get_or l i 0) (get_or l (7 + 4 * suc d) 0)) q2
    (subst (λ (i : ℕ). DraftSays (get_or l 4 0) (get_or l (8 + 4 * d) 0) (get_or l (9 + 4 * d) 0) (get_or l (10 + 4 * d) 0) (get_or l i 0)) q3
    (draft_cases l (sound_parts l e) d (omega arith)))))

open_one : {n o x y s : ℕ} → DraftSays n o x y s → o ≢ 0 → o ≡ 1
open_one (shut a b c e) h = impossible (h a)
open_one (bare a b c e) h = a
open_one (one a b c e f) h = a
open_one (two a b c e f g k) h = a

first_most : {n o x y s : ℕ} → DraftSays n o x y s → n ≤ 8 → x ≤ 8
first_most (shut a b c e) h = omega arith
first_most (bare a b c e) h = omega arith
first_most (one a b c e f) h = omega arith
first_most (two a b c e f g k) h = omega arith

second_most : {n o x y s : ℕ} → DraftSays n o x y s → n ≤ 8 → y ≤ 8
second_most (shut a b c e) h = omega arith
second_most (bare a b c e) h = omega arith
second_most (one a b c e f) h = omega arith
second_most (two a b c e f g k) h = omega arith

pub first_low : (l : List ℕ) (d : ℕ) → is_sound l ≡ true → 1 ≤ d → d ≤ 4 → get_or l (5 + 4 * d) 0 ≤ 8
first_low l d e h g = first_most (bytes_say l e d h g) (sound_parts l e).eight

pub second_low : (l : List ℕ) (d : ℕ) → is_sound l ≡ true → 1 ≤ d → d ≤ 4 → get_or l (6 + 4 * d) 0 ≤ 8
second_low l d e h g = second_most (bytes_say l e d h g) (sound_parts l e).eight

pub steps_low : (l : List ℕ) → is_sound l ≡ true → get_or l 24 0 ≤ 16
steps_low l e = (sound_parts l e).sixteen

pub found_placed : (l : List ℕ) (d : ℕ) (f : Found) → is_sound l ≡ true → 1 ≤ d → d ≤ 4 → f ≡ changes_in l d → AllPlaced 17 f
found_placed l d f e h g q = subst (AllPlaced 17) (sym q) (changes_placed l d h g (first_low l d e h g) (second_low l d e h g))

-- the copies of an open draft
copies_in : List ℕ → ℕ → List Copy
copies_in l d = copies_at l (get_or l (9 + 4 * d) 0) (get_or l (10 + 4 * d) 0) (9 + 2 * d)

draft_working : (l : List ℕ) → is_sound l ≡ true → (d : ℕ) → d < 4 → get_or l (4 + 4 * suc d) 0 ≢ 0 → (t : Bool) → eqb (get_or l (7 + 4 * suc d) 0) 1 ≡ t
    → draft_at (book_of l).drafts (suc d) ≡ working (copies_in l d) t
unfolding copies_in
draft_working l e d h o t f =
    let q0 : 8 + 4 * d ≡ 4 + 4 * suc d = omega arith in
    let q3 : 11 + 4 * d ≡ 7 + 4 * suc d = omega arith in
    draft_of_lem l d h
    ∙ draft_open l d (ap (λ (j : ℕ). get_or l j 0) q0 ∙ open_one (bytes_say l e (suc d) (omega arith) (omega arith)) o)
    ∙ ap (working (copies_in l d)) (ap (λ (j : ℕ). eqb (get_or l j 0) 1) q3 ∙ f)

-- ---- refusals
pub commit_short : (l : List ℕ) (d : ℕ) (r : Refusal) → length l ≢ book_length → r ≡ refusal_for WrongLength 0 → Does l l (commit d) (Err r)
commit_short l d r h p = does_short l (commit d) (Err r) h (rw p)

pub commit_unsound : (l : List ℕ) (d : ℕ) (r : Refusal) → length l ≡ book_length → is_sound l ≡ false → r ≡ refusal_for NotSound 0 → Does l l (commit d) (Err r)
commit_unsound l d r h e p = does_unsound l (commit d) (Err r) h e (rw p)

module _ (l : List ℕ) (d : ℕ) (r : Refusal) (bytes : Bytes l) (long : length l ≡ book_length) (sound : is_sound l ≡ true) where
  pub commit_low : d < 1 → r ≡ refusal_for NoDraft 0 → Does l l (commit d) (Err r)
  commit_low h p = does_refused l (commit d) (Err r) long sound 13 0 (commit_closed (book_of l) d (draft_0 (book_of l).drafts d h)) (rw p)

  pub commit_high : 4 < d → r ≡ refusal_for NoDraft 0 → Does l l (commit d) (Err r)
  commit_high h p =
      does_refused l (commit d) (Err r) long sound 13 0 (commit_closed (book_of l) d (draft_5 (book_of l).drafts d (drafts_length l) h)) (rw p)

  pub commit_shut : 1 ≤ d → d ≤ 4 → (o : ℕ) → o ≡ get_or l (4 + 4 * d) 0 → o ≡ 0 → r ≡ refusal_for NoDraft 0 → Does l l (commit d) (Err r)
  commit_shut h g o e f p =
      does_refused l (commit d) (Err r) long sound 13 0 (commit_closed (book_of l) d (draft_closed l d h g (sym e ∙ f))) (rw p)

-- a stale draft
pub commit_stale : (l : List ℕ) (d : ℕ) (r : Refusal) → Bytes l → length l ≡ book_length → is_sound l ≡ true → 1 ≤ d → d ≤ 4
    → (o s : ℕ) → o ≡ get_or l (4 + 4 * d) 0 → o ≢ 0 → s ≡ get_or l (7 + 4 * d) 0 → s ≡ 1 → r ≡ refusal_for StaleDraft 0 → Does l l (commit d) (Err r)
commit_stale l zero r bytes long sound h g o s e f a b p = impossible (omega arith)
commit_stale l (suc d) r bytes long sound h g o s e f a b p =
    does_refused l (commit (suc d)) (Err r) long sound 21 0
    (order.commit_stale (book_of l) (suc d) (copies_in l d)
    (draft_working l sound d (omega arith) (λ z. f (e ∙ z)) true (eq-eqb (get_or l (7 + 4 * suc d) 0) 1 (sym a ∙ b))))
    (rw p)

-- ---- the commit
taken_fine : {issue n : ℕ} {x : Draft} (ks : List Copy) → FineDraft issue n x → x ≡ working ks false → FineTaken issue n ks false
taken_fine {issue} {n} {x} ks f e = inside (subst (FineDraft issue n) e f)
  where
    inside : FineDraft issue n (working ks false) → FineTaken issue n ks false
    inside (working_fine t) = t

-- what was found in the bytes is what changed, and it is committed
abbrev pub CommitsFound : List ℕ → List ℕ → ℕ → Found → Changed → Type 0
CommitsFound l m d f c = (b : Book) → Lies l b → Sound b → (cs : List Copy) → Finds b f cs → Leaves c m b d cs

fresh_done : (l m : List ℕ) (d : ℕ) (f : Found) (c : Changed) → Bytes l → length l ≡ book_length → is_sound l ≡ true → d < 4 → f ≡ changes_in l (suc d)
    → (ks : List Copy) → draft_at (book_of l).drafts (suc d) ≡ working ks false → CommitsFound l m (suc d) f c → Does l m (commit (suc d)) (Ok (reply.Segments c))
fresh_done l m d f c bytes long sound h e ks w p =
    let b : Book = book_of l in
    let lies : Lies l b = sound_lies l bytes sound in
    let fit : Sound b = sound_book l bytes sound in
    let fine : FineTaken b.issue (length b.segments) ks false =
    taken_fine ks (draft_is (FineDraft b.issue (length b.segments)) b.drafts (suc d) closed_fine fit.drafts) w in
    let cs : List Copy = changes b.segments ks in
    let finds : Finds b f cs = subst (λ (x : Found). Finds b x cs) (sym e) (finds_copies l b lies fit d h ks w fine) in
    let left : Leaves c m b (suc d) cs = p b lies fit cs finds in
    does_step l m (commit (suc d)) (Ok (reply.Segments c)) long sound (changed (segments_named cs)) (committed b (suc d) cs) (commit_fresh b (suc d) ks w)
    (ap (λ (ns : List ℕ). ok (changed ns)) left.says) left.left

pub commit_done : (l m : List ℕ) (d : ℕ) (f : Found) (c : Changed) → Bytes l → length l ≡ book_length → is_sound l ≡ true → 1 ≤ d → d ≤ 4
    → (o s : ℕ) → o ≡ get_or l (4 + 4 * d) 0 → o ≢ 0 → s ≡ get_or l (7 + 4 * d) 0 → s ≢ 1 → f ≡ changes_in l d → CommitsFound l m d f c
    → Does l m (commit d) (Ok (reply.Segments c))
commit_done l m zero f c bytes long sound h g o s a b e k q p = impossible (omega arith)
commit_done l m (suc d) f c bytes long sound h g o s a b e k q p =
    fresh_done l m d f c bytes long sound (omega arith) q (copies_in l d)
    (draft_working l sound d (omega arith) (λ z. b (a ∙ z)) false (ne_eqb (get_or l (7 + 4 * suc d) 0) 1 (λ z. k (e ∙ z)))) p
