-- Every call keeps a sound book sound, and a book that is made is sound. Assumes nothing.
use Prim.Native.Nat.{ℕ, ◌≤◌}
use native.Mathlib.Omega.{arith}
use mathlib.Core.Path.{◌≡◌, refl, ◌∙◌, subst}
use mathlib.Core.Bool.{true, false, not}
use mathlib.Core.List.{List, [], map}
use Rattle.std.specs.Prelude.{Some}
use lib.ListN.{length, length-map}
use Rattle.laws.proofs.Tests.{apart}
use Rattle.laws.specs.Lists.{All, all_nil, all_cons}
use Rattle.laws.proofs.Lookups.{some_same}
use Rattle.refusal.specs.declared.Reason.TheVariants.{NoDraft, AllOpen, NoSuchSegment, StaleDraft, NoStep, OutOfRange}
use Rattle.codes.specs.Block.{Content}
use Rattle.steps.specs.Book.{Copy, Draft, closed, working, History, Book, at, put, draft_at, new_book}
use Rattle.steps.specs.Calls.{Call, opening, on, commit, drop, undo, Value, in_range, work_rule, staled, stored, changes, old_of, remember, newest, older, with_drafts, lowest, committed, undone, OpenDraft, open_draft, book_rule, step}
use Rattle.steps.proofs.Chains.{Told, told_ok, told_must, told_find, told_then, told_left}
use Rattle.layout.specs.Sound.{is_issue, Fine, FineCopy, none_twice, FineTaken, FineDraft, closed_fine, working_fine, FineHistory, Sound}
use Rattle.keeping.proofs.Parts.{put_length, all_put, all_stands, draft_is}
use Rattle.keeping.proofs.Working.{work_fine}
use Rattle.keeping.proofs.Storing.{stored_length, stored_fine, staled_all}
use Rattle.keeping.proofs.Changing.{changes_fine, old_changes, remember_fine, newest_fine, older_fine}

-- ---- a book that is made
pub new_sound : (issue : ℕ) (segments : List Content) → is_issue issue ≡ true → 1 ≤ length segments → length segments ≤ 8 → All (Fine issue) segments
    → Sound (new_book issue segments)
new_sound issue segments e l m f =
    record {
      year = e;
      one = l;
      eight = m;
      contents = f;
      four = refl;
      drafts = all_cons closed_fine (all_cons closed_fine (all_cons closed_fine (all_cons closed_fine all_nil)));
      past = record { sixteen = omega arith; steps = all_nil };
    }

-- a draft of a sound book is fine, also one that is not there
pub draft_fine : (b : Book) (d : ℕ) → Sound b → FineDraft b.issue (length b.segments) (draft_at b.drafts d)
draft_fine b d h = draft_is (FineDraft b.issue (length b.segments)) b.drafts d closed_fine h.drafts

-- ---- a book whose draft d alone is another
pub put_sound : (b : Book) (d : ℕ) (x : Draft) → FineDraft b.issue (length b.segments) x → Sound b → Sound (with_drafts b (put b.drafts d x))
put_sound b d x f h =
    record {
      year = h.year;
      one = h.one;
      eight = h.eight;
      contents = h.contents;
      four = put_length b.drafts d x ∙ h.four;
      drafts = all_put d x f h.drafts;
      past = h.past;
    }

-- ---- a book into which copies were stored
pub store_sound : (b : Book) (cs : List Copy) (ds : List Draft) (past : History) → All (FineCopy b.issue (length b.segments)) cs
    → length ds ≡ 4 → All (FineDraft b.issue (length b.segments)) ds → FineHistory b.issue (length b.segments) past
    → Sound b → Sound (record { issue = b.issue; segments = stored cs b.segments; drafts = ds; history = past })
store_sound b cs ds past c e f p h =
    let q : length (stored cs b.segments) ≡ length b.segments = stored_length cs b.segments in
    record {
      year = h.year;
      one = omega (arith, h.one);
      eight = omega (arith, h.eight);
      contents = stored_fine b.issue (length b.segments) c h.contents;
      four = e;
      drafts = rw q f;
      past = rw q p;
    }

-- ---- the calls
-- an open draft of a sound book
pub open_fine : {issue n : ℕ} {y : Draft} {x : OpenDraft} → FineDraft issue n y → open_draft y ≡ Some x → FineTaken issue n x.copies x.stale
open_fine closed_fine e = apart cc
open_fine {issue} {n} (working_fine f) e = subst (λ (x : OpenDraft). FineTaken issue n x.copies x.stale) (some_same e) f

module _ (b : Book) (h : Sound b) where
  abbrev i : ℕ
  i = b.issue

  abbrev n : ℕ
  n = length b.segments

  opened : (d : ℕ) {x : OpenDraft} → open_draft (draft_at b.drafts d) ≡ Some x → FineTaken i n x.copies x.stale
  opened d e = open_fine (draft_fine b d h) e

  commit_sound : (d : ℕ) (x : OpenDraft) → FineTaken i n x.copies x.stale → Sound (committed b d (changes b.segments x.copies))
  commit_sound d x f =
      let cs = changes b.segments x.copies in
      let c = changes_fine i n b.segments x.copies x.stale f in
      store_sound b cs (put (map (staled cs) b.drafts) d closed) (remember (map (old_of b.segments) cs) b.history) c.copies
      (put_length (map (staled cs) b.drafts) d closed ∙ length-map b.drafts (staled cs) ∙ h.four)
      (all_put d closed closed_fine (staled_all i n cs h.drafts))
      (remember_fine i n (map (old_of b.segments) cs) b.history (old_changes i n b.segments cs h.contents c) h.past)
      h

  undo_sound : (cs : List Copy) → newest b.history.kept ≡ Some cs → Sound (undone b cs)
  undo_sound cs e =
      store_sound b cs (map (staled cs) b.drafts) (record { kept = older b.history.kept })
      (newest_fine i n b.history cs h.past e).copies
      (length-map b.drafts (staled cs) ∙ h.four)
      (staled_all i n cs h.drafts)
      (older_fine i n b.history h.past)
      h

  -- every call leaves a sound book
  pub rule_fine : (c : Call) → Told (λ (z : Value × Book). Sound z.1) (book_rule b c)
  unfolding book_rule
  rule_fine opening =
      told_find (lowest 1 b.drafts) AllOpen _ (λ d e. told_ok _ (put_sound b d (working [] false)
      (working_fine (record { two = omega arith; copies = all_nil; distinct = none_twice; taken = λ (q : false ≡ true). apart cc })) h))
  rule_fine (on d s w) =
      told_find (open_draft (draft_at b.drafts d)) NoDraft _ (λ x e. told_must (in_range w) OutOfRange _ (λ r. told_find (at b.segments s) NoSuchSegment _
      (λ c g.
      let a = all_stands b.segments s c h.contents g in
      told_then (work_rule i s c w x.copies) _
      (work_fine i n s x.stale c x.copies (opened d e) w r (record { from = a.from; to = a.to; fine = a.is }))
      (λ z f. told_ok _ (put_sound b d (working z.1 x.stale) (working_fine f) h)))))
  rule_fine (commit d) =
      told_find (open_draft (draft_at b.drafts d)) NoDraft _ (λ x e. told_must (not x.stale) StaleDraft _ (λ t. told_ok _ (commit_sound d x (opened d e))))
  rule_fine (drop d) =
      told_find (open_draft (draft_at b.drafts d)) NoDraft _ (λ x e. told_ok _ (put_sound b d closed closed_fine h))
  rule_fine undo = told_find (newest b.history.kept) NoStep _ (λ cs e. told_ok _ (undo_sound cs e))

-- every call keeps a book sound
pub step_sound : (b : Book) (c : Call) → Sound b → Sound (step b c).1
unfolding step
step_sound b c h = told_left Sound b (book_rule b c) h (rule_fine b h c)
