-- The order of the refusals on a book, law by law: what is answered where the tests before it pass, whatever the later ones would say. Assumes nothing.
use Prim.Native.Nat.{ℕ}
use mathlib.Core.Path.{◌≡◌, refl}
use mathlib.Core.Bool.{Bool, true, false}
use mathlib.Core.List.{List, [], ◌∷◌, ◌++◌}
use Rattle.std.specs.Prelude.{None, Some}
use lib.ListN.{length}
use Rattle.std.specs.Prelude.{slice_get}
use lib.Dec.{ltb, eqb}
use Rattle.refusal.specs.declared.Reason.TheVariants.{WrongTime, NoDraft, AllOpen, NoSuchSegment, NotTaken, TakenAlready, TwoTaken, SegmentFull, OnlyPlace, StaleDraft, NoStep, OutOfRange}
use Rattle.refusal.specs.Answer.{ok, no, refused, and_then}
use Rattle.calendar.specs.Purge.{purge_of}
use Rattle.calendar.specs.declared.Stamp.{Stamp}
use Rattle.codes.specs.Places.{capacity}
use Rattle.codes.specs.Block.{Content, insert}
use Rattle.steps.specs.Book.{Copy, closed, working, Book, at, put, draft_at}
use Rattle.steps.specs.Calls.{Edit, read_place, add, remove, set_purge, Work, taking, editing, opening, on, commit, drop, undo, Value, draft, done, number, was, changed, member, without, with_places, edit_rule, in_range, copy_of, recopy, has, work_rule, changes, segments_named, with_drafts, lowest, committed, newest, undone, book_rule}

-- ---- the edit's own: 5, 19, 20, 24 (index)
module _ (issue : ℕ) (c : Content) where
  pub index_past : (i : ℕ) → slice_get c.places i ≡ None → edit_rule issue (read_place i) c ≡ refused OutOfRange 0
  unfolding edit_rule and_then
  index_past i e = rw e

  pub index_there : (i p : ℕ) → slice_get c.places i ≡ Some p → edit_rule issue (read_place i) c ≡ ok (number p, c)
  unfolding edit_rule and_then
  index_there i p e = rw e

  pub add_there : (p : ℕ) → member p c.places ≡ true → edit_rule issue (add p) c ≡ ok (was true, c)
  unfolding edit_rule
  add_there p e = rw e

  pub add_full : (p : ℕ) → member p c.places ≡ false → ltb (length c.places) capacity ≡ false → edit_rule issue (add p) c ≡ refused SegmentFull 0
  unfolding edit_rule and_then
  add_full p e f = rw (e, f)

  pub add_new : (p : ℕ) → member p c.places ≡ false → ltb (length c.places) capacity ≡ true
      → edit_rule issue (add p) c ≡ ok (was false, with_places c (insert p c.places))
  unfolding edit_rule and_then
  add_new p e f = rw (e, f)

  pub remove_absent : (p : ℕ) → member p c.places ≡ false → edit_rule issue (remove p) c ≡ ok (was false, c)
  unfolding edit_rule
  remove_absent p e = rw e

  pub remove_only : (p : ℕ) → member p c.places ≡ true → eqb (length c.places) 1 ≡ true → edit_rule issue (remove p) c ≡ refused OnlyPlace 0
  unfolding edit_rule and_then
  remove_only p e f = rw (e, f)

  pub remove_there : (p : ℕ) → member p c.places ≡ true → eqb (length c.places) 1 ≡ false
      → edit_rule issue (remove p) c ≡ ok (was true, with_places c (without p c.places))
  unfolding edit_rule and_then
  remove_there p e f = rw (e, f)

  pub purge_none : (t : Stamp) → purge_of issue t ≡ None → edit_rule issue (set_purge t) c ≡ refused WrongTime 0
  unfolding edit_rule and_then
  purge_none t e = rw e

  pub purge_given : (t : Stamp) (m : ℕ) → purge_of issue t ≡ Some m → edit_rule issue (set_purge t) c ≡ ok (number m, record { purge = m; places = c.places })
  unfolding edit_rule and_then
  purge_given t m e = rw e

-- ---- "13, 24 (place or time), 15, then 16 or 17, 18", before the edit's own
module _ (b : Book) (d : ℕ) where
  pub on_closed : (s : ℕ) (w : Work) → draft_at b.drafts d ≡ closed → book_rule b (on d s w) ≡ refused NoDraft 0
  unfolding book_rule and_then
  on_closed s w e = rw e

  pub commit_closed : draft_at b.drafts d ≡ closed → book_rule b (commit d) ≡ refused NoDraft 0
  unfolding book_rule and_then
  commit_closed e = rw e

  pub drop_closed : draft_at b.drafts d ≡ closed → book_rule b (drop d) ≡ refused NoDraft 0
  unfolding book_rule and_then
  drop_closed e = rw e

  module _ (ks : List Copy) (stale : Bool) (opened : draft_at b.drafts d ≡ working ks stale) where
    pub drop_open : book_rule b (drop d) ≡ ok (done, with_drafts b (put b.drafts d closed))
    unfolding book_rule and_then
    drop_open = rw opened

    module _ (s : ℕ) where
      pub on_far : (w : Work) → in_range w ≡ false → book_rule b (on d s w) ≡ refused OutOfRange 0
      unfolding book_rule and_then
      on_far w r = rw (opened, r)

      pub on_gone : (w : Work) → in_range w ≡ true → at b.segments s ≡ None → book_rule b (on d s w) ≡ refused NoSuchSegment 0
      unfolding book_rule and_then
      on_gone w r e = rw (opened, r, e)

      module _ (c : Content) (there : at b.segments s ≡ Some c) where
        pub on_again : has s ks ≡ true → book_rule b (on d s taking) ≡ refused TakenAlready 0
        unfolding book_rule work_rule and_then
        on_again h = rw (opened, there, h)

        pub on_full : has s ks ≡ false → ltb (length ks) 2 ≡ false → book_rule b (on d s taking) ≡ refused TwoTaken 0
        unfolding book_rule work_rule and_then
        on_full h g = rw (opened, there, h, g)

        pub on_taken : has s ks ≡ false → ltb (length ks) 2 ≡ true
            → book_rule b (on d s taking) ≡ ok (done, with_drafts b (put b.drafts d (working (ks ++ (record { segment = s; held = c } ∷ [])) stale)))
        unfolding book_rule work_rule and_then
        on_taken h g = rw (opened, there, h, g)

        module _ (e : Edit) (r : in_range (editing e) ≡ true) where
          pub on_absent : copy_of s ks ≡ None → book_rule b (on d s (editing e)) ≡ refused NotTaken 0
          unfolding book_rule work_rule and_then
          on_absent q = rw (opened, r, there, q)

          module _ (k : Content) (copied : copy_of s ks ≡ Some k) where
            pub on_refused : (n p : ℕ) → edit_rule b.issue e k ≡ no n p → book_rule b (on d s (editing e)) ≡ no n p
            unfolding book_rule work_rule and_then
            on_refused n p q = rw (opened, r, there, copied, q)

            pub on_edited : (v : Value) (x : Content) → edit_rule b.issue e k ≡ ok (v, x)
                → book_rule b (on d s (editing e)) ≡ ok (v, with_drafts b (put b.drafts d (working (recopy s x ks) stale)))
            unfolding book_rule work_rule and_then
            on_edited v x q = rw (opened, r, there, copied, q)

      -- where two faults meet: an index is looked at after the segment and the copy, though a place and a time are looked at before them
      pub index_gone : (i : ℕ) → at b.segments s ≡ None → book_rule b (on d s (editing (read_place i))) ≡ refused NoSuchSegment 0
      index_gone i e = on_gone (editing (read_place i)) refl e

      pub index_absent : (i : ℕ) (c : Content) → at b.segments s ≡ Some c → copy_of s ks ≡ None
          → book_rule b (on d s (editing (read_place i))) ≡ refused NotTaken 0
      index_absent i c e q = on_absent c e (read_place i) refl q

-- 21
module _ (b : Book) (d : ℕ) (ks : List Copy) where
  pub commit_stale : draft_at b.drafts d ≡ working ks true → book_rule b (commit d) ≡ refused StaleDraft 0
  unfolding book_rule and_then
  commit_stale e = rw e

  pub commit_fresh : draft_at b.drafts d ≡ working ks false
      → book_rule b (commit d) ≡ ok (changed (segments_named (changes b.segments ks)), committed b d (changes b.segments ks))
  unfolding book_rule and_then
  commit_fresh e = rw e

-- 14, 22
module _ (b : Book) where
  pub open_none : lowest 1 b.drafts ≡ None → book_rule b opening ≡ refused AllOpen 0
  unfolding book_rule and_then
  open_none e = rw e

  pub open_lowest : (d : ℕ) → lowest 1 b.drafts ≡ Some d → book_rule b opening ≡ ok (draft d, with_drafts b (put b.drafts d (working [] false)))
  unfolding book_rule and_then
  open_lowest d e = rw e

  pub undo_none : newest b.history.kept ≡ None → book_rule b undo ≡ refused NoStep 0
  unfolding book_rule and_then
  undo_none e = rw e

  pub undo_newest : (cs : List Copy) → newest b.history.kept ≡ Some cs → book_rule b undo ≡ ok (changed (segments_named cs), undone b cs)
  unfolding book_rule and_then
  undo_newest cs e = rw e
