-- The ways out of `drop`. Assumes nothing.
use Rattle.std.specs.Prelude.{Ok, Err}
use Prim.Native.Nat.{ℕ, ◌≤◌}
use mathlib.Core.Path.{◌≡◌, refl, sym, ◌∙◌}
use mathlib.Core.List.{List}
use mathlib.Core.Bool.{Bool, true, false, not}
use lib.ListN.{length}
use borrow.Author.Tests.{not-true, not-false}
use Rattle.laws.proofs.Tests.{by_order, apart}
use Rattle.refusal.specs.declared.Reason.TheVariants.{NoDraft}
use Rattle.refusal.specs.declared.Refusal.{Refusal}
use Rattle.refusal.specs.Answer.{refusal_for}
use Rattle.blocks.specs.Block.{book_length, Bytes}
use Rattle.steps.specs.Book.{Draft, closed, working, Book, put, draft_at}
use Rattle.steps.specs.Calls.{drop, done, with_drafts}
use Rattle.steps.proofs.Order.{drop_closed, drop_open}
use Rattle.layout.specs.Layout.{bytes_of, book_of}
use Rattle.layout.specs.Tests.{is_sound}
use Rattle.layout.specs.Rule.{Does}
use Rattle.layout.specs.Lies.{Lies}
use Rattle.layout.specs.declared.Reply.TheVariants as reply
use Rattle.layout.proofs.Back.{sound_lies}
use Rattle.layout.proofs.Rules.{does_step, does_refused}
use Rattle.copies.specs.Admission.{is_open}
use Rattle.copies.proofs.Finds.{open_zero, open_far}
use Rattle.copies.proofs.Admits.{opened_at}

closed_of : (x : Draft) → is_open x ≡ false → x ≡ closed
closed_of closed e = refl
closed_of (working ks stale) e = apart cc

module _ (l : List ℕ) (d : ℕ) (opened : Bool) (opened_is : opened ≡ is_open (draft_at (book_of l).drafts d)) where
  -- an open draft is one of the four
  module _ (ready : not opened ≡ false) where
    u : is_open (draft_at (book_of l).drafts d) ≡ true
    u = sym opened_is ∙ not-false opened ready

    pub drop_from : 1 ≤ d
    drop_from = by_order d 1 (λ h. apart (let e = open_zero l d h ∙ u in cc)) (λ h. h)

    pub drop_to : d ≤ 4
    drop_to = by_order 4 d (λ h. apart (let e = open_far l d h ∙ u in cc)) (λ h. h)

  module _ (y : Bytes l) (long : length l ≡ book_length) (sound : Bool) (is-sound : sound ≡ is_sound l) (good : not sound ≡ false) where
    t : is_sound l ≡ true
    t = sym is-sound ∙ not-false sound good

    -- 13
    pub drop_shut : (w : Refusal) → not opened ≡ true → w ≡ refusal_for NoDraft 0 → Does l l (drop d) (Err w)
    drop_shut w h q =
        let shut : draft_at (book_of l).drafts d ≡ closed = closed_of (draft_at (book_of l).drafts d) (sym opened_is ∙ not-true opened h) in
        does_refused l (drop d) (Err w) long t 13 0 (drop_closed (book_of l) d shut) (rw q)

    pub drop_does : (m : List ℕ) → not opened ≡ false → ((b : Book) → Lies l b → Lies m (with_drafts b (put b.drafts d closed)))
        → (z : List ℕ) → ((b : Book) → Lies m b → z ≡ bytes_of b) → Does l z (drop d) (Ok reply.Done)
    drop_does m ready shut z sealed =
        let o = opened_at (book_of l).drafts d (u ready) in
        let after : Book = with_drafts (book_of l) (put (book_of l).drafts d closed) in
        does_step l z (drop d) (Ok reply.Done) long t done after (drop_open (book_of l) d o.ks o.stale o.there) refl
        (sealed after (shut (book_of l) (sound_lies l y t)))
