-- The lowest closed draft, and the ways out of `open`. Assumes nothing.
use Rattle.std.specs.Prelude.{Option, None, Some, Ok, Err}
use Prim.Native.Nat.{ℕ, suc, ◌+◌, ◌*◌, ◌≤◌, ◌<◌}
use native.Mathlib.Omega.{arith}
use mathlib.Core.Path.{◌≡◌, refl, sym, ap, ◌∙◌}
use mathlib.Core.Logic.{◌≢◌}
use mathlib.Core.List.{List, [], ◌∷◌}
use mathlib.Core.Bool.{Bool, true, false, not}
use lib.ListN.{length, get_or}
use Rattle.std.specs.Prelude.{slice_get}
use borrow.Author.Tests.{ne_eqb, not-true, not-false}
use Rattle.laws.proofs.Tests.{apart}
use Rattle.refusal.specs.declared.Reason.TheVariants.{WrongLength, NotSound, AllOpen}
use Rattle.refusal.specs.declared.Refusal.{Refusal}
use Rattle.refusal.specs.Answer.{refusal_for}
use Rattle.codes.specs.Places.{upward}
use Rattle.blocks.specs.Block.{book_length, Bytes}
use Rattle.steps.specs.Book.{Draft, closed, working, Book, or_closed, put, draft_at}
use Rattle.steps.specs.Calls.{Call, opening, draft, lowest, with_drafts}
use Rattle.steps.proofs.Order as order
use Rattle.layout.specs.Layout.{draft_of, bytes_of, book_of}
use Rattle.layout.specs.Tests.{is_sound}
use Rattle.layout.specs.Rule.{Does}
use Rattle.layout.specs.Lies.{Lies}
use Rattle.layout.specs.declared.Reply.TheVariants as reply
use Rattle.layout.proofs.Back.{sound_lies}
use Rattle.layout.proofs.Rules.{does_step, does_refused, does_short, does_unsound}
use Rattle.layout.proofs.Said.{drafts_length, draft_shut}

-- ---- a call on bytes of a wrong length, and on bytes that are no sound book
pub ends_short : (l : List ℕ) (c : Call) (w : Refusal) → (length l ≡ book_length → ⊥) → w ≡ refusal_for WrongLength 0 → Does l l c (Err w)
ends_short l c w h e = does_short l c (Err w) h (rw e)

pub ends_unsound : (l : List ℕ) (c : Call) (w : Refusal) (sound : Bool) → length l ≡ book_length → sound ≡ is_sound l → not sound ≡ true
    → w ≡ refusal_for NotSound 0 → Does l l c (Err w)
ends_unsound l c w sound h q t e = does_unsound l c (Err w) h (sym q ∙ not-true sound t) (rw e)

-- ---- the four drafts in their order
four_drafts : (l : List ℕ) → (book_of l).drafts ≡ draft_of l 0 ∷ draft_of l 1 ∷ draft_of l 2 ∷ draft_of l 3 ∷ []
unfolding book_of upward
four_drafts l = refl

module _ (l : List ℕ) (n k : ℕ) (ds : List Draft) where
  lowest_here : get_or l (8 + 4 * k) 0 ≡ 0 → lowest n (draft_of l k ∷ ds) ≡ Some n
  unfolding lowest
  lowest_here e = ap (λ (x : Draft). lowest n (x ∷ ds)) (draft_shut l k e)

  lowest_later : get_or l (8 + 4 * k) 0 ≢ 0 → lowest n (draft_of l k ∷ ds) ≡ lowest (suc n) ds
  unfolding lowest draft_of
  lowest_later h = rw (ne_eqb (get_or l (8 + 4 * k) 0) 0 h)

module _ (l : List ℕ) (first : ℕ) (is-first : first ≡ get_or l 8 0) where
  pub lowest_1 : first ≡ 0 → (Some 1) ≡ lowest 1 (book_of l).drafts
  lowest_1 e = sym (ap (lowest 1) (four_drafts l) ∙ lowest_here l 1 0 _ (sym is-first ∙ e))

  module _ (no-first : first ≡ 0 → ⊥) (second : ℕ) (is-second : second ≡ get_or l 12 0) where
    from_2 : lowest 1 (book_of l).drafts ≡ lowest 2 (draft_of l 1 ∷ draft_of l 2 ∷ draft_of l 3 ∷ [])
    from_2 = ap (lowest 1) (four_drafts l) ∙ lowest_later l 1 0 _ (λ z. no-first (is-first ∙ z))

    pub lowest_2 : second ≡ 0 → (Some 2) ≡ lowest 1 (book_of l).drafts
    lowest_2 e = sym (from_2 ∙ lowest_here l 2 1 _ (sym is-second ∙ e))

    module _ (no_second : second ≡ 0 → ⊥) (third : ℕ) (is-third : third ≡ get_or l 16 0) where
      from_3 : lowest 1 (book_of l).drafts ≡ lowest 3 (draft_of l 2 ∷ draft_of l 3 ∷ [])
      from_3 = from_2 ∙ lowest_later l 2 1 _ (λ z. no_second (is-second ∙ z))

      pub lowest_3 : third ≡ 0 → (Some 3) ≡ lowest 1 (book_of l).drafts
      lowest_3 e = sym (from_3 ∙ lowest_here l 3 2 _ (sym is-third ∙ e))

      module _ (no_third : third ≡ 0 → ⊥) (fourth : ℕ) (is-fourth : fourth ≡ get_or l 20 0) where
        from_4 : lowest 1 (book_of l).drafts ≡ lowest 4 (draft_of l 3 ∷ [])
        from_4 = from_3 ∙ lowest_later l 3 2 _ (λ z. no_third (is-third ∙ z))

        pub lowest_4 : fourth ≡ 0 → (Some 4) ≡ lowest 1 (book_of l).drafts
        lowest_4 e = sym (from_4 ∙ lowest_here l 4 3 _ (sym is-fourth ∙ e))

        pub lowest_none : (fourth ≡ 0 → ⊥) → None ≡ lowest 1 (book_of l).drafts
        unfolding lowest
        lowest_none h = sym (from_4 ∙ lowest_later l 4 3 [] (λ z. h (is-fourth ∙ z)))

-- ---- the lowest closed draft is one of the drafts, and closed
record Closed (n : ℕ) (ds : List Draft) (d : ℕ) : Type 0 where
  k : ℕ
  is : d ≡ n + k
  low : k < length ds
  shut : slice_get ds k ≡ Some closed

closed_at : (n : ℕ) (ds : List Draft) (d : ℕ) → lowest n ds ≡ Some d → Closed n ds d
unfolding lowest
closed_at n [] d e = apart cc
closed_at n (closed ∷ ds) d e = let z : n ≡ d = cc in record { k = 0; is = omega arith; low = omega arith; shut = refl }
closed_at n (working ks stale ∷ ds) d e =
    let c = closed_at (suc n) ds d e in
    record { k = suc c.k; is = omega (arith, c.is); low = omega (arith, c.low); shut = c.shut }

-- ---- the ways out
module _ (l : List ℕ) (long : length l ≡ book_length) (sound : Bool) (is-sound : sound ≡ is_sound l) (good : not sound ≡ false)
    (w : Option ℕ) (is-lowest : w ≡ lowest 1 (book_of l).drafts) where
  t : is_sound l ≡ true
  t = sym is-sound ∙ not-false sound good

  -- 14
  pub open_none : (y : Bytes l) (r : Refusal) → w ≡ None → r ≡ refusal_for AllOpen 0 → Does l l opening (Err r)
  open_none y r e q =
      let none-closed : lowest 1 (book_of l).drafts ≡ None = sym is-lowest ∙ e in
      does_refused l opening (Err r) long t 14 0 (order.open_none (book_of l) none-closed) (rw q)

  -- a draft is closed
  module _ (d : ℕ) (is : w ≡ Some d) where
    closed_one : Closed 1 (book_of l).drafts d
    closed_one = closed_at 1 (book_of l).drafts d (sym is-lowest ∙ is)

    pub open_from : 1 ≤ d
    open_from = omega (arith, closed_one.is)

    pub open_to : d ≤ 4
    open_to = omega (arith, closed_one.is, closed_one.low, drafts_length l)

    open_shut : draft_at (book_of l).drafts d ≡ closed
    open_shut =
        let e : d ≡ suc closed_one.k = omega (arith, closed_one.is) in
        ap (draft_at (book_of l).drafts) e ∙ ap or_closed closed_one.shut

    pub open_does : (y : Bytes l) (m : List ℕ)
        → ((b : Book) → Lies l b → draft_at b.drafts d ≡ closed → Lies m (with_drafts b (put b.drafts d (working [] false))))
        → (z : List ℕ) → ((b : Book) → Lies m b → z ≡ bytes_of b) → Does l z opening (Ok (reply.Draft d))
    open_does y m opened z sealed =
        let one-closed : lowest 1 (book_of l).drafts ≡ Some d = sym is-lowest ∙ is in
        let after : Book = with_drafts (book_of l) (put (book_of l).drafts d (working [] false)) in
        does_step l z opening (Ok (reply.Draft d)) long t (draft d) after (order.open_lowest (book_of l) d one-closed) refl
        (sealed after (opened (book_of l) (sound_lies l y t) open_shut))
