-- The ways out of a change of a draft's copy. Assumes nothing.
use Rattle.std.specs.Prelude.{Option, None, Some, Result, Ok, Err}
use Prim.Native.Nat.{ℕ, ◌-◌, ◌≤◌, ◌<◌}
use native.Mathlib.Nat.{sub-zero}
use native.Mathlib.Omega.{arith}
use mathlib.Core.Path.{◌≡◌, sym, ap, subst, ◌∙◌}
use mathlib.Core.List.{List}
use mathlib.Core.Bool.{Bool, true, false, not}
use lib.ListN.{length, take, drop}
use lib.Seq.{length-take-le}
use lib.Dec.{eqb, ltb}
use borrow.Author.Tests.{ltb-true, le-ltb, lt-ltb, eq-eqb, ne_eqb, not-true, not-false}
use Rattle.refusal.specs.declared.Reason.TheVariants.{NotTaken, WrongTime, SegmentFull, OnlyPlace}
use Rattle.refusal.specs.Answer.{ok, refusal_for, answer_by, answer_of, refused}
use Rattle.refusal.specs.declared.Refusal.{Refusal}
use Rattle.calendar.specs.Calendar.{is_time}
use Rattle.calendar.specs.Purge.{purge_of}
use Rattle.calendar.specs.declared.Stamp.{Stamp}
use Rattle.calendar.proofs.Laws.{purge_low}
use Rattle.codes.specs.Block.{Content, insert}
use Rattle.codes.specs.Places.{capacity, places_end, ascends}
use Rattle.blocks.specs.Block.{number_at, block_of, put_block, Bytes}
use Rattle.blocks.specs.Content.{holding, content_of}
use Rattle.blocks.specs.Held.{held_content, Fits}
use Rattle.blocks.specs.declared.Held.{Held}
use Rattle.steps.specs.Calls.{Edit, add, remove, set_purge, editing, on, BookAnswer, was, settle, in_range, member, without}
use Rattle.steps.proofs.Order as order
use Rattle.steps.proofs.Order.{add_there, remove_absent, remove_there, purge_given}
use Rattle.steps.proofs.Leaving.{edited}
use Rattle.layout.specs.Rule.{value_said, Does}
use Rattle.layout.specs.declared.Reply.{Reply}
use Rattle.layout.specs.declared.Reply.TheVariants as reply
use Rattle.copies.specs.Admission.{admission}
use Rattle.copies.specs.Copies.{copy_block, paper_copy}
use Rattle.copies.specs.declared.Found.{Found}
use Rattle.copies.specs.declared.Found.TheVariants as found
use Rattle.copies.proofs.Admits.{Works}
use Rattle.copies.proofs.Ways.{ranging, refused_does, absent_does, answer_at, count_is}

-- a place in its range
pub place_low : (l : List ℕ) (d s p : ℕ) (v : Result Unit Refusal) → v ≡ Ok tt → answer_of v ≡ admission l d (ltb p places_end) s → p < 4294967296
place_low l d s p v is says = let h = ltb-true p places_end (ranging l d s v (ltb p places_end) is says) in omega arith

-- what the admission refuses, where a test was made for the range
module _ (l : List ℕ) (y : Bytes l) (d s : ℕ) (v : Result Unit Refusal) (t : Bool) (says : answer_of v ≡ admission l d t s) (e : Edit) (tests : t ≡ in_range (editing e)) where
  by_range : answer_of v ≡ admission l d (in_range (editing e)) s
  by_range = says ∙ ap (λ (b : Bool). admission l d b s) tests

  pub tested_does : (r : Refusal) → v ≡ Err r → Does l l (on d s (editing e)) (Err r)
  tested_does r is = refused_does l y d s v (editing e) r is by_range

  module _ (is : v ≡ Ok tt) where
    pub in_range_lem : in_range (editing e) ≡ true
    in_range_lem = sym tests ∙ ranging l d s v t is says

    pub tested_absent : (f : Found) → paper_copy f ≡ copy_block l d s → f ≡ found.NotTaken → (a : Refusal) → a ≡ refusal_for NotTaken 0
        → Does l l (on d s (editing e)) (Err a)
    tested_absent f is_at q a answers = absent_does l y d s v t is says f is_at e in_range_lem q a answers

-- ---- a change of the copy, by the content that was loaded
module _ (l : List ℕ) (d s k : ℕ) (w : Works l d s k) (h : Held) (f : Fits h) (is : held_content h ≡ content_of (block_of k l)) where
  abbrev issue : ℕ
  issue = number_at l 0

  abbrev held : Content
  held = held_content h

  module _ (e : Edit) (r : in_range (editing e) ≡ true) (a : Result Reply Refusal) where
    -- the copy stays
    kept_does : edited issue e held ≡ (answer_by value_said a, held) → Does l l (on d s (editing e)) a
    kept_does q =
        record {
          answer = sym (ap (λ (x : BookAnswer × Content). x.0) q) ∙ answer_at l d s k w h is e r;
          left =
              sym (w.kept e r
              (ap (λ (c : Content). (edited issue e c).1) (sym is) ∙ ap (λ (x : BookAnswer × Content). x.1) q ∙ is));
        }

    -- the content c is stored
    stored_does : (c : Content) → edited issue e held ≡ (answer_by value_said a, c) → length c.places ≤ capacity → (m : List ℕ) → m ≡ put_block k (holding (Some c)) l
        → Does l m (on d s (editing e)) a
    stored_does c q few m z =
        let same : (edited issue e (content_of (block_of k l))).1 ≡ c = ap (λ (c : Content). (edited issue e c).1) (sym is) ∙ ap (λ (x : BookAnswer × Content). x.1) q in
        record {
          answer = sym (ap (λ (x : BookAnswer × Content). x.0) q) ∙ answer_at l d s k w h is e r;
          left =
              z ∙ sym (w.stored e r (subst (λ (c : Content). length c.places ≤ capacity) (sym same) few)
              ∙ ap (λ (c : Content). put_block k (holding (Some c)) l) same);
        }

  pub held_up : ascends 0 (take h.count h.places) ≡ true
  held_up = ap (λ (c : Content). ascends 0 c.places) is ∙ w.fine.up

  -- set purge
  module _ (time : Stamp) (t : Bool) (range : t ≡ true) (is-range : t ≡ is_time time) (n : ℕ) (is-issue : n ≡ issue) (m : Option ℕ) (gives : m ≡ purge_of n time) where
    in_time : in_range (editing (set_purge time)) ≡ true
    in_time = sym is-range ∙ range

    given : purge_of issue time ≡ m
    given = sym (gives ∙ ap (λ (i : ℕ). purge_of i time) is-issue)

    -- 5
    pub purge_none : m ≡ None → (a : Refusal) → a ≡ refusal_for WrongTime 0 → Does l l (on d s (editing (set_purge time))) (Err a)
    purge_none nothing a e =
        kept_does (set_purge time) in_time (Err a)
        (ap (settle held) (order.purge_none issue held time (given ∙ nothing)) ∙ ap (λ (r : Refusal). (refused r.reason r.place, held)) (sym e))

    pub purge_some : (minute : ℕ) → m ≡ Some minute → (p : ℕ) → p ≡ minute
        → (n : List ℕ) → n ≡ put_block k (holding (Some (held_content (record { purge = p; places = h.places; count = h.count })))) l
        → Does l n (on d s (editing (set_purge time))) (Ok (reply.Number minute))
    purge_some minute at p e n q =
        stored_does (set_purge time) in_time (Ok (reply.Number minute)) (record { purge = minute; places = take h.count h.places })
        (ap (settle held) (purge_given issue held time minute (given ∙ at))) (omega (arith, count_is h f, f.few)) n
        (q ∙ ap (λ (i : ℕ). put_block k (holding (Some (held_content (record { purge = i; places = h.places; count = h.count })))) l) e)

  -- add, remove: q is the place p
  module _ (p q : ℕ) (same : q ≡ p) (range : ltb p places_end ≡ true) (t : Bool) (is-there : t ≡ member q (take h.count h.places)) where
    there : member p held.places ≡ t
    there = sym (is-there ∙ ap (λ (i : ℕ). member i held.places) same)

    -- the places of a content by value
    few_of : (g : Held) → Fits g → length (held_content g).places ≤ capacity
    few_of g fg = omega (arith, length-take-le g.count g.places (omega (arith, fg.long, fg.few)), fg.few)

    pub add_old : t ≡ true → Does l l (on d s (editing (add p))) (Ok (reply.Was true))
    add_old u = kept_does (add p) range (Ok (reply.Was true)) (ap (settle held) (add_there issue held p (there ∙ u)))

    module _ (u : t ≡ false) where
      room_is : (b : Bool) → ltb h.count capacity ≡ b → ltb (length held.places) capacity ≡ b
      room_is b e = ap (λ (n : ℕ). ltb n capacity) (count_is h f) ∙ e

      -- 19
      pub add_full : capacity ≤ h.count → (a : Refusal) → a ≡ refusal_for SegmentFull 0 → Does l l (on d s (editing (add p))) (Err a)
      add_full full a e =
          kept_does (add p) range (Err a)
          (ap (settle held) (order.add_full issue held p (there ∙ u) (room_is false (le-ltb h.count capacity full))) ∙ ap (λ (r : Refusal). (refused r.reason r.place, held)) (sym e))

      pub add_new : h.count < capacity → (g : Held) → held_content g ≡ record { purge = h.purge; places = insert q (take h.count h.places) } → Fits g
          → (m : List ℕ) → m ≡ put_block k (holding (Some (held_content g))) l → Does l m (on d s (editing (add p))) (Ok (reply.Was false))
      add_new room g e fg =
          stored_does (add p) range (Ok (reply.Was false)) (held_content g)
          (ap (settle held) (order.add_new issue held p (there ∙ u) (room_is true (lt-ltb h.count capacity room)))
          ∙ ap (λ (c : Content). (ok (was false), c)) (sym (e ∙ ap (λ (i : ℕ). record { purge = h.purge; places = insert i (take h.count h.places) }) same)))
          (few_of g fg)

    pub remove_none : not t ≡ true → Does l l (on d s (editing (remove p))) (Ok (reply.Was false))
    remove_none u = kept_does (remove p) range (Ok (reply.Was false)) (ap (settle held) (remove_absent issue held p (there ∙ not-true t u)))

    module _ (u : not t ≡ false) where
      one_is : (b : Bool) → eqb h.count 1 ≡ b → eqb (length held.places) 1 ≡ b
      one_is b e = ap (λ (n : ℕ). eqb n 1) (count_is h f) ∙ e

      -- 20
      pub remove_only : h.count ≡ 1 → (a : Refusal) → a ≡ refusal_for OnlyPlace 0 → Does l l (on d s (editing (remove p))) (Err a)
      remove_only only a e =
          kept_does (remove p) range (Err a)
          (ap (settle held) (order.remove_only issue held p (there ∙ not-false t u) (one_is true (eq-eqb h.count 1 only))) ∙ ap (λ (r : Refusal). (refused r.reason r.place, held)) (sym e))

      pub remove_old : (h.count ≡ 1 → ⊥) → (g : Held) → held_content g ≡ record { purge = h.purge; places = without q (take h.count h.places) } → Fits g
          → (m : List ℕ) → m ≡ put_block k (holding (Some (held_content g))) l → Does l m (on d s (editing (remove p))) (Ok (reply.Was true))
      remove_old more g e fg =
          stored_does (remove p) range (Ok (reply.Was true)) (held_content g)
          (ap (settle held) (remove_there issue held p (there ∙ not-false t u) (one_is false (ne_eqb h.count 1 more)))
          ∙ ap (λ (c : Content). (ok (was true), c)) (sym (e ∙ ap (λ (i : ℕ). record { purge = h.purge; places = without i (take h.count h.places) }) same)))
          (few_of g fg)

-- a minute that a purge has
pub minute_low : (issue : ℕ) (time : Stamp) (m : Option ℕ) (minute : ℕ) → m ≡ purge_of issue time → m ≡ Some minute → minute < 4294967296
minute_low issue time m minute e q = let h = purge_low issue time minute (sym e ∙ q) in omega arith

-- a part of an array, from its start on
pub stored_part : (l m : List ℕ) (k purge count : ℕ) (places : List ℕ) → m ≡ put_block k (holding (Some (record { purge = purge; places = take (count - 0) (drop 0 places) }))) l
    → m ≡ put_block k (holding (Some (record { purge = purge; places = take count places }))) l
stored_part l m k purge count places e = e ∙ ap (λ (n : ℕ). put_block k (holding (Some (record { purge = purge; places = take n places }))) l) (sub-zero count)
