-- The ways out of a work on a draft's copy that the calls share: it is refused, or there is a copy. Assumes nothing.
use Rattle.std.specs.Prelude.{Result, Ok, Err}
use Prim.Native.Nat.{ℕ, ◌≤◌, ◌<◌}
use native.Mathlib.Omega.{arith}
use mathlib.Core.Path.{◌≡◌, sym, ap, ◌∙◌}
use mathlib.Core.List.{List}
use mathlib.Core.Bool.{Bool, true}
use lib.ListN.{length, get_or, take}
use lib.Seq.{length-take-le}
use Rattle.refusal.specs.declared.Reason.TheVariants.{NotTaken}
use Rattle.refusal.specs.Answer.{refusal_for, answer_of}
use Rattle.refusal.specs.declared.Refusal.{Refusal}
use Rattle.codes.specs.Block.{Content}
use Rattle.codes.specs.Places.{capacity}
use Rattle.blocks.specs.Block.{book_length, block_count, number_at, block_of, Bytes}
use Rattle.blocks.specs.Content.{content_of}
use Rattle.blocks.specs.Held.{held_content, Fits}
use Rattle.blocks.specs.declared.Held.{Held}
use Rattle.steps.specs.Calls.{Edit, Work, editing, on, in_range}
use Rattle.steps.proofs.Leaving.{edited}
use Rattle.layout.specs.Rule.{on_bytes, Does}
use Rattle.copies.specs.Admission.{admission}
use Rattle.copies.specs.Copies.{copy_block, paper_copy, Admitted}
use Rattle.copies.specs.declared.Found.{Found}
use Rattle.copies.specs.declared.Found.TheVariants as found
use Rattle.copies.proofs.Works.{base_of}
use Rattle.copies.proofs.Admits.{Works, works_at, absent_at, refused_at_lem, admitted_at, ranged_at}

-- the admission accepts
module _ (l : List ℕ) (d s : ℕ) (v : Result Unit Refusal) (t : Bool) (is : v ≡ Ok tt) (says : answer_of v ≡ admission l d t s) where
  pub admitting : Admitted l d s
  admitting = admitted_at l d s t (sym (ap answer_of is) ∙ says)

  pub ranging : t ≡ true
  ranging = ranged_at l d s t (sym (ap answer_of is) ∙ says)

module _ (l : List ℕ) (y : Bytes l) (d s : ℕ) (v : Result Unit Refusal) where
  -- the admission refuses
  module _ (w : Work) (r : Refusal) (is : v ≡ Err r) (says : answer_of v ≡ admission l d (in_range w) s) where
    pub refused_does : Does l l (on d s w) (Err r)
    refused_does = let same = refused_at_lem l d s w r y (sym (ap answer_of is) ∙ says) in record { answer = same.answer; left = same.bytes }

  module _ (t : Bool) (is : v ≡ Ok tt) (says : answer_of v ≡ admission l d t s) where
    in_book_lem : Admitted l d s
    in_book_lem = admitting l d s v t is says

    -- there is a copy
    module _ (f : Found) (is_at : paper_copy f ≡ copy_block l d s) where
      pub working : (k : ℕ) → f ≡ found.Copy k → Works l d s k
      working k q = works_at l d s k (base_of l y in_book_lem.sound) in_book_lem (sym is_at ∙ ap paper_copy q)

      module _ (k : ℕ) (q : f ≡ found.Copy k) where
        pub load_long : length l ≡ book_length
        load_long = (working k q).long

        pub load_block : k < block_count
        load_block = (working k q).block

        pub load_few : get_or (block_of k l) 4 0 ≤ capacity
        load_few = (working k q).few

      -- there is none
      module _ (e : Edit) (r : in_range (editing e) ≡ true) (none : f ≡ found.NotTaken) (a : Refusal) (answers : a ≡ refusal_for NotTaken 0) where
        pub absent_does : Does l l (on d s (editing e)) (Err a)
        absent_does =
            let same = absent_at l d s e (base_of l y in_book_lem.sound) in_book_lem r (sym is_at ∙ ap paper_copy none) in
            record { answer = rw answers same.answer; left = same.bytes }

-- ---- a work on the copy, by the content that was loaded
pub count_is : (h : Held) → Fits h → length (take h.count h.places) ≡ h.count
count_is h f = length-take-le h.count h.places (omega (arith, f.long, f.few))

pub answer_at : (l : List ℕ) (d s k : ℕ) → Works l d s k → (h : Held) → held_content h ≡ content_of (block_of k l) → (e : Edit) → in_range (editing e) ≡ true
    → (edited (number_at l 0) e (held_content h)).0 ≡ (on_bytes l (on d s (editing e))).0
answer_at l d s k w h is e r = ap (λ (c : Content). (edited (number_at l 0) e c).0) is ∙ sym (w.answer e r)
