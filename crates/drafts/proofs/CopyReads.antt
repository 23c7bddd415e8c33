-- The ways out of a read of a draft's copy. Assumes nothing.
use Rattle.std.specs.Prelude.{Result, Ok, Err}
use Prim.Native.Nat.{ℕ, ◌≤◌, ◌<◌}
use native.Mathlib.Omega.{arith}
use mathlib.Core.Path.{◌≡◌, refl, sym, ap, ◌∙◌}
use mathlib.Core.List.{List}
use mathlib.Core.Bool.{Bool, true}
use lib.ListN.{get_or, take}
use lib.Seq.{get_or-take}
use Rattle.laws.proofs.Lookups.{get_some, get_none}
use Rattle.refusal.specs.declared.Reason.TheVariants.{NotTaken, OutOfRange}
use Rattle.refusal.specs.Answer.{Answer, ok, refusal_for, answer_by, answer_of, refused}
use Rattle.refusal.specs.declared.Refusal.{Refusal}
use Rattle.codes.specs.Block.{Content}
use Rattle.blocks.specs.Block.{number_at, block_of, Bytes}
use Rattle.blocks.specs.Content.{content_of}
use Rattle.blocks.specs.Held.{held_content, Fits}
use Rattle.blocks.specs.declared.Held.{Held}
use Rattle.steps.specs.Calls.{Edit, read_purge, read_count, read_place, editing, on, in_range, Value, BookAnswer, number, settle, edit_rule}
use Rattle.steps.proofs.Order.{index_past, index_there}
use Rattle.layout.specs.Rule.{on_bytes, value_said}
use Rattle.layout.specs.declared.Reply.TheVariants as reply
use Rattle.copies.specs.Admission.{admission}
use Rattle.copies.specs.Copies.{copy_block, paper_copy}
use Rattle.copies.specs.declared.Found.{Found}
use Rattle.copies.specs.declared.Found.TheVariants as found
use Rattle.copies.proofs.Admits.{Works}
use Rattle.copies.proofs.Ways.{refused_does, absent_does, answer_at, count_is}

-- ---- refused
module _ (l : List ℕ) (y : Bytes l) (d s : ℕ) (v : Result Unit Refusal) (e : Edit) where
  pub refused_read : (r : Refusal) → v ≡ Err r → answer_of v ≡ admission l d (in_range (editing e)) s → answer_by value_said (Err r) ≡ (on_bytes l (on d s (editing e))).0
  refused_read r is says = (refused_does l y d s v (editing e) r is says).answer

  pub absent_read : (t : Bool) → v ≡ Ok tt → answer_of v ≡ admission l d t s → (f : Found) → paper_copy f ≡ copy_block l d s → in_range (editing e) ≡ true
      → f ≡ found.NotTaken → (a : Refusal) → a ≡ refusal_for NotTaken 0 → answer_by value_said (Err a) ≡ (on_bytes l (on d s (editing e))).0
  absent_read t is says f is_at r none a answers = (absent_does l y d s v t is says f is_at e r none a answers).answer

-- ---- by the content that was loaded
module _ (l : List ℕ) (d s k : ℕ) (w : Works l d s k) (h : Held) (f : Fits h) (is : held_content h ≡ content_of (block_of k l)) where
  pub reads_purge : (n : ℕ) → n ≡ h.purge → answer_by value_said (Ok (reply.Number n)) ≡ (on_bytes l (on d s (editing read_purge))).0
  unfolding edit_rule
  reads_purge n e = ap (λ (m : ℕ). ok (number m)) e ∙ answer_at l d s k w h is read_purge refl

  pub reads_count : answer_by value_said (Ok (reply.Number h.count)) ≡ (on_bytes l (on d s (editing read_count))).0
  unfolding edit_rule
  reads_count = ap (λ (m : ℕ). ok (number m)) (sym (count_is h f)) ∙ answer_at l d s k w h is read_count refl

  -- the place at an index
  indexed : Answer (Value × Content) → BookAnswer
  indexed r = (settle (held_content h) r).0

  pub reads_past : (i : ℕ) → h.count ≤ i → (a : Refusal) → a ≡ refusal_for OutOfRange 0
      → answer_by value_said (Err a) ≡ (on_bytes l (on d s (editing (read_place i)))).0
  unfolding indexed
  reads_past i g a e =
      ap (λ (x : Refusal). refused x.reason x.place) e
      ∙ sym (ap indexed (index_past (number_at l 0) (held_content h) i (get_none (take h.count h.places) i (omega (arith, count_is h f)))))
      ∙ answer_at l d s k w h is (read_place i) refl

  pub reads_place : (i n : ℕ) → i < h.count → n ≡ get_or h.places i 0 → answer_by value_said (Ok (reply.Number n)) ≡ (on_bytes l (on d s (editing (read_place i)))).0
  unfolding indexed
  reads_place i n g e =
      ap (λ (m : ℕ). ok (number m)) (e ∙ sym (get_or-take h.count h.places i 0 g))
      ∙ sym (ap indexed (index_there (number_at l 0) (held_content h) i _ (get_some 0 (take h.count h.places) i (omega (arith, count_is h f)))))
      ∙ answer_at l d s k w h is (read_place i) refl
