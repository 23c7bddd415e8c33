-- What undo leaves, move by move. Assumes nothing.
use Rattle.std.specs.Prelude.{Result, Ok}
use mathlib.Core.Path.{◌≡◌, sym, ap, subst, ◌∙◌}
use mathlib.Core.Bool.{true}
use mathlib.Core.List.{List}
use Prim.Native.Nat.{ℕ, ◌+◌, ◌-◌, ◌≤◌}
use native.Mathlib.Omega.{arith}
use lib.ListN.{length, get_or}
use Rattle.refusal.specs.declared.Reason.TheVariants.{NoStep}
use Rattle.refusal.specs.declared.Refusal.{Refusal}
use Rattle.refusal.specs.Answer.{ok, refused, answer_by}
use Rattle.blocks.specs.Block.{book_length, Bytes}
use Rattle.steps.specs.Book.{Copy, Book}
use Rattle.steps.specs.Calls.{BookAnswer, changed, newest, older, undone, undo, segments_named}
use Rattle.steps.proofs.Order as order
use Rattle.steps.proofs.Order.{undo_newest}
use Rattle.layout.specs.Layout.{step_of, bytes_of, book_of}
use Rattle.layout.specs.Tests.{is_sound}
use Rattle.layout.specs.Lies.{Lies}
use Rattle.layout.specs.Rule.{segments_said, Does, value_said}
use Rattle.layout.specs.declared.Changed.{Changed}
use Rattle.layout.specs.declared.Reply.{Reply}
use Rattle.layout.specs.declared.Reply.TheVariants as reply
use Rattle.layout.proofs.Back.{sound_lies}
use Rattle.layout.proofs.SoundBack.{sound_book}
use Rattle.layout.proofs.Said.{step_past}
use Rattle.layout.proofs.Rules.{does_step, does_refused}
use Rattle.moves.specs.Undo.{with_kept}
use Rattle.moves.proofs.StepsLies.{lies_count}
use Rattle.history.specs.Changing.{changed_of, step_in, Finds, with_stored, PutsBack}
use Rattle.history.specs.declared.Found.{Found}
use Rattle.history.specs.LastStep.{LastStep}
use Rattle.history.proofs.Stores.{Replaces, finds_numbers}
use Rattle.history.proofs.UndoSteps.{step_count, newest_is, step_finds}

-- ---- what the moves say
abbrev pub Pops : List ℕ → List ℕ → Type 0
Pops l m = (b : Book) → Lies l b → 1 ≤ length b.history.kept → Lies m (with_kept b (older b.history.kept))

abbrev pub Seals : List ℕ → List ℕ → Type 0
Seals l m = (b : Book) → Lies l b → m ≡ bytes_of b

-- ---- the blocks go back
module _ (l : List ℕ) (r : ℕ) (y : Bytes l) (s : LastStep l r) (f : Found) (is : f ≡ step_in l r) where
  abbrev book : Book
  book = book_of l

  abbrev cs : List Copy
  cs = step_of l r

  finds : Finds book f cs
  finds = subst (λ (g : Found). Finds book g cs) (sym is) (step_finds l r s)

  -- and drafts that took the segments turn stale
  back_put : (m : List ℕ) → Replaces l m f → Lies m (with_stored book cs)
  back_put m puts = puts book (sound_lies l y s.sound) book.issue (length book.segments) (sound_book l y s.sound).drafts cs finds

  -- ---- the step goes
  pub back_count : (m : List ℕ) → Replaces l m f → get_or m 24 0 ≡ r + 1
  back_count m puts = lies_count m (with_stored book cs) (back_put m puts) ∙ step_count l r s

  pub step_gone : (m m1 m2 : List ℕ) (c : Changed) → Replaces l m f → Pops m m1 → Seals m1 m2 → c ≡ changed_of f → PutsBack c m2 book cs
  step_gone m m1 m2 c puts pops seals says =
      record {
        says = ap segments_said says ∙ sym (finds_numbers book f cs finds);
        left = seals (undone book cs) (pops (with_stored book cs) (back_put m puts) (omega (arith, step_count l r s)));
      }

-- ---- the call
pub undo_does : (l : List ℕ) (r : ℕ) → LastStep l r → (m : List ℕ) (c : Changed) → length l ≡ book_length → PutsBack c m (book_of l) (step_of l r)
    → Does l m undo (Ok (reply.Segments c))
undo_does l r s m c long back =
    does_step l m undo (Ok (reply.Segments c)) long s.sound (changed (segments_named (step_of l r))) (undone (book_of l) (step_of l r))
    (undo_newest (book_of l) (step_of l r) (newest_is l r s))
    (ap (λ (ns : List ℕ). ok (changed ns)) back.says) back.left

-- ---- no step
-- a refusal as the paper's answer
abbrev pub refusal_answer : Refusal → BookAnswer
refusal_answer w = refused w.reason w.place

pub undo_none : (l : List ℕ) (a : Result Reply Refusal) → Bytes l → length l ≡ book_length → is_sound l ≡ true → get_or l 24 0 ≡ 0 → answer_by value_said a ≡ refused NoStep 0 → Does l l undo a
unfolding newest
undo_none l a y long sound e p =
    does_refused l undo a long sound 22 0
    (order.undo_none (book_of l) (step_past l (length (book_of l).history.kept - 1) (omega (arith, e)))) p
