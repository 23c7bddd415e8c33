use mathlib.Core.Path.{refl, sym, ap, subst, ◌∙◌}
use mathlib.Core.List.{List}
use Rattle.std.specs.Prelude.{Ok, Err}
use Prim.Native.Nat.{ℕ}
use native.Mathlib.Omega.{arith}
use Rattle.blocks.specs.Block.{Bytes}
use Rattle.layout.specs.Rule.{Does}
use Rattle.steps.specs.Calls.{undo}
use Rattle.layout.specs.declared.Reply.TheVariants.{Segments}
use Rattle.layout.proofs.Rules.{does_short, does_unsound}
use Rattle.history.proofs.UndoSteps.{last_step}
use Rattle.history.proofs.UndoBooks.{refusal_answer, undo_none, undo_does}
use Rattle.std.proofs.Common.{rules}
use Rattle.history.proofs.undo.Goals as goal

pub returns-in_default : goal.returns-in_default
returns-in_default c = does_short c.args.book.now undo _ c.in_default.ensures.cases (ap refusal_answer c.into.ensures)

pub returns-then-not-is_sound : goal.returns-then-not-is_sound
returns-then-not-is_sound c = let whole = c.in-Some.ensures.cases in
    rw whole.same
    (does_unsound c.args.book.now undo _ whole.long (sym (rw whole.same at c.is_sound.ensures) ∙ c.if-not-is_sound.true) (ap refusal_answer c.into-then-not-is_sound.ensures))

pub returns-then-n-eq0 : goal.returns-then-n-eq0
unfolding Bytes
returns-then-n-eq0 c = let l = c.in-Some.book.now in
    let same = c.in-Some.ensures.cases.same in
    let y : Bytes c.args.book.now = λ i. omega (arith, c.slice_known-1.given i) in
    subst (λ (z : List ℕ). Does z l undo (Err c.into-then-n-eq0.result)) same
    (undo_none l _ (subst Bytes (sym same) y) (search rules) (sym c.is_sound.ensures ∙ c.if-not-is_sound.false)
    (sym c.from-n.ensures ∙ c.if-n-eq0.true) (ap refusal_answer c.into-then-n-eq0.ensures))

pub undo_step-changed-requires : goal.undo_step-changed-requires
undo_step-changed-requires c = last_step c.in-Some.book.now _ _ (sym c.is_sound.ensures ∙ c.if-not-is_sound.false) c.from-n.ensures c.if-n-eq0.false refl

pub returns : goal.returns
returns c = let l = c.in-Some.book.now in
    let s = last_step l _ _ (sym c.is_sound.ensures ∙ c.if-not-is_sound.false) c.from-n.ensures c.if-n-eq0.false refl in
    subst (λ (z : List ℕ). Does z c.undo_step-changed.new.book undo (Ok (Segments c.undo_step-changed.result))) c.in-Some.ensures.cases.same
    (undo_does l _ s _ _ (search rules) c.undo_step-changed.ensures)
