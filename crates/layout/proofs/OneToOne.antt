-- What the paper says of a call's answer is said of no other, and a call's promise determines the answer and the bytes. Assumes nothing.
use mathlib.Core.Path.{◌≡◌, refl, sym, ap, ◌∙◌}
use mathlib.Core.List.{List, [], ◌∷◌}
use Prim.Native.Nat.{ℕ}
use Rattle.laws.proofs.One.{answer_one, Same}
use Rattle.std.specs.Prelude.{Result}
use Rattle.refusal.specs.Answer.{answer_by}
use Rattle.refusal.specs.declared.Refusal.{Refusal}
use Rattle.refusal.proofs.OneToOne.{result_by_one}
use Rattle.steps.specs.Calls.{Call, Value, BookAnswer, draft, done, number, was, changed}
use Rattle.layout.specs.Rule.{on_bytes, segments_said, value_said, Does}
use Rattle.layout.specs.declared.Changed.{Changed}
use Rattle.layout.specs.declared.Changed.TheVariants.{Nothing, One, Two}
use Rattle.layout.specs.declared.Reply.{Reply}
use Rattle.layout.specs.declared.Reply.TheVariants as reply

-- the answer that the paper says this of
changed_of : List ℕ → Changed
changed_of [] = Nothing
changed_of (a ∷ []) = One a
changed_of (a ∷ b ∷ bs) = Two a b

reply_of : Value → Reply
reply_of (draft d) = reply.Draft d
reply_of done = reply.Done
reply_of (number n) = reply.Number n
reply_of (was there) = reply.Was there
reply_of (changed segments) = reply.Segments (changed_of segments)

changed_back : (c : Changed) → changed_of (segments_said c) ≡ c
unfolding changed_of
changed_back = elim [ Nothing ↦ refl | One a ↦ refl | Two a b ↦ refl ]

reply_back : (r : Reply) → reply_of (value_said r) ≡ r
unfolding reply_of
reply_back (reply.Draft d) = refl
reply_back reply.Done = refl
reply_back (reply.Number n) = refl
reply_back (reply.Was there) = refl
reply_back (reply.Segments c) = ap reply.Segments (changed_back c)

value_one : (r s : Reply) → value_said r ≡ value_said s → r ≡ s
value_one r s e = sym (reply_back r) ∙ ap reply_of e ∙ reply_back s

-- the promise of a read, whose book is lent to be read only: `answer_by value_said r ≡ (on_bytes l c).0`
pub reply_one : {x : BookAnswer} (r s : Result Reply Refusal) → answer_by value_said r ≡ x → answer_by value_said s ≡ x → r ≡ s
reply_one r s a b = result_by_one value_said value_one r s a b

pub read_one : (l : List ℕ) (c : Call) (r s : Result Reply Refusal) → answer_by value_said r ≡ (on_bytes l c).0 → answer_by value_said s ≡ (on_bytes l c).0 → r ≡ s
read_one l c r s a b = reply_one r s a b

-- any two results that satisfy a call's promise are equal
pub does_one : (l m n : List ℕ) (c : Call) (r q : Result Reply Refusal) → Does l m c r → Does l n c q → Same r q m n
does_one l m n c r q x y = record { answers = reply_one r q x.answer y.answer; bytes = answer_one m n x.left y.left }
