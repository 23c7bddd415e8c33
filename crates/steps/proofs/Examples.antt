-- Document 01's last example, computed by the written rules. Assumes nothing.
use mathlib.Core.Path.{◌≡◌, refl}
use mathlib.Core.Bool.{false}
use mathlib.Core.List.{List, [], ◌∷◌, map}
use Rattle.refusal.specs.Answer.{ok, refused, and_then}
use Rattle.refusal.specs.declared.Reason.TheVariants.{NotTaken, StaleDraft, NoStep}
use Rattle.codes.specs.Block.{Content, insert}
use Rattle.blocks.specs.Block.{same_list}
use Rattle.steps.specs.Book.{Book, new_book}
use Rattle.steps.specs.Calls.{Call, opening, on, commit, drop, undo, taking, editing, add, BookAnswer, draft, done, was, changed, member, edit_rule, copy_of, recopy, has, work_rule, touches, stored, same_content, insert_copy, changes, latest, lowest, newest, older, book_rule, step}
use Rattle.steps.specs.Serial.{Event, run_calls, draft_on, kept_after, kept_of, calls}

-- `MDC003-005-242100-` and `VAZ053-250000-`, issued 2002-04-24 0822
one : Content
one = record { purge = 16994700; places = 630003 ∷ 630005 ∷ [] }

two : Content
two = record { purge = 16994880; places = 1093053 ∷ [] }

made : Book
made = new_book 16993942 (one ∷ two ∷ [])

-- "Draft 1 takes segments 1, 2; draft 2 takes 2, changes it, commits; draft 1 changes 1 only; its commit: 21, also after an undo."
history : List Call
history =
    opening ∷ opening ∷ on 1 1 taking ∷ on 1 2 taking
    ∷ on 2 2 taking ∷ on 2 2 (editing (add 1093054)) ∷ commit 2
    ∷ on 1 1 (editing (add 630004)) ∷ commit 1 ∷ undo ∷ commit 1 ∷ []

abbrev answers_of : List Event → List BookAnswer
answers_of es = map (λ (e : Event). e.answer) es

-- the answers, call by call
stale_refused :
    answers_of (run_calls made history).0
    ≡ ok (draft 1) ∷ ok (draft 2) ∷ ok done ∷ ok done
    ∷ ok done ∷ ok (was false) ∷ ok (changed (2 ∷ []))
    ∷ ok (was false) ∷ refused StaleDraft 0 ∷ ok (changed (2 ∷ [])) ∷ refused StaleDraft 0 ∷ []
unfolding one two made history insert same_list member edit_rule copy_of recopy has work_rule touches stored same_content insert_copy changes latest lowest newest older and_then book_rule step run_calls
stale_refused = refl

-- what is kept: draft 2 whole, and the undo
stale_kept : calls (kept_of (run_calls made history).0) ≡ opening ∷ on 1 2 taking ∷ on 1 2 (editing (add 1093054)) ∷ commit 1 ∷ undo ∷ []
unfolding one two made history insert same_list member edit_rule copy_of recopy has work_rule touches stored same_content insert_copy changes latest lowest newest older and_then book_rule step run_calls draft_on kept_after kept_of
stale_kept = refl

-- two drafts that mix, one refused call, a draft that is dropped, and one undo too many: the newest step goes first
mixed : List Call
mixed =
    opening ∷ opening ∷ on 1 1 taking ∷ on 2 2 taking ∷ on 1 2 (editing (add 1093054))
    ∷ on 2 2 (editing (add 1093054)) ∷ on 1 1 (editing (add 630004)) ∷ commit 1 ∷ opening ∷ drop 1 ∷ commit 2
    ∷ undo ∷ undo ∷ undo ∷ []

mixed_answers :
    answers_of (run_calls made mixed).0
    ≡ ok (draft 1) ∷ ok (draft 2) ∷ ok done ∷ ok done ∷ refused NotTaken 0
    ∷ ok (was false) ∷ ok (was false) ∷ ok (changed (1 ∷ [])) ∷ ok (draft 1) ∷ ok done ∷ ok (changed (2 ∷ []))
    ∷ ok (changed (2 ∷ [])) ∷ ok (changed (1 ∷ [])) ∷ refused NoStep 0 ∷ []
unfolding one two made mixed insert same_list member edit_rule copy_of recopy has work_rule touches stored same_content insert_copy changes latest lowest newest older and_then book_rule step run_calls
mixed_answers = refl

-- each draft whole where it was committed, with its refused call; every undo
mixed_kept :
    calls (kept_of (run_calls made mixed).0)
    ≡ opening ∷ on 1 1 taking ∷ on 1 2 (editing (add 1093054)) ∷ on 1 1 (editing (add 630004)) ∷ commit 1
    ∷ opening ∷ on 1 2 taking ∷ on 1 2 (editing (add 1093054)) ∷ commit 1
    ∷ undo ∷ undo ∷ undo ∷ []
unfolding one two made mixed insert same_list member edit_rule copy_of recopy has work_rule touches stored same_content insert_copy changes latest lowest newest older and_then book_rule step run_calls draft_on kept_after kept_of
mixed_kept = refl
