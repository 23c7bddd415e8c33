-- Demand 3: what the drafts and the undos did is what they do when each draft runs whole, at its commit.
use Rattle.std.specs.Prelude.{ℕ, ◌≡◌, Bool, true, false, cond, List, [], ◌∷◌, ◌++◌, map, eqb}
use Rattle.refusal.specs.Answer.{ok, no}
use Rattle.steps.specs.Book.{Book}
use Rattle.steps.specs.Calls.{Call, opening, on, commit, drop, undo, BookAnswer, draft, done, number, was, changed, step}

-- ---- "Let open, take, read, edit, commit, drop and undo calls follow in any order"
-- a call, and the answer that it got
pub record Event : Type 0 where
  pub call : Call
  pub answer : BookAnswer

-- "each on the book as the call before left it"
unfoldable pub run_calls : Book → List Call → List Event × Book
run_calls b [] = ([], b)
run_calls b (c ∷ cs) = (record { call = c; answer = (step b c).0 } ∷ (run_calls (step b c).1 cs).0, (run_calls (step b c).1 cs).1)

abbrev pub is_accepted : BookAnswer → Bool
is_accepted (ok v) = true
is_accepted (no n p) = false

-- ---- "A draft is the calls on its number from its open to its commit or drop."
-- is the answer the draft number d?
abbrev pub gives_draft : ℕ → BookAnswer → Bool
gives_draft d (ok (draft n)) = eqb d n
gives_draft d (ok done) = false
gives_draft d (ok (number n)) = false
gives_draft d (ok (was there)) = false
gives_draft d (ok (changed segments)) = false
gives_draft d (no n p) = false

-- its open: the call that gave the number d
abbrev pub is_open_of : ℕ → Call → BookAnswer → Bool
is_open_of d opening a = gives_draft d a
is_open_of d (on e s w) a = false
is_open_of d (commit e) a = false
is_open_of d (drop e) a = false
is_open_of d undo a = false

-- is it a call on the number d?
abbrev pub is_on : ℕ → Call → Bool
is_on d opening = false
is_on d (on e s w) = eqb d e
is_on d (commit e) = eqb d e
is_on d (drop e) = eqb d e
is_on d undo = false

-- "apart from the number a draft was given": where each draft runs whole, none other is open, and its number is 1
abbrev pub on_first : Call → Call
on_first opening = opening
on_first (on e s w) = on 1 s w
on_first (commit e) = commit 1
on_first (drop e) = drop 1
on_first undo = undo

-- The calls on the number d from its open on, refused ones too, with the answers that they got, as those of draft 1. `past` is what happened, newest first.
unfoldable pub draft_on : ℕ → List Event → List Event
draft_on d [] = []
draft_on d (e ∷ past) =
    cond (is_open_of d e.call e.answer) (record { call = opening; answer = ok (draft 1) } ∷ [])
    (cond (is_on d e.call) (draft_on d past ++ (record { call = on_first e.call; answer = e.answer } ∷ []))
    (draft_on d past))

-- ---- "Keep only the undo calls and the drafts whose commit was accepted"
-- What is kept of the newest event of `past`: "run each such draft whole, without a break, at the point of its commit"; an undo, whatever its answer; else nothing.
abbrev pub keep : List Event → Call → BookAnswer → List Event
keep past opening a = []
keep past (on d s w) a = []
keep past (commit d) a = cond (is_accepted a) (draft_on d past) []
keep past (drop d) a = []
keep past undo a = record { call = undo; answer = a } ∷ []

-- what is kept of these events, which follow `past`
unfoldable pub kept_after : List Event → List Event → List Event
kept_after past [] = []
kept_after past (e ∷ es) = keep (e ∷ past) e.call e.answer ++ kept_after (e ∷ past) es

-- the kept calls, with the answers that they got
unfoldable pub kept_of : List Event → List Event
kept_of es = kept_after [] es

abbrev pub calls : List Event → List Call
calls es = map (λ (e : Event). e.call) es

-- ---- the kept calls of the history h, run on the book on which h ran
abbrev pub rerun : Book → List Call → List Event × Book
rerun b h = run_calls b (calls (kept_of (run_calls b h).0))

-- "The segments and the undo steps come out the same byte for byte, and so does every answer those drafts and undos got"
pub record WholeDrafts (b : Book) (h : List Call) : Type 0 where
  pub answers : (rerun b h).0 ≡ kept_of (run_calls b h).0
  pub segments : (rerun b h).1.segments ≡ (run_calls b h).1.segments
  pub steps : (rerun b h).1.history ≡ (run_calls b h).1.history
