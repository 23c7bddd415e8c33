-- Demand 3, proved: `whole_drafts`. The invariant: the calls of an open draft that is not stale, run as one whole on the book without drafts,
-- get the same answers and give the same draft, over any segments that agree with the book's at what the draft took. Assumes nothing.
use Prim.Native.Nat.{ℕ}
use mathlib.Core.Path.{◌≡◌, refl, sym, ◌∙◌, ap, subst}
use mathlib.Core.Bool.{Bool, true, false, cond, true≢false}
use mathlib.Core.List.{List, [], ◌∷◌, ◌++◌, map}
use Rattle.std.specs.Prelude.{Option, None, Some}
use lib.Dec.{eqb}
use borrow.Author.Tests.{eqb-true, eq-eqb}
use Rattle.laws.proofs.Tests.{apart}
use Rattle.refusal.specs.declared.Reason.TheVariants.{AllOpen, NoStep}
use Rattle.refusal.specs.Answer.{Answer, ok, no, and_then}
use Rattle.codes.specs.Block.{Content}
use Rattle.steps.specs.Book.{Copy, Draft, closed, working, History, Book, at, put, draft_at, new_book}
use Rattle.steps.specs.Calls.{Call, Work, BookAnswer, Value, opening, on, commit, drop, undo, draft, changed, must_find, settle, lowest, staled, stored, changes, segments_named, newest, with_drafts, committed, undone, book_rule, step}
use Rattle.steps.specs.Serial.{Event, run_calls, calls, draft_on, keep, kept_after, kept_of, WholeDrafts}
use Rattle.steps.proofs.Table.{draft_put_same, draft_put_other, draft_map, no_drafts, none_open}
use Rattle.steps.proofs.Order.{on_closed, commit_closed, commit_stale, commit_fresh, drop_closed, drop_open}
use Rattle.steps.proofs.Agree.{Agree, agree_refl, agree_trans, worked, after, acted, on_worked, work_agree, agree_before, stored_agree, staled_open}

-- ---- runs that get given answers
-- the events' calls, on the book b, get the events' answers and leave the book c
unfoldable pub Runs : Book → List Event → Book → Type 0
Runs b [] c = b ≡ c
Runs b (e ∷ es) c = ((step b e.call).0 ≡ e.answer) × Runs (step b e.call).1 es c

-- no event; events in a row; as a run
runs_none : (b : Book) → Runs b [] b
unfolding Runs
runs_none b = refl

runs_append : (b c d : Book) (x y : List Event) → Runs b x c → Runs c y d → Runs b (x ++ y) d
unfolding Runs
runs_append b c d [] y r q = rw r q
runs_append b c d (e ∷ x) y r q = (r.0, runs_append (step b e.call).1 c d x y r.1 q)

runs_run_calls : (b c : Book) (es : List Event) → Runs b es c → run_calls b (calls es) ≡ (es, c)
unfolding Runs run_calls
runs_run_calls b c [] r = cc
runs_run_calls b c (e ∷ es) r =
    let ih : run_calls (step b e.call).1 (calls es) ≡ (es, c) = runs_run_calls (step b e.call).1 c es r.1 in
    rw (ih, r.0)

-- ---- the books of the run_calls by whole drafts: no draft is open, or draft 1 alone
abbrev pub alone : Book → Book
alone b = record { issue = b.issue; segments = b.segments; drafts = no_drafts; history = b.history }

abbrev bare : ℕ → List Content → History → Book
bare i l p = record { issue = i; segments = l; drafts = no_drafts; history = p }

abbrev solo : ℕ → List Content → History → List Copy → Book
solo i l p ks = record { issue = i; segments = l; drafts = working ks false ∷ closed ∷ closed ∷ closed ∷ []; history = p }

-- the events are a draft's, run whole: they give it the copies ks, over all segments that agree with l at what it took
Good : ℕ → List Content → List Event → List Copy → Type 0
Good i l es ks = (m : List Content) (p : History) → Agree ks l m → Runs (bare i m p) es (solo i m p ks)

-- so it is with every open draft that is not stale
Inv : Book → List Event → Type 0
Inv b past = (d : ℕ) (ks : List Copy) → draft_at b.drafts d ≡ working ks false → Good b.issue b.segments (draft_on d past) ks

-- what is kept of a call runs, and the drafts that stay open are as they were
record Kept (b : Book) (past : List Event) (c : Call) (r : BookAnswer × Book) : Type 0 where
  same : Runs (alone b) (keep (record { call = c; answer = r.0 } ∷ past) c r.0) (alone r.1)
  inv : Inv r.1 (record { call = c; answer = r.0 } ∷ past)

-- a statement about a choice, from one for each case
split : (q : Bool) (P : List Event → Type 0) (x y : List Event) → (q ≡ true → P x) → (q ≡ false → P y) → P (cond q x y)
split true P x y f g = f refl
split false P x y f g = g refl

-- a draft that is closed, or stale, is not one that is open and not stale
never : {A : Type 0} {ks : List Copy} {x : Draft} → x ≡ closed → x ≡ working ks false → A
never h k = apart cc

never_stale : {A : Type 0} {ks js : List Copy} {x : Draft} → x ≡ working js true → x ≡ working ks false → A
never_stale h k = apart cc

-- ---- open
-- a draft begins with nothing taken
good_open : (i : ℕ) (l : List Content) → Good i l (record { call = opening; answer = ok (draft 1) } ∷ []) []
unfolding Good Runs step book_rule and_then lowest
good_open i l m p a = (refl, refl)

-- two open drafts that are one have the same copies, and are stale together
working_eq : {ks js : List Copy} {p q : Bool} → working ks p ≡ working js q → ks ≡ js
working_eq h = cc

working_stale : {ks js : List Copy} {p q : Bool} → working ks p ≡ working js q → p ≡ q
working_stale h = cc

opens_kept : (b : Book) (past : List Event) → Inv b past → (o : Option ℕ)
    → Kept b past opening (settle b (and_then (must_find o AllOpen) λ d. ok (draft d, with_drafts b (put b.drafts d (working [] false)))))
unfolding Inv Runs draft_on and_then
opens_kept b past v None = record { same = refl; inv = v }
opens_kept b past v (Some n) =
    record {
      same = refl;
      inv = λ d ks h. split (eqb d n) (λ es. Good b.issue b.segments es ks) _ _
          (λ q. rw (← working_eq (draft_put_same b.drafts n d (working [] false) ks false h q)) (good_open b.issue b.segments))
          (λ q. v d ks (draft_put_other b.drafts n d (working [] false) ks false h q));
    }

-- ---- a call that is refused because its draft is closed
closed_kept : (b : Book) (past : List Event) → Inv b past → (d : ℕ) → draft_at b.drafts d ≡ closed →
    (e : ℕ) (ks : List Copy) → draft_at b.drafts e ≡ working ks false → (es : List Event) →
    Good b.issue b.segments (cond (eqb e d) es (draft_on e past)) ks
unfolding Inv
closed_kept b past v d c e ks h es =
    split (eqb e d) (λ x. Good b.issue b.segments x ks) _ _
    (λ q. never (ap (draft_at b.drafts) (eqb-true e d q) ∙ c) h)
    (λ q. v e ks h)

-- ---- work
acts_alone : (i : ℕ) (m : List Content) (p : History) (js : List Copy) (r : Answer (Value × List Copy))
    → settle (solo i m p js) (acted (solo i m p js) 1 false r) ≡ ((settle js r).0, solo i m p (after js r))
unfolding and_then
acts_alone i m p js (ok z) = refl
acts_alone i m p js (no n q) = refl

-- one more call on the draft, run alone
work_last : (i : ℕ) (l m : List Content) (p : History) (js : List Copy) (s : ℕ) (w : Work) →
    worked i s (at m s) w js ≡ worked i s (at l s) w js →
    Runs (solo i m p js) (record { call = on 1 s w; answer = (settle js (worked i s (at l s) w js)).0 } ∷ []) (solo i m p (after js (worked i s (at l s) w js)))
unfolding Runs step
work_last i l m p js s w e =
    let f : step (solo i m p js) (on 1 s w) ≡ ((settle js (worked i s (at l s) w js)).0, solo i m p (after js (worked i s (at l s) w js)))
    = ap (settle (solo i m p js)) (on_worked (solo i m p js) 1 s w js false refl) ∙ ap (λ r. settle (solo i m p js) (acted (solo i m p js) 1 false r)) e
    ∙ acts_alone i m p js (worked i s (at l s) w js) in
    (ap (λ r. r.0) f, ap (λ r. r.1) f)

good_work : (i : ℕ) (l : List Content) (es : List Event) (js : List Copy) (s : ℕ) (w : Work) → Good i l es js →
    Good i l (es ++ (record { call = on 1 s w; answer = (settle js (worked i s (at l s) w js)).0 } ∷ [])) (after js (worked i s (at l s) w js))
unfolding Good
good_work i l es js s w g m p a =
    runs_append (bare i m p) (solo i m p js) (solo i m p (after js (worked i s (at l s) w js))) es _
    (g m p (agree_before i s (at l s) w js l m a))
    (work_last i l m p js s w (work_agree i s w js l m a))

-- the draft's calls with one more, where r is what its work gives
More : Book → List Event → ℕ → ℕ → Work → List Copy → Answer (Value × List Copy) → Type 0
More b past d s w js r = (e : ℕ) → eqb e d ≡ true → draft_at b.drafts e ≡ working js false →
    Good b.issue b.segments (draft_on e past ++ (record { call = on 1 s w; answer = (settle js r).0 } ∷ [])) (after js r)

acts_kept : (b : Book) (past : List Event) → Inv b past → (d s : ℕ) (w : Work) (js : List Copy) (stale : Bool) → draft_at b.drafts d ≡ working js stale →
    (r : Answer (Value × List Copy)) → More b past d s w js r → Kept b past (on d s w) (settle b (acted b d stale r))
unfolding Inv Runs draft_on More and_then
acts_kept b past v d s w js stale c (no n p) more =
    record {
      same = refl;
      inv = λ e ks h. split (eqb e d) (λ es. Good b.issue b.segments es ks) _ _
          (λ q.
          let k : working js stale ≡ working ks false = sym (ap (draft_at b.drafts) (eqb-true e d q) ∙ c) ∙ h in
          let f : draft_at b.drafts e ≡ working js false = h ∙ sym (ap (λ (x : List Copy). working x false) (working_eq k)) in
          rw (← working_eq k) (more e q f))
          (λ q. v e ks h);
    }
acts_kept b past v d s w js stale c (ok z) more =
    record {
      same = refl;
      inv = λ e ks h. split (eqb e d) (λ es. Good b.issue b.segments es ks) _ _
          (λ q.
          let k : working z.1 stale ≡ working ks false = draft_put_same b.drafts d e _ ks false h q in
          let f : draft_at b.drafts e ≡ working js false = ap (draft_at b.drafts) (eqb-true e d q) ∙ c ∙ ap (working js) (working_stale k) in
          rw (← working_eq k) (more e q f))
          (λ q. v e ks (draft_put_other b.drafts d e _ ks false h q));
    }

works_kept : (b : Book) (past : List Event) → Inv b past → (d s : ℕ) (w : Work) (x : Draft) → draft_at b.drafts d ≡ x →
    Kept b past (on d s w) (step b (on d s w))
unfolding step Inv Runs draft_on More
works_kept b past v d s w closed c =
    subst (λ r. Kept b past (on d s w) (settle b r)) (sym (on_closed b d s w c))
    (record { same = refl; inv = λ e ks h. closed_kept b past v d c e ks h _ })
works_kept b past v d s w (working js stale) c =
    subst (λ r. Kept b past (on d s w) (settle b r)) (sym (on_worked b d s w js stale c))
    (acts_kept b past v d s w js stale c (worked b.issue s (at b.segments s) w js)
    (λ e q f. good_work b.issue b.segments (draft_on e past) js s w (v e js f)))

-- ---- commit
-- after a store that turns drafts stale, the drafts that are not stale still have their whole run
staled_good : (b : Book) (past : List Event) → Inv b past → (cs : List Copy) (e : ℕ) (ks : List Copy) →
    draft_at (map (staled cs) b.drafts) e ≡ working ks false → Good b.issue (stored cs b.segments) (draft_on e past) ks
unfolding Inv Good
staled_good b past v cs e ks h m p a =
    let k = staled_open cs (draft_at b.drafts e) ks (sym (draft_map (staled cs) refl b.drafts e) ∙ h) in
    v e ks k.0 m p (agree_trans (stored_agree cs ks b.segments k.1) a)

-- a commit of the draft, run alone
commit_last : (b : Book) (d : ℕ) (js : List Copy) →
    Runs (solo b.issue b.segments b.history js) (record { call = commit 1; answer = ok (changed (segments_named (changes b.segments js))) } ∷ [])
    (alone (committed b d (changes b.segments js)))
unfolding Runs step book_rule and_then
commit_last b d js = (refl, refl)

commits_kept : (b : Book) (past : List Event) → Inv b past → (d : ℕ) (x : Draft) → draft_at b.drafts d ≡ x →
    Kept b past (commit d) (step b (commit d))
unfolding step Inv Good Runs draft_on
commits_kept b past v d closed c =
    subst (λ r. Kept b past (commit d) (settle b r)) (sym (commit_closed b d c))
    (record { same = refl; inv = λ e ks h. closed_kept b past v d c e ks h _ })
commits_kept b past v d (working js true) c =
    subst (λ r. Kept b past (commit d) (settle b r)) (sym (commit_stale b d js c))
    (record {
      same = refl;
      inv = λ e ks h. split (eqb e d) (λ es. Good b.issue b.segments es ks) _ _
          (λ q. never_stale (ap (draft_at b.drafts) (eqb-true e d q) ∙ c) h)
          (λ q. v e ks h);
    })
commits_kept b past v d (working js false) c =
    subst (λ r. Kept b past (commit d) (settle b r)) (sym (commit_fresh b d js c))
    (record {
      same = split (eqb d d) (λ es. Runs (alone b) es (alone (committed b d (changes b.segments js)))) _ _
          (λ q.
          runs_append (alone b) (solo b.issue b.segments b.history js) (alone (committed b d (changes b.segments js))) (draft_on d past) _
          (v d js c b.segments b.history (agree_refl js b.segments))
          (commit_last b d js))
          (λ q. absurd (true≢false (sym (eq-eqb d d refl) ∙ q)));
      inv = λ e ks h. split (eqb e d) (λ es. Good b.issue (stored (changes b.segments js) b.segments) es ks) _ _
          (λ q. never refl (draft_put_same (map (staled (changes b.segments js)) b.drafts) d e closed ks false h q))
          (λ q. staled_good b past v (changes b.segments js) e ks
          (draft_put_other (map (staled (changes b.segments js)) b.drafts) d e closed ks false h q));
    })

-- ---- drop
drops_kept : (b : Book) (past : List Event) → Inv b past → (d : ℕ) (x : Draft) → draft_at b.drafts d ≡ x →
    Kept b past (drop d) (step b (drop d))
unfolding step Inv Runs draft_on
drops_kept b past v d closed c =
    subst (λ r. Kept b past (drop d) (settle b r)) (sym (drop_closed b d c))
    (record { same = refl; inv = λ e ks h. closed_kept b past v d c e ks h _ })
drops_kept b past v d (working js stale) c =
    subst (λ r. Kept b past (drop d) (settle b r)) (sym (drop_open b d js stale c))
    (record {
      same = refl;
      inv = λ e ks h. split (eqb e d) (λ es. Good b.issue b.segments es ks) _ _
          (λ q. never refl (draft_put_same b.drafts d e closed ks false h q))
          (λ q. v e ks (draft_put_other b.drafts d e closed ks false h q));
    })

-- ---- undo
abbrev undoes : Book → Option (List Copy) → Answer (Value × Book)
undoes b o = and_then (must_find o NoStep) λ (cs : List Copy). ok (changed (segments_named cs), undone b cs)

-- an undo where no draft is open
undo_last : (b : Book) (o : Option (List Copy)) → newest b.history.kept ≡ o →
    Runs (alone b) (record { call = undo; answer = (settle b (undoes b o)).0 } ∷ []) (alone (settle b (undoes b o)).1)
unfolding Runs step book_rule and_then
undo_last b None e = rw e (refl, refl)
undo_last b (Some cs) e = rw e (refl, refl)

undoes_kept : (b : Book) (past : List Event) → Inv b past → (o : Option (List Copy)) → newest b.history.kept ≡ o →
    Kept b past undo (settle b (undoes b o))
unfolding Inv draft_on and_then
undoes_kept b past v None e = record { same = undo_last b None e; inv = v }
undoes_kept b past v (Some cs) e = record { same = undo_last b (Some cs) e; inv = λ d ks h. staled_good b past v cs d ks h }

-- ---- every call, and every history
step_kept : (b : Book) (past : List Event) → Inv b past → (c : Call) → Kept b past c (step b c)
unfolding step book_rule
step_kept b past v opening = opens_kept b past v (lowest 1 b.drafts)
step_kept b past v (on d s w) = works_kept b past v d s w (draft_at b.drafts d) refl
step_kept b past v (commit d) = commits_kept b past v d (draft_at b.drafts d) refl
step_kept b past v (drop d) = drops_kept b past v d (draft_at b.drafts d) refl
step_kept b past v undo = undoes_kept b past v (newest b.history.kept) refl

runs_kept : (h : List Call) (b : Book) (past : List Event) → Inv b past →
    Runs (alone b) (kept_after past (run_calls b h).0) (alone (run_calls b h).1)
unfolding run_calls kept_after
runs_kept [] b past v = runs_none (alone b)
runs_kept (c ∷ h) b past v =
    let k = step_kept b past v c in
    runs_append (alone b) (alone (step b c).1) (alone (run_calls (step b c).1 h).1) _ _ k.same
    (runs_kept h (step b c).1 (record { call = c; answer = (step b c).0 } ∷ past) k.inv)

-- a book that is made has no open draft
new_inv : (i : ℕ) (l : List Content) → Inv (new_book i l) []
unfolding Inv
new_inv i l d ks h = never (none_open d) h

-- the kept calls get the kept answers, and leave the book that the history left, with every draft closed
pub whole_run : (i : ℕ) (l : List Content) (h : List Call) →
    run_calls (new_book i l) (calls (kept_of (run_calls (new_book i l) h).0)) ≡ (kept_of (run_calls (new_book i l) h).0, alone (run_calls (new_book i l) h).1)
unfolding kept_of
whole_run i l h =
    let b = new_book i l in
    runs_run_calls b (alone (run_calls b h).1) (kept_of (run_calls b h).0) (runs_kept h b [] (new_inv i l))

-- demand 3
pub whole_drafts : (issue : ℕ) (segments : List Content) (h : List Call) → WholeDrafts (new_book issue segments) h
whole_drafts issue segments h =
    let r = whole_run issue segments h in
    record { answers = ap (λ x. x.0) r; segments = ap (λ x. x.1.segments) r; steps = ap (λ x. x.1.history) r }
