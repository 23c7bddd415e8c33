-- What a draft's work depends on: the segments that it took, and which segments exist. Assumes nothing.
use Prim.Native.Nat.{ℕ}
use mathlib.Core.Path.{◌≡◌, refl, sym, ◌∙◌, ap}
use mathlib.Core.Bool.{Bool, true, false, not, cond, ◌||◌, or-true, true≢false}
use mathlib.Core.List.{List, [], ◌∷◌, ◌++◌}
use Rattle.std.specs.Prelude.{Option, None, Some}
use lib.Dec.{eqb, ltb}
use lib.ListN.{length}
use borrow.Author.Tests.{eq-eqb, ne_eqb}
use Rattle.laws.proofs.Lookups.{some_same}
use Rattle.laws.proofs.Tests.{apart, or_no}
use Rattle.refusal.specs.declared.Reason.TheVariants.{NoSuchSegment, NotTaken, TakenAlready, TwoTaken, OutOfRange}
use Rattle.refusal.specs.Answer.{Answer, ok, no, must, and_then}
use Rattle.codes.specs.Block.{Content}
use Rattle.steps.specs.Book.{Copy, Draft, closed, working, Book, at, put, draft_at}
use Rattle.steps.specs.Calls.{Work, taking, editing, on, Value, done, must_find, settle, edit_rule, in_range, copy_of, recopy, has, work_rule, touches, staled, stored, with_drafts, book_rule}
use Rattle.steps.proofs.Table.{is_some, at_put_other, at_put_some}

-- two lists of segments have the same numbers, and the same content at what the copies ks were taken from
pub record Agree (ks : List Copy) (l m : List Content) : Type 0 where
  pub shape : (s : ℕ) → is_some (at m s) ≡ is_some (at l s)
  pub alike : (s : ℕ) → has s ks ≡ true → at m s ≡ at l s

pub agree_refl : (ks : List Copy) (l : List Content) → Agree ks l l
agree_refl ks l = record { shape = λ s. refl; alike = λ s h. refl }

pub agree_trans : {ks : List Copy} {j l m : List Content} → Agree ks j l → Agree ks l m → Agree ks j m
agree_trans a b = record { shape = λ s. b.shape s ∙ a.shape s; alike = λ s h. b.alike s h ∙ a.alike s h }

-- ---- a draft never gives up what it took
or_map : (b x y : Bool) → (x ≡ true → y ≡ true) → (b || x) ≡ true → (b || y) ≡ true
or_map true x y f h = refl
or_map false x y f h = f h

has_append : (x : ℕ) (ks js : List Copy) → has x ks ≡ true → has x (ks ++ js) ≡ true
unfolding has
has_append x [] js h = cc
has_append x (k ∷ ks) js h = or_map (eqb x k.segment) (has x ks) (has x (ks ++ js)) (has_append x ks js) h

has_last : (s : ℕ) (c : Content) (ks : List Copy) → has s (ks ++ (record { segment = s; held = c } ∷ [])) ≡ true
unfolding has
has_last s c [] = rw (eq-eqb s s refl)
has_last s c (k ∷ ks) = or_map (eqb s k.segment) true _ (λ e. has_last s c ks) (or-true (eqb s k.segment))

pub has_recopy : (x s : ℕ) (c : Content) (ks : List Copy) → has x (recopy s c ks) ≡ has x ks
unfolding has recopy
has_recopy x s c [] = refl
has_recopy x s c (k ∷ ks) = ap (λ (r : Bool). eqb x k.segment || r) (has_recopy x s c ks)

-- where no copy is found, none is there
pub copy_none : (s : ℕ) (ks : List Copy) → copy_of s ks ≡ None → has s ks ≡ false
unfolding copy_of has
copy_none s [] e = refl
copy_none s (k ∷ ks) e = go (eqb s k.segment) e (copy_none s ks)
  where
    go : (q : Bool) → cond q (Some k.held) (copy_of s ks) ≡ None → (copy_of s ks ≡ None → has s ks ≡ false) → (q || has s ks) ≡ false
    go true f g = apart cc
    go false f g = g f

-- Work on the copies alone: 24, 15, then the work's own. `held` is what the segment holds in the book, if it is there.
abbrev ranged : ℕ → ℕ → Option Content → Work → List Copy → Bool → Answer (Value × List Copy)
ranged i s held w ks r = and_then (must r OutOfRange 0) λ _. and_then (must_find held NoSuchSegment) λ c. work_rule i s c w ks

unfoldable pub worked : ℕ → ℕ → Option Content → Work → List Copy → Answer (Value × List Copy)
worked i s held w ks = ranged i s held w ks (in_range w)

-- the copies that a draft has after it
abbrev pub after : List Copy → Answer (Value × List Copy) → List Copy
after ks r = (settle ks r).1

-- the book whose draft d has these copies, with the work's value
abbrev leaving : Book → ℕ → Bool → Value × List Copy → Answer (Value × Book)
leaving b d stale r = ok (r.0, with_drafts b (put b.drafts d (working r.1 stale)))

-- what a draft's work gives, as a call on its book
abbrev pub acted : Book → ℕ → Bool → Answer (Value × List Copy) → Answer (Value × Book)
acted b d stale r = and_then r (leaving b d stale)

-- the rule of a call on an open draft is that of the work on its copies
pub on_worked : (b : Book) (d s : ℕ) (w : Work) (ks : List Copy) (stale : Bool) → draft_at b.drafts d ≡ working ks stale
    → book_rule b (on d s w) ≡ acted b d stale (worked b.issue s (at b.segments s) w ks)
unfolding book_rule worked and_then
on_worked b d s w ks stale e = rw e (go (at b.segments s) (in_range w))
  where
    go : (held : Option Content) (r : Bool)
        → and_then (must r OutOfRange 0) (λ _. and_then (must_find held NoSuchSegment) λ c. and_then (work_rule b.issue s c w ks) (leaving b d stale))
        ≡ acted b d stale (ranged b.issue s held w ks r)
    go held false = refl
    go None true = refl
    go (Some c) true = refl

-- an edit changes no number of a copy
edits_has : (s x : ℕ) (ks : List Copy) (r : Answer (Value × Content)) → has x ks ≡ true
    → has x (after ks (and_then r λ (z : Value × Content). ok (z.0, recopy s z.1 ks))) ≡ true
unfolding and_then
edits_has s x ks (ok z) h = has_recopy x s z.1 ks ∙ h
edits_has s x ks (no n p) h = h

takes : ℕ → Content → List Copy → Bool → Bool → Answer (Value × List Copy)
takes s c ks there room =
    and_then (must (not there) TakenAlready 0) λ _.
    and_then (must room TwoTaken 0) λ _.
    ok (done, ks ++ (record { segment = s; held = c } ∷ []))

takes_has : (s x : ℕ) (c : Content) (ks : List Copy) (there room : Bool) → has x ks ≡ true → has x (after ks (takes s c ks there room)) ≡ true
unfolding takes and_then
takes_has s x c ks true room h = h
takes_has s x c ks false false h = h
takes_has s x c ks false true h = has_append x ks _ h

works_has : (i s : ℕ) (c : Content) (w : Work) (ks : List Copy) (x : ℕ) → has x ks ≡ true → has x (after ks (work_rule i s c w ks)) ≡ true
unfolding work_rule takes and_then
works_has i s c taking ks x h = takes_has s x c ks (has s ks) (ltb (length ks) 2) h
works_has i s c (editing e) ks x h = go (copy_of s ks)
  where
    go : (o : Option Content) → has x (after ks (and_then (must_find o NotTaken) λ k. and_then (edit_rule i e k) λ r. ok (r.0, recopy s r.1 ks))) ≡ true
    go None = h
    go (Some k) = edits_has s x ks (edit_rule i e k) h

-- after any work it has what it had
work_has : (i s : ℕ) (o : Option Content) (w : Work) (ks : List Copy) (x : ℕ) → has x ks ≡ true → has x (after ks (worked i s o w ks)) ≡ true
unfolding worked and_then
work_has i s o w ks x h = go o (in_range w)
  where
    go : (o : Option Content) (r : Bool) → has x (after ks (ranged i s o w ks r)) ≡ true
    go o false = h
    go None true = h
    go (Some c) true = works_has i s c w ks x h

-- ---- work looks at the book's segment only to see whether it is there, or to take it
takes_frame : (s : ℕ) (c d : Content) (ks : List Copy) (there room : Bool) → (has s (after ks (takes s c ks there room)) ≡ true → Some d ≡ Some c)
    → takes s d ks there room ≡ takes s c ks there room
unfolding takes and_then
takes_frame s c d ks true room h = refl
takes_frame s c d ks false false h = refl
takes_frame s c d ks false true h = let e : d ≡ c = some_same (h (has_last s c ks)) in ap (λ (y : Content). takes s y ks false true) e

works_frame : (i s : ℕ) (c d : Content) (w : Work) (ks : List Copy) → (has s (after ks (work_rule i s c w ks)) ≡ true → Some d ≡ Some c)
    → work_rule i s d w ks ≡ work_rule i s c w ks
unfolding work_rule takes
works_frame i s c d taking ks h = takes_frame s c d ks (has s ks) (ltb (length ks) 2) h
works_frame i s c d (editing e) ks h = refl

work_frame : (i s : ℕ) (o p : Option Content) (w : Work) (ks : List Copy) → is_some p ≡ is_some o
    → (has s (after ks (worked i s o w ks)) ≡ true → p ≡ o) → worked i s p w ks ≡ worked i s o w ks
unfolding worked and_then
work_frame i s o p w ks e h = go o p (in_range w) e h
  where
    go : (o p : Option Content) (r : Bool) → is_some p ≡ is_some o → (has s (after ks (ranged i s o w ks r)) ≡ true → p ≡ o)
        → ranged i s p w ks r ≡ ranged i s o w ks r
    go o p false e h = refl
    go None None true e h = refl
    go None (Some d) true e h = cc
    go (Some c) None true e h = cc
    go (Some c) (Some d) true e h = works_frame i s c d w ks h

-- where the segments agree at all that the draft has after the work, the work is the same
pub work_agree : (i s : ℕ) (w : Work) (ks : List Copy) (l m : List Content) → Agree (after ks (worked i s (at l s) w ks)) l m
    → worked i s (at m s) w ks ≡ worked i s (at l s) w ks
work_agree i s w ks l m a = work_frame i s (at l s) (at m s) w ks (a.shape s) (a.alike s)

-- segments that agree at what the draft has after the work agree at what it had before
pub agree_before : (i s : ℕ) (o : Option Content) (w : Work) (ks : List Copy) (l m : List Content) → Agree (after ks (worked i s o w ks)) l m → Agree ks l m
agree_before i s o w ks l m a = record { shape = a.shape; alike = λ x h. a.alike x (work_has i s o w ks x h) }

-- ---- a store keeps whatever it does not touch
-- a draft that took nothing is not touched
pub touches_none : (cs : List Copy) → touches cs [] ≡ false
unfolding touches has
touches_none [] = refl
touches_none (c ∷ cs) = touches_none cs

-- the number of a segment that was not taken is another than that of one that was
other_number : (x s : ℕ) (ks : List Copy) → has x ks ≡ true → has s ks ≡ false → eqb x s ≡ false
other_number x s ks h k = ne_eqb x s (λ e. true≢false (sym h ∙ ap (λ (n : ℕ). has n ks) e ∙ k))

pub stored_agree : (cs ks : List Copy) (l : List Content) → touches cs ks ≡ false → Agree ks l (stored cs l)
unfolding touches stored
stored_agree [] ks l h = agree_refl ks l
stored_agree (c ∷ cs) ks l h =
    agree_trans (stored_agree cs ks l (or_no (has c.segment ks) (touches cs ks) h).1)
    (record {
      shape = λ x. at_put_some (stored cs l) c.segment x c.held;
      alike = λ x g. at_put_other (stored cs l) c.segment x c.held (other_number x c.segment ks g (or_no (has c.segment ks) (touches cs ks) h).0);
    })

-- a draft that is open and not stale after the store was so before, and took none of what was stored
pub staled_open : (cs : List Copy) (x : Draft) (ks : List Copy) → staled cs x ≡ working ks false → (x ≡ working ks false) × (touches cs ks ≡ false)
staled_open cs closed ks h = (cc, cc)
staled_open cs (working js true) ks h = (cc, cc)
staled_open cs (working js false) ks h =
    let e : js ≡ ks = cc in
    let f : touches cs js ≡ false = cc in
    (ap (λ (v : List Copy). working v false) e, ap (touches cs) (sym e) ∙ f)
