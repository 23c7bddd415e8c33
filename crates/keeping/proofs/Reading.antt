-- A read of a sound book leaves the book. Assumes nothing.
use Prim.Native.Nat.{ℕ, zero, suc}
use mathlib.Core.Path.{◌≡◌, refl, sym, ap, ◌∙◌}
use mathlib.Core.List.{List, [], ◌∷◌}
use Rattle.std.specs.Prelude.{Some}
use lib.ListN.{set}
use Rattle.std.specs.Prelude.{slice_get}
use Rattle.laws.proofs.Tests.{apart}
use Rattle.laws.proofs.Lookups.{some_same}
use Rattle.refusal.specs.declared.Reason.TheVariants.{NoDraft, NoSuchSegment, NotTaken, OutOfRange}
use Rattle.codes.specs.Block.{Content}
use Rattle.steps.specs.Book.{Copy, Draft, closed, working, Book, at, put, or_closed, draft_at}
use Rattle.steps.specs.Calls.{Edit, editing, on, Value, edit_rule, in_range, copy_of, recopy, work_rule, with_drafts, OpenDraft, open_draft, book_rule, step}
use Rattle.steps.proofs.Chains.{Told, told_ok, told_must, told_find, told_then, told_left}
use Rattle.steps.proofs.Leaving.{Reads, read_told}
use Rattle.layout.specs.Sound.{Distinct, Sound}
use Rattle.layout.proofs.Recopied.{recopy_same}
use Rattle.keeping.proofs.Keeping.{draft_fine, open_fine}

-- ---- what is stored again
draft_own : (ds : List Draft) (d : ℕ) (x : Draft) → x ≡ draft_at ds d → put ds d x ≡ ds
draft_own ds zero x e = refl
draft_own ds (suc k) x e = go ds k e
  where
    go : (ds : List Draft) (k : ℕ) → x ≡ or_closed (slice_get ds k) → set ds k x ≡ ds
    go [] k e = refl
    go (y ∷ ds) zero e = ap (λ (z : Draft). z ∷ ds) e
    go (y ∷ ds) (suc k) e = ap (λ (zs : List Draft). y ∷ zs) (go ds k e)

-- an open draft is what its copies and its flag make
open_is : (y : Draft) (x : OpenDraft) → open_draft y ≡ Some x → working x.copies x.stale ≡ y
open_is closed x e = apart cc
open_is (working ks stale) x e = ap (λ (z : OpenDraft). working z.copies z.stale) (sym (some_same e))

-- ---- reads
reads_work : (issue s : ℕ) (c : Content) {ks : List Copy} {e : Edit} → Reads e → Distinct ks
    → Told (λ (z : Value × List Copy). z.1 ≡ ks) (work_rule issue s c (editing e) ks)
unfolding work_rule
reads_work issue s c {ks} {e} r x =
    told_find (copy_of s ks) NotTaken _ (λ k q. told_then (edit_rule issue e k) _ (read_told issue r k)
    (λ z h. told_ok _ (ap (λ (c : Content). recopy s c ks) h ∙ recopy_same s k ks q x)))

pub reads_rule : (b : Book) (d s : ℕ) {e : Edit} → Reads e → Sound b → Told (λ (z : Value × Book). z.1 ≡ b) (book_rule b (on d s (editing e)))
unfolding book_rule
reads_rule b d s {e} r h =
    told_find (open_draft (draft_at b.drafts d)) NoDraft _ (λ x q. told_must (in_range (editing e)) OutOfRange _
    (λ t. told_find (at b.segments s) NoSuchSegment _
    (λ c g. told_then (work_rule b.issue s c (editing e) x.copies) _ (reads_work b.issue s c r (open_fine (draft_fine b d h) q).distinct)
    (λ z f. told_ok _ (ap (λ (js : List Copy). with_drafts b (put b.drafts d (working js x.stale))) f
    ∙ ap (with_drafts b) (draft_own b.drafts d (working x.copies x.stale) (open_is (draft_at b.drafts d) x q)))))))

-- accepted or refused
pub step_reads : (b : Book) (d s : ℕ) {e : Edit} → Reads e → Sound b → (step b (on d s (editing e))).1 ≡ b
unfolding step
step_reads b d s {e} r h = told_left (λ (a : Book). a ≡ b) b (book_rule b (on d s (editing e))) refl (reads_rule b d s r h)
